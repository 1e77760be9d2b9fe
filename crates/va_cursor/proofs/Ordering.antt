-- The entries of a queue in order, as one is taken out or put in.
use Rattle.std.proofs.Common.{◌≡◌, ◌≢◌, ℕ, ◌<◌, ◌≤◌, false, List, ◌∷◌, Contains, length, remove, ap, sym, ◌∙◌, subst, ◌+◌, arith}
use Rattle.std.specs.List.{AllByRecursion}
use Rattle.std.specs.List.Sorted.{IsPermutation}
use Rattle.std.proofs.lemmas.List.Sorted.{IsPermutation-cons, IsPermutation-remove, IsPermutation-sym, IsPermutation-trans, Contains-permutation, length_permutation}
use Rattle.va_core.specs.declared.pair.Pair.{Pair}
use Rattle.va_core.specs.Approximations.{NamesDiffer}
use Rattle.va_core.specs.Ranking.{is_less}
use Rattle.va_core.specs.Sorting.{placed_by, IsFloor}
use Rattle.va_core.proofs.Keyed.{ascending_by_is_only}
use Rattle.va_core.proofs.Sorting.{all_ascending_by, ascending_by_in_order, ascending_by_permutes}
use Rattle.va_keep.specs.Queued.{low_pair}
use Rattle.va_keep.specs.declared.entry.Entry.{Entry}
use Rattle.va_noa.proofs.Lists.{at_member, one_of_name}
use Rattle.va_cursor.specs.Rankings.{id_at, settled}
use Rattle.va_cursor.specs.Cursors.{in_order}
use Rattle.va_cursor.proofs.Filtering.{all_members, all_weaker, differ_placed}

pub all_permuted : {X : Type 0} (P : X → Type 0) (l m : List X) → IsPermutation l m → AllByRecursion P l → AllByRecursion P m
all_permuted P l m moved all = all_weaker (λ x. Contains m x) P (λ x h. at_member P l x all (Contains-permutation m l x (IsPermutation-sym l m moved) h)) m (all_members m)

-- entries with one least pair are the same
pub one_of_pair : (l : List Entry) → NamesDiffer id_at (in_order l) → (a b : Entry) → Contains l a → Contains l b → low_pair a ≡ low_pair b → a ≡ b
one_of_pair l differ a b p q e =
    let into : (x : Entry) → Contains l x → Contains (in_order l) x = λ x h. Contains-permutation l (in_order l) x (ascending_by_permutes low_pair l) h in
    one_of_name id_at (in_order l) a b differ (into a p) (into b q) (ap (λ (pair : Pair). pair.id) e)

pub popped_in_order : {old new : List Entry} {e : Entry} → NamesDiffer id_at (in_order old) → IsPermutation old (e ∷ new) → IsFloor low_pair e new → in_order old ≡ e ∷ in_order new
popped_in_order {old} {new} {e} differ moved floor =
    sym (ascending_by_is_only low_pair old (e ∷ in_order new)
    (IsPermutation-trans old (e ∷ new) (e ∷ in_order new) moved (IsPermutation-cons e new (in_order new) (ascending_by_permutes low_pair new)))
    (all_ascending_by (λ y. is_less (low_pair y) (low_pair e) ≡ false) low_pair new floor, ascending_by_in_order low_pair new)
    (one_of_pair old differ))

pub pushed_in_order : {old new : List Entry} {e : Entry} → AllByRecursion (λ y. id_at y ≢ id_at e) (in_order old) → NamesDiffer id_at (in_order old) → IsPermutation (e ∷ old) new → in_order new ≡ placed_by low_pair e (in_order old)
pushed_in_order {old} {new} {e} others differ moved =
    ascending_by_is_only low_pair (e ∷ old) (in_order new)
    (IsPermutation-trans (e ∷ old) new (in_order new) moved (ascending_by_permutes low_pair new))
    (ascending_by_in_order low_pair new)
    (one_of_pair (e ∷ old) (differ_placed id_at low_pair e (in_order old) others differ))

pub first_in_order : (l : List Entry) {e : Entry} → NamesDiffer id_at (in_order l) → Contains l e → IsFloor low_pair e l → (rest : List Entry) × (in_order l ≡ e ∷ rest)
first_in_order l {e} differ h floor =
    let moved : IsPermutation l (e ∷ remove l h.0) = IsPermutation-remove l h.0 e h.1 (sym h.2) in
    (in_order (remove l h.0), popped_in_order differ moved (all_permuted (λ y. is_less (low_pair y) (low_pair e) ≡ false) l (e ∷ remove l h.0) moved floor).1)

first_is : {A : Type 0} (a b : A) (l m : List A) → a ∷ l ≡ b ∷ m → a ≡ b
first_is a b l m h = cc

rest_is : {A : Type 0} (a b : A) (l m : List A) → a ∷ l ≡ b ∷ m → l ≡ m
rest_is a b l m h = cc

-- the first is taken out, and put back with its distance
pub settled_in_order : {old mid new : List Entry} {e popped : Entry} {rest : List Entry} (dist : ℕ) → NamesDiffer id_at (in_order old) → IsPermutation old (popped ∷ mid) → IsFloor low_pair popped mid →
    IsPermutation (settled dist popped ∷ mid) new → in_order old ≡ e ∷ rest → in_order new ≡ placed_by low_pair (settled dist e) rest
settled_in_order {old} {mid} {new} {e} {popped} {rest} dist differ moved floor pushed first =
    let split : in_order old ≡ popped ∷ in_order mid = popped_in_order differ moved floor in
    let same : popped ∷ in_order mid ≡ e ∷ rest = sym split ∙ first in
    let is : popped ≡ e = first_is popped e (in_order mid) rest same in
    let are : in_order mid ≡ rest = rest_is popped e (in_order mid) rest same in
    let apart : NamesDiffer id_at (popped ∷ in_order mid) = subst (NamesDiffer id_at) split differ in
    pushed_in_order {e = settled dist popped} apart.0 apart.1 pushed
    ∙ ap (λ x. placed_by low_pair (settled dist x) (in_order mid)) is
    ∙ ap (placed_by low_pair (settled dist e)) are

-- there is room for what is put back
pub popped_room : {old new : List Entry} {e : Entry} (room : ℕ) → IsPermutation old (e ∷ new) → length old ≤ room → length new < room
popped_room {old} {new} {e} room moved fits =
    let count : length (e ∷ new) ≡ length old = length_permutation old (e ∷ new) moved in
    omega (arith, count, fits)

pub pushed_count : {old mid : List Entry} {e : Entry} (new : List Entry) → IsPermutation old (e ∷ mid) → length new ≡ length mid + 1 → length new ≡ length old
pushed_count {old} {mid} {e} new moved pushed =
    let count : length (e ∷ mid) ≡ length old = length_permutation old (e ∷ mid) moved in
    omega (arith, count, pushed)
