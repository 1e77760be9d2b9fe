-- What is popped from the queue is the first of the cells that are left in order.
use Rattle.std.proofs.Common.{◌≡◌, ◌<◌, ◌≤◌, ℕ, List, [], ◌∷◌, map, Contains, ap, sym, ◌∙◌, subst}
use Rattle.std.specs.List.Sorted.{IsPermutation}
use Rattle.std.proofs.lemmas.List.Sorted.{IsPermutation-cons, IsPermutation-sym, IsPermutation-trans, Contains-permutation}
use Rattle.va_core.specs.declared.pair.Pair.{Pair}
use Rattle.va_core.specs.Approximations.{low_pair}
use Rattle.va_core.specs.Sorting.{ascending_by, IsFloor, IsInOrder}
use Rattle.va_core.specs.Distance.{Query}
use Rattle.va_core.proofs.Keyed.{ascending_by_is_only}
use Rattle.va_core.proofs.Sorting.{all_ascending_by, ascending_by_in_order, ascending_by_permutes, ascending_by_same}
use Rattle.va_keep.specs.Queued as queues
use Rattle.va_keep.specs.declared.entry.Entry.{Entry}
use Rattle.va_ports.specs.Shelves.{Contents, id_of}
use Rattle.va_ports.specs.Searches.{bounds_of}
use Rattle.va_bounded.specs.BoundedCells.{cell_of}
use Rattle.va_core.proofs.Members.{contains_first, contains_later}
use Rattle.va_noa.specs.Entries.{AreEntries, bounded_at, entry_of}
use Rattle.va_noa.proofs.Lists.{image_of, IsImage, tail}

abbrev Cells : Type 0
Cells = List (ℕ × ℕ)

-- cells with one id are the same
abbrev pub Apart : Cells → Type 0
Apart cells = (a b : ℕ × ℕ) → Contains cells a → Contains cells b → id_of a ≡ id_of b → a ≡ b

first_is : {A : Type 0} (a b : A) (l m : List A) → a ∷ l ≡ b ∷ m → a ≡ b
first_is a b l m h = cc

rest_is : {A : Type 0} (a b : A) (l m : List A) → a ∷ l ≡ b ∷ m → l ≡ m
rest_is a b l m h = cc

none_first : {A : Type 0} (a : A) (l : List A) → a ∷ l ≡ [] → ⊥
none_first a l h = cc

module _ (contents : Contents) (query : Query) where
  floor_mapped : (cell : ℕ × ℕ) (cells : Cells) → IsFloor (low_pair (bounds_of contents query)) cell cells → IsFloor queues.low_pair (entry_of contents query cell) (map (entry_of contents query) cells)
  floor_mapped cell [] f = tt
  floor_mapped cell (c ∷ cells) f = (f.0, floor_mapped cell cells f.1)

  order_mapped : (cells : Cells) → IsInOrder (low_pair (bounds_of contents query)) cells → IsInOrder queues.low_pair (map (entry_of contents query) cells)
  order_mapped [] s = tt
  order_mapped (c ∷ cells) s = (floor_mapped c cells s.0, order_mapped cells s.1)

  one_at : (cells : Cells) (a b : Entry) → Apart cells → IsImage (entry_of contents query) cells a → IsImage (entry_of contents query) cells b → queues.low_pair a ≡ queues.low_pair b → a ≡ b
  one_at cells a b apart x y e =
      let ids : id_of x.of ≡ id_of y.of = ap (λ (n : Entry). n.id) x.is ∙ ap (λ (p : Pair). p.id) e ∙ sym (ap (λ (n : Entry). n.id) y.is) in
      sym x.is ∙ ap (entry_of contents query) (apart x.of y.of x.member y.member ids) ∙ y.is

  one_of_key : (cells : Cells) (a b : Entry) → Apart cells → Contains (map (entry_of contents query) cells) a → Contains (map (entry_of contents query) cells) b → queues.low_pair a ≡ queues.low_pair b → a ≡ b
  one_of_key cells a b apart p q e = one_at cells a b apart (image_of (entry_of contents query) cells a p) (image_of (entry_of contents query) cells b q) e

  -- the entry is that of the first cell, and the queue has those of the others
  pub record IsFirst (cells : Cells) (entry : Entry) (left : List Entry) : Type 0 where
    pub cells_are : cells ≡ cell_of (bounded_at entry) ∷ tail cells
    pub is : entry ≡ entry_of contents query (cell_of (bounded_at entry))
    pub left_are : IsPermutation (map (entry_of contents query) (tail cells)) left

  first_of : (cells : Cells) (entry : Entry) (left : List Entry) → entry ∷ ascending_by queues.low_pair left ≡ map (entry_of contents query) cells → IsFirst cells entry left
  first_of [] entry left e = absurd (none_first entry (ascending_by queues.low_pair left) e)
  first_of (cell ∷ cells) entry left e =
      let here : entry ≡ entry_of contents query cell = first_is entry (entry_of contents query cell) (ascending_by queues.low_pair left) (map (entry_of contents query) cells) e in
      let rest : ascending_by queues.low_pair left ≡ map (entry_of contents query) cells = rest_is entry (entry_of contents query cell) (ascending_by queues.low_pair left) (map (entry_of contents query) cells) e in
      let back : cell ≡ cell_of (bounded_at entry) = sym (ap (λ (n : Entry). cell_of (bounded_at n)) here) in
      record {
        cells_are = ap (λ (c : ℕ × ℕ). c ∷ cells) back;
        is = here ∙ ap (entry_of contents query) back;
        left_are = subst (λ (l : List Entry). IsPermutation l left) rest (IsPermutation-sym left (ascending_by queues.low_pair left) (ascending_by_permutes queues.low_pair left));
      }

  pub popped_first : (cells : Cells) {entries left : List Entry} {entry : Entry} → IsInOrder (low_pair (bounds_of contents query)) cells → Apart cells → IsPermutation (map (entry_of contents query) cells) entries → IsPermutation entries (entry ∷ left) → IsFloor queues.low_pair entry left →
      IsFirst cells entry left
  popped_first cells {entries} {left} {entry} order apart held moved floor =
      let all = map (entry_of contents query) cells in
      let sorted = entry ∷ ascending_by queues.low_pair left in
      let perm : IsPermutation all sorted = IsPermutation-trans all entries sorted held
      (IsPermutation-trans entries (entry ∷ left) sorted moved (IsPermutation-cons entry left (ascending_by queues.low_pair left) (ascending_by_permutes queues.low_pair left))) in
      first_of cells entry left
      (ascending_by_is_only queues.low_pair all sorted perm
      (all_ascending_by (λ (n : Entry). _) queues.low_pair left floor, ascending_by_in_order queues.low_pair left)
      (λ a b p q e. one_of_key cells a b apart p q e)
      ∙ ascending_by_same queues.low_pair all (order_mapped cells order))

-- what holds of the entries holds of the one that is popped, and of those that are left
pub entry_first : (capacity : ℕ) {entry : Entry} {entries left : List Entry} → IsPermutation entries (entry ∷ left) → AreEntries capacity entries → (entry.place < capacity) × (entry.low ≤ entry.high)
entry_first capacity {entry} {entries} {left} moved all = all entry (Contains-permutation (entry ∷ left) entries entry (IsPermutation-sym entries (entry ∷ left) moved) (contains_first entry left))

pub entries_rest : (capacity : ℕ) {entry : Entry} {entries left : List Entry} → IsPermutation entries (entry ∷ left) → AreEntries capacity entries → AreEntries capacity left
entries_rest capacity {entry} {entries} {left} moved all e h = all e (Contains-permutation (entry ∷ left) entries e (IsPermutation-sym entries (entry ∷ left) moved) (contains_later entry e left h))
