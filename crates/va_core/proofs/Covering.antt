-- Known pairs that keep out all unknown ones.
use Rattle.std.proofs.Common.{◌≡◌, ◌≢◌, ℕ, zero, suc, ◌+◌, ◌-◌, ◌≤◌, min, Bool, true, false, ◌||◌, List, [], ◌∷◌, length, take, Option, None, Some, slice_get, leb, if◌then◌else◌, refl, ap, sym, ◌∙◌, inl, inr, sub-one, arith}
use Rattle.std.specs.List.{filter, AllByRecursion}
use Rattle.std.proofs.lemmas.Bool.Decides.{nat_tests}
use Rattle.va_core.specs.declared.pair.Pair.{Pair}
use Rattle.va_core.specs.Ranking.{is_less, lesser, ascending, AllDiffer}
use Rattle.va_core.specs.Sorting.{IsInOrder, IsFloor}
use Rattle.va_core.specs.Approximations.{NamesDiffer, pairs}
use Rattle.va_core.specs.Kth.{kth, is_before, is_beyond, first_before}
use Rattle.va_core.proofs.Order.{not_self, not_above, at_most_through, less_where_apart}
use Rattle.va_core.proofs.Counting.{lesser_floor}
use Rattle.va_core.proofs.Sorting.{floor_through, all_filter}
use Rattle.va_core.proofs.Ranking.{lesser_ascending, ascending_in_order, differ_by_id, length_ascending}
use Rattle.va_core.proofs.Nearest.{lesser_first}
use Rattle.va_core.proofs.Members.{IsAmong, all_from, all_at}
use Rattle.va_core.proofs.Telling.{NamesOnly, is_same, has, has_ascending}

pub only_at : {X : Type 0} (name : X → ℕ) (ids : List X) (i : X) → NamesDiffer name ids → IsAmong i ids → NamesOnly name i ids
only_at name [] i differ in' = tt
only_at {X} name (x ∷ ids) i differ (inl e) = (λ h. sym e, all_from (λ n. name n ≡ name i → n ≡ i) ids (λ n g h. absurd (all_at (λ y. name y ≢ name x) ids n differ.0 g (h ∙ ap name e))))
only_at {X} name (x ∷ ids) i differ (inr g) = (λ h. absurd (all_at (λ y. name y ≢ name x) ids i differ.0 g (sym h)), only_at name ids i differ.1 g)

pub names_filter : {X : Type 0} (name : X → ℕ) (test : X → Bool) (l : List X) → NamesDiffer name l → NamesDiffer name (filter test l)
names_filter name test [] h = tt
names_filter name test (x ∷ l) h = elim (test x) as (λ c. NamesDiffer name (if c then x ∷ filter test l else filter test l)) [
  | true ↦ (all_filter (λ y. name y ≢ name x) test l h.0, names_filter name test l h.1)
  | false ↦ names_filter name test l h.1
]

ids_at : {X : Type 0} (name d : X → ℕ) (n : ℕ) (ms : List X) → AllByRecursion (λ y. name y ≢ n) ms → AllByRecursion (λ (q : Pair). q.id ≢ n) (pairs name d ms)
ids_at name d n [] h = tt
ids_at name d n (y ∷ ms) h = (h.0, ids_at name d n ms h.1)

ids_differ : {X : Type 0} (name d : X → ℕ) (ms : List X) → NamesDiffer name ms → NamesDiffer (λ (p : Pair). p.id) (pairs name d ms)
ids_differ name d [] h = tt
ids_differ name d (x ∷ ms) h = (ids_at name d (name x) ms h.0, ids_differ name d ms h.1)

pub named_pairs_differ : {X : Type 0} (name d : X → ℕ) (ms : List X) → NamesDiffer name ms → AllDiffer (pairs name d ms)
named_pairs_differ name d ms h = differ_by_id (pairs name d ms) (ids_differ name d ms h)

-- the pair number n tells how many of a list in order are less
pub beyond_at : (l : List Pair) (n : ℕ) (t : Pair) → IsInOrder (λ q. q) l → is_beyond (slice_get l n) t ≡ leb (suc n) (lesser l t)
beyond_at [] n t s = let e : leb (suc n) 0 ≡ false = grind (arith, nat_tests) in sym e
beyond_at (q ∷ l) zero t s = elim (is_less q t) as (λ c. is_less q t ≡ c → is_less q t ≡ leb (suc zero) ((if c then 1 else 0) + lesser l t)) [
  | true ↦ λ e. let g : leb (suc zero) (1 + lesser l t) ≡ true = grind (arith, nat_tests) in e ∙ sym g
  | false ↦ λ e. let none : lesser l t ≡ 0 = lesser_floor t l (floor_through (λ r. r) t q l e s.0) in let g : leb (suc zero) (0 + lesser l t) ≡ false = grind (arith, nat_tests, none) in e ∙ sym g
] refl
beyond_at (q ∷ l) (suc n) t s =
    let rest : is_beyond (slice_get l n) t ≡ leb (suc n) (lesser l t) = beyond_at l n t s.1 in
    rest ∙ elim (is_less q t) as (λ c. is_less q t ≡ c → leb (suc n) (lesser l t) ≡ leb (suc (suc n)) ((if c then 1 else 0) + lesser l t)) [
      | true ↦ λ e. grind (arith, nat_tests)
      | false ↦ λ e. let none : lesser l t ≡ 0 = lesser_floor t l (floor_through (λ r. r) t q l e s.0) in grind (arith, nat_tests, none)
    ] refl

floor_first : (k : ℕ) (p : Pair) (l : List Pair) → IsFloor (λ r. r) p l → IsFloor (λ r. r) p (take k l)
floor_first zero p l f = tt
floor_first (suc k) p [] f = tt
floor_first (suc k) p (q ∷ l) f = (f.0, floor_first k p l f.1)

first_in_order : (k : ℕ) (l : List Pair) → IsInOrder (λ r. r) l → IsInOrder (λ r. r) (take k l)
first_in_order zero l s = tt
first_in_order (suc k) [] s = tt
first_in_order (suc k) (p ∷ l) s = (floor_first k p l s.0, first_in_order k l s.1)

beyond_kth : (n : ℕ) (ps : List Pair) (t : Pair) → is_beyond (slice_get (take (suc n) (ascending ps)) n) t ≡ leb (suc n) (lesser ps t)
beyond_kth n ps t =
    let first : lesser (take (suc n) (ascending ps)) t ≡ min (suc n) (lesser (ascending ps) t) = lesser_first (suc n) (ascending ps) t (ascending_in_order ps) in
    let same : lesser (ascending ps) t ≡ lesser ps t = lesser_ascending ps t in
    beyond_at (take (suc n) (ascending ps)) n t (first_in_order (suc n) (ascending ps) (ascending_in_order ps))
    ∙ rw (first, same) (grind (arith, nat_tests))

-- the k-th of the first k pairs tells whether k pairs are less
pub kth_tells : (k : ℕ) (ps : List Pair) (t : Pair) → 1 ≤ k → is_beyond (kth k (take k (ascending ps))) t ≡ leb k (lesser ps t)
kth_tells zero ps t h = absurd (omega arith)
kth_tells (suc n) ps t h = rw sub-one (beyond_kth n ps t)

-- what is kept out can't come before
pub beyond_shuts : (o : Option Pair) (p : Pair) → is_beyond o p ≡ true → is_before o p ≡ false
beyond_shuts None p h = cc
beyond_shuts (Some last) p h = not_above last p h

some_same : (p q : Pair) → ◌≡◌ {A = Option Pair} (Some p) (Some q) → p ≡ q
some_same p q h = cc

first_has : (p : Pair) (l : List Pair) → has p (p ∷ l) ≡ true
first_has p l = let e : is_same p p ≡ true = grind (arith, nat_tests) in rw e refl

later_has : (p q : Pair) (l : List Pair) → has p l ≡ true → has p (q ∷ l) ≡ true
later_has p q l h = rw h (elim (is_same p q) as (λ c. (c || true) ≡ true) [ true ↦ refl | false ↦ refl ])

or_step : (p q : Pair) (l : List Pair) (b : Bool) → (b ≡ true → has p l ≡ true) → (is_same p q || b) ≡ true → has p (q ∷ l) ≡ true
or_step p q l b rest h = elim (is_same p q) as (λ c. (c || b) ≡ true → (c || has p l) ≡ true) [ true ↦ λ e. refl | false ↦ λ e. rest e ] h

has_at : (l : List Pair) (n : ℕ) (p : Pair) → slice_get l n ≡ Some p → has p l ≡ true
has_at [] n p h = cc
has_at (q ∷ l) zero p h = let e : q ≡ p = some_same q p h in rw e (first_has p l)
has_at (q ∷ l) (suc n) p h = later_has p q l (has_at l n p h)

has_first : (k : ℕ) (p : Pair) (l : List Pair) → has p (take k l) ≡ true → has p l ≡ true
has_first zero p l h = cc
has_first (suc k) p [] h = h
has_first (suc k) p (q ∷ l) h = or_step p q l (has p (take k l)) (has_first k p l) h

not_first : (k : ℕ) (p : Pair) (ps : List Pair) → has p ps ≡ false → has p (take k (ascending ps)) ≡ false
not_first k p ps none = elim (has p (take k (ascending ps))) as (λ c. has p (take k (ascending ps)) ≡ c → c ≡ false) [
  | true ↦ λ e. let h : has p ps ≡ true = sym (has_ascending p ps) ∙ has_first k p (ascending ps) e in cc
  | false ↦ λ e. refl
] refl

shut_at : (l : List Pair) (n : ℕ) (o : Option Pair) (p : Pair) → slice_get l n ≡ o → has p l ≡ false → is_before o p ≡ false → is_beyond o p ≡ true
shut_at l n None p e none shut = cc
shut_at l n (Some last) p e none shut = less_where_apart last p (λ same. let h : has last l ≡ true = has_at l n last e in let h' : has p l ≡ true = rw (sym same) h in cc) shut

-- a pair that is none of these, and that the k-th of them keeps out, has k of them below it
pub shut_out : (k : ℕ) (ps : List Pair) (p : Pair) → 1 ≤ k → has p ps ≡ false → is_before (kth k (take k (ascending ps))) p ≡ false → k ≤ lesser ps p
shut_out k ps p some none shut =
    let none' : has p (take k (ascending ps)) ≡ false = not_first k p ps none in
    let b : is_beyond (kth k (take k (ascending ps))) p ≡ true = shut_at (take k (ascending ps)) (k - 1) (kth k (take k (ascending ps))) p refl none' shut in
    let t : leb k (lesser ps p) ≡ true = sym (kth_tells k ps p some) ∙ b in
    grind (arith, nat_tests, t)

pub out_shuts : (k : ℕ) (ps : List Pair) (p : Pair) → 1 ≤ k → k ≤ lesser ps p → is_before (kth k (take k (ascending ps))) p ≡ false
out_shuts k ps p some h =
    let t : leb k (lesser ps p) ≡ true = grind (arith, nat_tests, h) in
    beyond_shuts (kth k (take k (ascending ps))) p (kth_tells k ps p some ∙ t)

-- what the least pair of a list is
none_less : (p : Pair) (l : List Pair) → lesser l p ≡ 0 → AllByRecursion (λ q. is_less q p ≡ false) l
none_less p [] h = tt
none_less p (q ∷ l) h = elim (is_less q p) as (λ c. (if c then 1 else 0) + lesser l p ≡ 0 → (c ≡ false) × AllByRecursion (λ r. is_less r p ≡ false) l) [
  | true ↦ λ e. absurd (omega (arith, e))
  | false ↦ λ e. (refl, none_less p l (let z : lesser l p ≡ 0 = omega (arith, e) in z))
] h

least_at : (p : Pair) (m l : List Pair) → IsInOrder (λ q. q) m → slice_get m 0 ≡ Some p → lesser m p ≡ 0
least_at p [] l s h = cc
least_at p (q ∷ m) l s h = let e : q ≡ p = some_same q p h in rw (sym e) (let none : lesser m q ≡ 0 = lesser_floor q m s.0 in rw (not_self q) (omega (arith, none)))

pub first_is_least : (p : Pair) (l : List Pair) → slice_get (ascending l) 0 ≡ Some p → AllByRecursion (λ q. is_less q p ≡ false) l
first_is_least p l h = none_less p l (sym (lesser_ascending l p) ∙ least_at p (ascending l) l (ascending_in_order l) h)

open_through : (o : Option Pair) (p q : Pair) → is_less q p ≡ false → is_before o p ≡ false → is_before o q ≡ false
open_through None p q h e = e
open_through (Some last) p q h e = at_most_through q last p e h

all_shut : (o : Option Pair) (p : Pair) (l : List Pair) → is_before o p ≡ false → AllByRecursion (λ q. is_less q p ≡ false) l → AllByRecursion (λ q. is_before o q ≡ false) l
all_shut o p [] e h = tt
all_shut o p (q ∷ l) e h = (open_through o p q h.0 e, all_shut o p l e h.1)

shut_first : (o : Option Pair) (p : Pair) → (if is_before o p then Some p else None) ≡ None → is_before o p ≡ false
shut_first o p h = elim (is_before o p) as (λ c. (if c then Some p else None) ≡ None → c ≡ false) [ true ↦ λ e. cc | false ↦ λ e. refl ] h

none_first : (l : List Pair) → slice_get l 0 ≡ None → l ≡ []
none_first [] h = refl
none_first (p ∷ l) h = cc

none_ascending : (l : List Pair) → ascending l ≡ [] → l ≡ []
none_ascending [] h = refl
none_ascending (p ∷ l) h =
    let e : length (ascending (p ∷ l)) ≡ 0 = ap (λ (ps : List Pair). length ps) h in
    let f : length (ascending (p ∷ l)) ≡ length (p ∷ l) = length_ascending (p ∷ l) in
    absurd (let g : suc (length l) ≡ 0 = sym f ∙ e in omega (arith, g))

shut_by : (o first : Option Pair) (l : List Pair) → slice_get (ascending l) 0 ≡ first → first_before o first ≡ None → AllByRecursion (λ q. is_before o q ≡ false) l
shut_by o None l e h = rw (none_ascending l (none_first (ascending l) e)) tt
shut_by o (Some p) l e h = all_shut o p l (shut_first o p h) (first_is_least p l e)

pub all_shut_by : (o : Option Pair) (l : List Pair) → first_before o (slice_get (ascending l) 0) ≡ None → AllByRecursion (λ q. is_before o q ≡ false) l
all_shut_by o l h = shut_by o (slice_get (ascending l) 0) l refl h
