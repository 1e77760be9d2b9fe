-- Ranking all pairs, and the first k of them.
use Rattle.std.proofs.Common.{◌≡◌, ◌≢◌, ℕ, zero, suc, ◌+◌, Bool, true, false, List, [], ◌∷◌, ◌++◌, length, take, if◌then◌else◌, refl, ap, sym, ◌∙◌, subst, is_lt, arith}
use Rattle.std.specs.List.{filter, AllByRecursion}
use Rattle.std.specs.List.Sorted.{IsPermutation, IsSortedBy}
use Rattle.std.proofs.lemmas.Bool.Decides.{nat_tests}
use Rattle.std.proofs.lemmas.List.Sorted.{IsPermutation-refl, IsPermutation-sym, IsPermutation-to_front, IsPermutation-trans, length_permutation}
use Rattle.va_core.specs.declared.pair.Pair.{Pair}
use Rattle.va_core.specs.Ranking.{is_less, pair_cmp, lesser, placed, ascending, IsAbsent, AllDiffer, IsBelow, IsAscending}
use Rattle.va_core.specs.Approximations.{NamesDiffer}
use Rattle.va_core.specs.Sorting.{placed_by, ascending_by, IsFloor, IsInOrder}
use Rattle.va_core.proofs.Order.{Trichotomy, less, same, more, order, less_through, less_where_apart, not_self}
use Rattle.va_core.proofs.Sorting.{floor_through, placed_by_twice, take_placed_by, filter_ascending_by, ascending_by_permutes, ascending_by_in_order, all_ascending_by}
use Rattle.va_core.proofs.Counting.{lesser_permuted, lesser_floor}

-- pairs are their own keys
pub placed_is_by : (p : Pair) (l : List Pair) → placed p l ≡ placed_by (λ q. q) p l
placed_is_by p [] = refl
placed_is_by p (q ∷ l) = ap (λ ps. if is_less q p then q ∷ ps else p ∷ (q ∷ l)) (placed_is_by p l)

pub ascending_is_by : (l : List Pair) → ascending l ≡ ascending_by (λ q. q) l
ascending_is_by [] = refl
ascending_is_by (p ∷ l) = ap (placed p) (ascending_is_by l) ∙ placed_is_by p (ascending_by (λ q. q) l)

-- two placements commute
pub placed_twice : (p q : Pair) (l : List Pair) → placed p (placed q l) ≡ placed q (placed p l)
placed_twice p q l =
    ap (placed p) (placed_is_by q l)
    ∙ (placed_is_by p (placed_by (λ r. r) q l)
    ∙ (placed_by_twice (λ r. r) p q l (λ e. e)
    ∙ (sym (placed_is_by q (placed_by (λ r. r) p l))
    ∙ ap (placed q) (sym (placed_is_by p l)))))

-- one pair more at the end
pub ascending_more : (ps : List Pair) (p : Pair) → ascending (ps ++ p ∷ []) ≡ placed p (ascending ps)
ascending_more [] p = refl
ascending_more (q ∷ ps) p = ap (placed q) (ascending_more ps p) ∙ placed_twice q p (ascending ps)

-- what isn't among the k least now will not be among them later
pub take_placed : (k : ℕ) (p : Pair) (l : List Pair) → take k (placed p (take k l)) ≡ take k (placed p l)
take_placed k p l =
    ap (take k) (placed_is_by p (take k l))
    ∙ (take_placed_by (λ q. q) k p l
    ∙ ap (take k) (sym (placed_is_by p l)))

-- a filter commutes with the sort
pub filter_ascending : (test : Pair → Bool) (l : List Pair) → filter test (ascending l) ≡ ascending (filter test l)
filter_ascending test l =
    ap (filter test) (ascending_is_by l)
    ∙ (filter_ascending_by (λ q. q) test l
    ∙ sym (ascending_is_by (filter test l)))

-- the sort only moves pairs
pub ascending_permutes : (l : List Pair) → IsPermutation l (ascending l)
ascending_permutes l = subst (IsPermutation l) (sym (ascending_is_by l)) (ascending_by_permutes (λ q. q) l)

pub lesser_ascending : (l : List Pair) (p : Pair) → lesser (ascending l) p ≡ lesser l p
lesser_ascending l p = lesser_permuted l (ascending l) p (ascending_permutes l)

pub length_ascending : (l : List Pair) → length (ascending l) ≡ length l
length_ascending l = length_permutation l (ascending l) (ascending_permutes l)

pub length_placed : (p : Pair) (l : List Pair) → length (placed p l) ≡ suc (length l)
length_placed p [] = refl
length_placed p (q ∷ l) = elim (is_less q p) as (λ c. length (if c then q ∷ placed p l else p ∷ (q ∷ l)) ≡ suc (suc (length l))) [
  | true ↦ ap suc (length_placed p l)
  | false ↦ refl
]

-- what holds of each pair holds in any order
pub all_ascending : (P : Pair → Type 0) (l : List Pair) → AllByRecursion P l → AllByRecursion P (ascending l)
all_ascending P l h = subst (AllByRecursion P) (sym (ascending_is_by l)) (all_ascending_by P (λ q. q) l h)

-- a list in order is determined by how many of it are less than each pair
pub ascending_in_order : (l : List Pair) → IsInOrder (λ p. p) (ascending l)
ascending_in_order l = subst (IsInOrder (λ p. p)) (sym (ascending_is_by l)) (ascending_by_in_order (λ p. p) l)

same_first : (p q : Pair) (l m : List Pair) → IsFloor (λ r. r) p l → IsFloor (λ r. r) q m → ((r : Pair) → lesser (p ∷ l) r ≡ lesser (q ∷ m) r) → Trichotomy p q → p ≡ q
same_first p q l m f g h (same e) = e
same_first p q l m f g h (less a b) =
    let none : lesser m q ≡ 0 = lesser_floor q m g in
    let counts : 1 + lesser l q ≡ 0 + lesser m q = rw (a, not_self q) at (h q) in
    absurd (omega arith)
same_first p q l m f g h (more a b) =
    let none : lesser l p ≡ 0 = lesser_floor p l f in
    let counts : 0 + lesser l p ≡ 1 + lesser m p = rw (b, not_self p) at (h p) in
    absurd (omega arith)

pub same_in_order : (l m : List Pair) → IsInOrder (λ p. p) l → IsInOrder (λ p. p) m → length l ≡ length m → ((p : Pair) → lesser l p ≡ lesser m p) → l ≡ m
same_in_order [] [] s t e h = refl
same_in_order [] (q ∷ m) s t e h = absurd (omega arith)
same_in_order (p ∷ l) [] s t e h = absurd (omega arith)
same_in_order (p ∷ l) (q ∷ m) s t e h =
    let first : p ≡ q = same_first p q l m s.0 t.0 h (order p q) in
    let rest : l ≡ m = same_in_order l m s.1 t.1 (omega arith) (λ r. let counts : (if is_less p r then 1 else 0) + lesser l r ≡ (if is_less p r then 1 else 0) + lesser m r = rw (sym first) at (h r) in omega (arith, counts)) in
    cc

-- the ascending list is the one in order that has the same pairs
pub ascending_is_only : (l m : List Pair) → IsPermutation l m → IsInOrder (λ p. p) m → m ≡ ascending l
ascending_is_only l m moved s = same_in_order m (ascending l) s (ascending_in_order l)
    (length_permutation l m moved ∙ sym (length_ascending l))
    (λ p. lesser_permuted l m p moved ∙ sym (lesser_ascending l p))

-- the order of the pairs changes no answer
pub ascending_permuted : (l m : List Pair) → IsPermutation l m → ascending m ≡ ascending l
ascending_permuted l m moved = ascending_is_only l (ascending m) (IsPermutation-trans l m (ascending m) moved (ascending_permutes m)) (ascending_in_order m)

-- a pair that is less than none goes to the end
floor_append : (p q : Pair) (l : List Pair) → IsFloor (λ r. r) q l → is_less p q ≡ false → IsFloor (λ r. r) q (l ++ p ∷ [])
floor_append p q [] f h = (h, tt)
floor_append p q (r ∷ l) f h = (f.0, floor_append p q l f.1 h)

in_order_append : (p : Pair) (l : List Pair) → IsInOrder (λ r. r) l → AllByRecursion (λ q. is_less p q ≡ false) l → IsInOrder (λ r. r) (l ++ p ∷ [])
in_order_append p [] s h = (tt, tt)
in_order_append p (q ∷ l) s h = (floor_append p q l s.0 h.0, in_order_append p l s.1 h.1)

pub placed_last : (p : Pair) (l : List Pair) → IsInOrder (λ r. r) l → AllByRecursion (λ q. is_less p q ≡ false) l → placed p l ≡ l ++ p ∷ []
placed_last p l s h =
    ap (placed p) (ascending_is_only l l (IsPermutation-refl l) s)
    ∙ sym (ascending_is_only (p ∷ l) (l ++ p ∷ []) (IsPermutation-sym (l ++ p ∷ []) (p ∷ l) (IsPermutation-to_front l p)) (in_order_append p l s h))

-- pairs whose ids differ are different
absent_by_id : (p : Pair) (l : List Pair) → AllByRecursion (λ q. q.id ≢ p.id) l → IsAbsent p l
absent_by_id p [] h = tt
absent_by_id p (q ∷ l) h = (λ e. h.0 (ap (λ (r : Pair). r.id) (sym e)), absent_by_id p l h.1)

pub differ_by_id : (l : List Pair) → NamesDiffer (λ (p : Pair). p.id) l → AllDiffer l
differ_by_id [] h = tt
differ_by_id (p ∷ l) h = (absent_by_id p l h.0, differ_by_id l h.1)

-- pairs that differ are strictly ascending, once sorted
below_through : (p q : Pair) (l : List Pair) → is_less p q ≡ true → IsBelow q l → IsBelow p l
below_through p q [] h a = tt
below_through p q (r ∷ l) h a = (less_through p q r h a.0, below_through p q l h a.1)

below_placed : (p q : Pair) (l : List Pair) → is_less q p ≡ true → IsBelow q l → IsBelow q (placed p l)
below_placed p q [] h a = (h, tt)
below_placed p q (r ∷ l) h a = elim (is_less r p) as (λ c. IsBelow q (if c then r ∷ placed p l else p ∷ (r ∷ l))) [
  | true ↦ (a.0, below_placed p q l h a.1)
  | false ↦ (h, a)
]

placed_ascends : (p : Pair) (l : List Pair) → IsAbsent p l → IsAscending l → IsAscending (placed p l)
placed_ascends p [] n a = (tt, tt)
placed_ascends p (r ∷ l) n a = elim (is_less r p) as (λ c. is_less r p ≡ c → IsAscending (if c then r ∷ placed p l else p ∷ (r ∷ l))) [
  | true ↦ λ e. (below_placed p r l e a.0, placed_ascends p l n.1 a.1)
  | false ↦ λ e. let h = less_where_apart p r n.0 e in ((h, below_through p r l h a.0), a)
] refl

pub ascends : (l : List Pair) → AllDiffer l → IsAscending (ascending l)
ascends [] d = tt
ascends (p ∷ l) d = placed_ascends p (ascending l) (all_ascending (λ q. p ≡ q → ⊥) l d.0) (ascends l d.1)

below_take : (k : ℕ) (p : Pair) (l : List Pair) → IsBelow p l → IsBelow p (take k l)
below_take zero p l a = tt
below_take (suc k) p [] a = tt
below_take (suc k) p (q ∷ l) a = (a.0, below_take k p l a.1)

pub take_ascends : (k : ℕ) (l : List Pair) → IsAscending l → IsAscending (take k l)
take_ascends zero l a = tt
take_ascends (suc k) [] a = tt
take_ascends (suc k) (p ∷ l) a = (below_take k p l a.0, take_ascends k l a.1)

-- how the code compares pairs is their order, and what it sorts is in order
pub cmp_is_less : (p q : Pair) → is_lt (pair_cmp p q) ≡ is_less p q
cmp_is_less p q = grind (arith, nat_tests)

follow : (p q : Pair) (l : List Pair) → is_less q p ≡ false → IsInOrder (λ r. r) (q ∷ l) → IsInOrder (λ r. r) (p ∷ (q ∷ l))
follow p q l h s = ((h, floor_through (λ r. r) p q l h s.0), s)

pub sorted_in_order : (l : List Pair) → IsSortedBy (λ p q. is_lt (pair_cmp p q)) l → IsInOrder (λ r. r) l
sorted_in_order [] sorted = tt
sorted_in_order (p ∷ []) sorted = (tt, tt)
sorted_in_order (p ∷ (q ∷ l)) sorted =
    follow p q l (sym (cmp_is_less q p) ∙ sorted zero p (omega arith) (omega arith)) (sorted_in_order (q ∷ l) (λ k d low high. let up : suc k + 1 ≡ suc (k + 1) = omega arith in rw up at (sorted (suc k) d (omega arith) (omega arith))))
