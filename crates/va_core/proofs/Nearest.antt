-- The answer to k: the first k of the sorted pairs.
use Rattle.std.proofs.Common.{◌≡◌, ◌≢◌, ℕ, zero, suc, ◌+◌, ◌<◌, ◌≤◌, min, Bool, true, false, List, [], ◌∷◌, ◌++◌, length, take, get_or, ltb, leb, Contains, if◌then◌else◌, refl, ap, sym, ◌∙◌, subst, length-take, arith}
use Rattle.std.specs.List.{filter, AllByRecursion}
use Rattle.std.specs.List.Sorted.{IsPermutation}
use Rattle.std.proofs.lemmas.Bool.Decides.{nat_tests}
use Rattle.std.proofs.lemmas.List.Elements.{filter_agree, filter_passes, All-contains}
use Rattle.std.proofs.lemmas.List.Sorted.{IsPermutation-sym, Contains-permutation}
use Rattle.va_core.specs.declared.pair.Pair.{Pair}
use Rattle.va_core.specs.Ranking.{is_less, lesser, placed, ascending, answer, AllDiffer, IsBelow, IsAscending}
use Rattle.va_core.specs.Sorting.{IsInOrder}
use Rattle.va_core.specs.Laws.{AnswerIsExact, AnswerAscends, AnswerIsFull, WithinIsExact, WithinAscends}
use Rattle.va_core.proofs.Order.{not_self}
use Rattle.va_core.proofs.Sorting.{all_filter, floor_through}
use Rattle.va_core.proofs.Counting.{lesser_permuted, lesser_none, lesser_floor}
use Rattle.va_core.proofs.Members.{contains_filtered, contains_unfiltered, filter_same}
use Rattle.std.proofs.lemmas.List.{take_more, take_all}
use Rattle.va_core.proofs.Ranking.{ascending_more, take_placed, filter_ascending, ascending_permutes, ascending_permuted, ascending_in_order, lesser_ascending, length_ascending, ascends, take_ascends}

-- of a strictly ascending list, the pairs with fewer than k lesser ones are the first k
one_less : (x : Pair) (l all : List Pair) (k : ℕ) → IsBelow x l → AllByRecursion (λ p. ltb (lesser (x ∷ all) p) (suc k) ≡ ltb (lesser all p) k) l
one_less x [] all k a = tt
one_less x (p ∷ l) all k a = (rw a.0 (grind (arith, nat_tests)), one_less x l all k a.1)

none_pass : (l all : List Pair) → filter (λ p. ltb (lesser all p) zero) l ≡ []
none_pass [] all = refl
none_pass (p ∷ l) all = let no : ltb (lesser all p) zero ≡ false = grind (arith, nat_tests) in rw no (none_pass l all)

first_passes : (x : Pair) (l : List Pair) (k : ℕ) → IsBelow x l → ltb (lesser (x ∷ l) x) (suc k) ≡ true
first_passes x l k a = let none : lesser l x ≡ 0 = lesser_none x l a in rw (not_self x, none) (grind (arith, nat_tests))

pub least_are_first : (l : List Pair) (k : ℕ) → IsAscending l → filter (λ p. ltb (lesser l p) k) l ≡ take k l
least_are_first l zero a = none_pass l l
least_are_first [] (suc k) a = refl
least_are_first (x ∷ l) (suc k) a =
    let rest : filter (λ p. ltb (lesser (x ∷ l) p) (suc k)) l ≡ take k l =
    filter_same (λ p. ltb (lesser (x ∷ l) p) (suc k)) (λ p. ltb (lesser l p) k) l (one_less x l l k a.0) ∙ least_are_first l k a.1 in
    rw (first_passes x l k a.0) (ap (λ ps. x ∷ ps) rest)

few_of_sorted : (k : ℕ) (all l : List Pair) → AllByRecursion (λ p. ltb (lesser all p) k ≡ ltb (lesser (ascending all) p) k) l
few_of_sorted k all [] = tt
few_of_sorted k all (p ∷ l) = (ap (λ (n : ℕ). ltb n k) (sym (lesser_ascending all p)), few_of_sorted k all l)

-- the answer is the first k of the sorted list
pub answer_is_first : (pairs : List Pair) (k : ℕ) → AllDiffer pairs → answer pairs k ≡ take k (ascending pairs)
answer_is_first pairs k d =
    sym (filter_ascending (λ p. ltb (lesser pairs p) k) pairs)
    ∙ (filter_same (λ p. ltb (lesser pairs p) k) (λ p. ltb (lesser (ascending pairs) p) k) (ascending pairs) (few_of_sorted k pairs (ascending pairs))
    ∙ least_are_first (ascending pairs) k (ascends pairs d))

-- the pairs that pass a test, in order
passing_holds : (test : Pair → Bool) (pairs : List Pair) (p : Pair) → Contains (ascending (filter test pairs)) p → Contains pairs p × (test p ≡ true)
passing_holds test pairs p h =
    let part : Contains (filter test pairs) p = Contains-permutation (ascending (filter test pairs)) (filter test pairs) p (IsPermutation-sym (filter test pairs) (ascending (filter test pairs)) (ascending_permutes (filter test pairs))) h in
    (contains_unfiltered test pairs p part, All-contains (λ q. test q ≡ true) (filter test pairs) p (filter_passes test pairs) part)

passing_has : (test : Pair → Bool) (pairs : List Pair) (p : Pair) → Contains pairs p → test p ≡ true → Contains (ascending (filter test pairs)) p
passing_has test pairs p h passes = Contains-permutation (filter test pairs) (ascending (filter test pairs)) p (ascending_permutes (filter test pairs)) (contains_filtered test pairs p h passes)

pub differ_filter : (test : Pair → Bool) (pairs : List Pair) → AllDiffer pairs → AllDiffer (filter test pairs)
differ_filter test [] d = tt
differ_filter test (p ∷ pairs) d = elim (test p) as (λ c. AllDiffer (if c then p ∷ filter test pairs else filter test pairs)) [
  | true ↦ (all_filter (λ q. p ≢ q) test pairs d.0, differ_filter test pairs d.1)
  | false ↦ differ_filter test pairs d.1
]

pub answer_exact : AnswerIsExact
answer_exact pairs k p = (
  λ h. let both = passing_holds (λ q. ltb (lesser pairs q) k) pairs p h in (both.0, grind (arith, nat_tests, both.1)),
  λ h. passing_has (λ q. ltb (lesser pairs q) k) pairs p h.0 (grind (arith, nat_tests, h.1)),
)

pub within_exact : WithinIsExact
within_exact pairs radius p = (
  λ h. let both = passing_holds (λ q. leb q.dist radius) pairs p h in (both.0, grind (arith, nat_tests, both.1)),
  λ h. passing_has (λ q. leb q.dist radius) pairs p h.0 (grind (arith, nat_tests, h.1)),
)

pub within_ascending : WithinAscends
within_ascending pairs radius d = ascends (filter (λ p. leb p.dist radius) pairs) (differ_filter (λ p. leb p.dist radius) pairs d)

pub answer_ascending : AnswerAscends
answer_ascending pairs k d = subst IsAscending (sym (answer_is_first pairs k d)) (take_ascends k (ascending pairs) (ascends pairs d))

pub answer_full : AnswerIsFull
answer_full pairs k d =
    ap length (answer_is_first pairs k d)
    ∙ (length-take k (ascending pairs)
    ∙ ap (min k) (length_ascending pairs))

pub answer_permuted : (ps qs : List Pair) (k : ℕ) → IsPermutation ps qs → answer qs k ≡ answer ps k
answer_permuted ps qs k moved =
    sym (filter_ascending (λ p. ltb (lesser qs p) k) qs)
    ∙ (ap (filter (λ p. ltb (lesser qs p) k)) (ascending_permuted ps qs moved)
    ∙ (filter_agree (λ p. ltb (lesser qs p) k) (λ p. ltb (lesser ps p) k) (λ p. ap (λ (n : ℕ). ltb n k) (lesser_permuted ps qs p moved)) (ascending ps)
    ∙ filter_ascending (λ p. ltb (lesser ps p) k) ps))

-- A search keeps the first k of the pairs that it has seen: one pair more, and all of them.
pub kept_more : (k : ℕ) (p : Pair) (seen kept : List Pair) → kept ≡ take k (ascending seen) → take k (placed p kept) ≡ take k (ascending (seen ++ p ∷ []))
kept_more k p seen kept e =
    ap (λ (ps : List Pair). take k (placed p ps)) e
    ∙ (take_placed k p (ascending seen)
    ∙ ap (take k) (sym (ascending_more seen p)))

pub kept_next : (k : ℕ) (pairs : List Pair) (i : ℕ) (d : Pair) (kept : List Pair) → i < length pairs →
    kept ≡ take k (ascending (take i pairs)) → take k (placed (get_or pairs i d) kept) ≡ take k (ascending (take (i + 1) pairs))
kept_next k pairs i d kept h e =
    kept_more k (get_or pairs i d) (take i pairs) kept e
    ∙ ap (λ (ps : List Pair). take k (ascending ps)) (sym (take_more pairs i d h))

pub kept_all : (k : ℕ) (pairs : List Pair) (i : ℕ) (kept : List Pair) → length pairs ≤ i → AllDiffer pairs →
    kept ≡ take k (ascending (take i pairs)) → kept ≡ answer pairs k
kept_all k pairs i kept h d e =
    e ∙ (ap (λ (ps : List Pair). take k (ascending ps)) (take_all i pairs h) ∙ sym (answer_is_first pairs k d))

-- of the first k as many are less than a pair as of all, up to k
pub lesser_first : (k : ℕ) (l : List Pair) (p : Pair) → IsInOrder (λ q. q) l → lesser (take k l) p ≡ min k (lesser l p)
lesser_first zero l p s = omega arith
lesser_first (suc k) [] p s = omega arith
lesser_first (suc k) (q ∷ l) p s =
    let rest : lesser (take k l) p ≡ min k (lesser l p) = lesser_first k l p s.1 in
    elim (is_less q p) as (λ c. is_less q p ≡ c → (if c then 1 else 0) + lesser (take k l) p ≡ min (suc k) ((if c then 1 else 0) + lesser l p)) [
      | true ↦ λ e. omega (arith, rest)
      | false ↦ λ e. let none : lesser l p ≡ 0 = lesser_floor p l (floor_through (λ r. r) p q l e s.0) in omega (arith, rest, none)
    ] refl

-- so the kept pairs tell whether fewer than k of all are less than a pair
pub kept_tells : (k : ℕ) (seen : List Pair) (p : Pair) → ltb (lesser (take k (ascending seen)) p) k ≡ ltb (lesser seen p) k
kept_tells k seen p =
    let first : lesser (take k (ascending seen)) p ≡ min k (lesser (ascending seen) p) = lesser_first k (ascending seen) p (ascending_in_order seen) in
    let same : lesser (ascending seen) p ≡ lesser seen p = lesser_ascending seen p in
    rw (first, same) (grind (arith, nat_tests))
