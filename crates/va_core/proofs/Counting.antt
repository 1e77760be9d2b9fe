-- How many pairs are less than a pair.
use Rattle.std.proofs.Common.{◌≡◌, ℕ, zero, suc, ◌+◌, ◌≤◌, ◌<◌, true, false, List, [], ◌∷◌, ◌++◌, length, get_or, if◌then◌else◌, refl, sym, ◌∙◌, sum_by, arith}
use Rattle.std.specs.List.Sorted.{IsPermutation}
use Rattle.std.proofs.lemmas.List.Recursion.{is_sum_by}
use Rattle.std.proofs.lemmas.List.Sorted.{sum_by-IsPermutation}
use Rattle.va_core.specs.declared.pair.Pair.{Pair}
use Rattle.va_core.specs.Ranking.{is_less, lesser, IsBelow, IsAscending}
use Rattle.va_core.specs.Sorting.{IsFloor}
use Rattle.va_core.proofs.Order.{less_upto, not_self, not_above}

-- the order of the pairs doesn't matter
lesser_summed : (pairs : List Pair) (p : Pair) → lesser pairs p ≡ sum_by (λ q. if is_less q p then 1 else 0) pairs
lesser_summed pairs p = is_sum_by (λ ps. lesser ps p) (λ q. if is_less q p then 1 else 0) refl (λ _ _. refl) pairs

pub lesser_permuted : (ps qs : List Pair) (p : Pair) → IsPermutation ps qs → lesser qs p ≡ lesser ps p
lesser_permuted ps qs p h = lesser_summed qs p ∙ (sum_by-IsPermutation (λ q. if is_less q p then 1 else 0) ps qs h ∙ sym (lesser_summed ps p))

pub lesser_append : (ps qs : List Pair) (p : Pair) → lesser (ps ++ qs) p ≡ lesser ps p + lesser qs p
lesser_append [] qs p = omega arith
lesser_append (q ∷ ps) qs p = let rest : lesser (ps ++ qs) p ≡ lesser ps p + lesser qs p = lesser_append ps qs p in omega (arith, rest)

-- what is at most t has at most as many lesser pairs as t
pub lesser_rises : (ps : List Pair) (s t : Pair) → is_less t s ≡ false → lesser ps s ≤ lesser ps t
lesser_rises [] s t h = omega arith
lesser_rises (q ∷ ps) s t h = let rest : lesser ps s ≤ lesser ps t = lesser_rises ps s t h in
    elim (is_less q s) as (λ c. is_less q s ≡ c → lesser (q ∷ ps) s ≤ lesser (q ∷ ps) t) [
      | true ↦ λ e. rw (e, less_upto q s t e h) (omega (arith, rest))
      | false ↦ λ e. rw e (omega (arith, rest))
    ] refl

-- no pair is less than one that is at most each of them
pub lesser_floor : (p : Pair) (l : List Pair) → IsFloor (λ q. q) p l → lesser l p ≡ 0
lesser_floor p [] f = refl
lesser_floor p (q ∷ l) f = let rest : lesser l p ≡ 0 = lesser_floor p l f.1 in rw f.0 (omega (arith, rest))

below_is_floor : (p : Pair) (l : List Pair) → IsBelow p l → IsFloor (λ q. q) p l
below_is_floor p [] a = tt
below_is_floor p (q ∷ l) a = (not_above p q a.0, below_is_floor p l a.1)

pub lesser_none : (p : Pair) (l : List Pair) → IsBelow p l → lesser l p ≡ 0
lesser_none p l a = lesser_floor p l (below_is_floor p l a)

-- in a strictly ascending list as many pairs are less as stand before
pub below_at : (p : Pair) (l : List Pair) (k : ℕ) (d : Pair) → IsBelow p l → k < length l → is_less p (get_or l k d) ≡ true
below_at p [] k d a h = absurd (omega arith)
below_at p (q ∷ l) zero d a h = a.0
below_at p (q ∷ l) (suc k) d a h = below_at p l k d a.1 (omega arith)

pub lesser_is_place : (l : List Pair) (k : ℕ) (d : Pair) → IsAscending l → k < length l → lesser l (get_or l k d) ≡ k
lesser_is_place [] k d a h = absurd (omega arith)
lesser_is_place (x ∷ l) zero d a h = let none : lesser l x ≡ 0 = lesser_none x l a.0 in rw (not_self x) (omega (arith, none))
lesser_is_place (x ∷ l) (suc k) d a h =
    let rest : lesser l (get_or l k d) ≡ k = lesser_is_place l k d a.1 (omega arith) in
    rw (below_at x l k d a.0 (omega arith)) (omega (arith, rest))
