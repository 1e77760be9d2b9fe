-- What a search among places that ascend tells.
use Rattle.std.proofs.Common.{◌≡◌, ℕ, ◌<◌, ◌≤◌, ◌⊎◌, inl, inr, true, false, List, length, get_or, ltb, Contains, refl, ◌∙◌, subst, arith}
use Rattle.std.specs.Prelude.{Result, Ok, Err, ◌↔◌}
use Rattle.std.specs.Result.{MatchResult, is_ok}
use Rattle.std.specs.List.Sorted.{IsBinarySearchResult}
use Rattle.std.specs.Ordering.{nat_cmp}
use Rattle.std.proofs.lemmas.Bool.Decides.{nat_tests}
use Rattle.std.proofs.lemmas.List.{get_or_default}
use Rattle.std.proofs.lemmas.List.Sorted.{searched}
use Rattle.va_cursor.specs.Cursors.{Ascends}

sides : (k i : ℕ) → (k < i) ⊎ (i ≤ k)
sides k i = elim (ltb k i) as (λ c. ltb k i ≡ c → (k < i) ⊎ (i ≤ k)) [
  | true ↦ λ e. inl (grind (arith, nat_tests, e))
  | false ↦ λ e. inr (grind (arith, nat_tests, e))
] refl

rises : (places : List ℕ) → Ascends places → (i j : ℕ) → i ≤ j → j < length places → get_or places i 0 ≤ get_or places j 0
rises places ascends i j le few = at (sides i j)
  where
    at : (i < j) ⊎ (j ≤ i) → get_or places i 0 ≤ get_or places j 0
    at (inl lt) = let less = ascends i j lt few in omega (arith, less)
    at (inr ge) = let same : i ≡ j = omega (arith, le, ge) in subst (λ n. get_or places i 0 ≤ get_or places n 0) same (omega arith)

told : (places : List ℕ) (place : ℕ) (r : Result ℕ ℕ) → MatchResult r (λ i. (i < length places) × (get_or places i 0 ≡ place)) (λ i. (i ≤ length places) × ((k : ℕ) → k < i → get_or places k 0 < place) × ((k : ℕ) → i ≤ k → k < length places → place < get_or places k 0)) →
    (is_ok r ≡ true) ↔ Contains places place
told places place (Ok i) h = (λ _. (i, h.0, get_or_default places i place 0 h.0 ∙ h.1), λ _. refl)
told places place (Err i) h = (λ e. absurd (never e), λ has. absurd (at has.0 has.1 (get_or_default places has.0 0 place has.1 ∙ has.2) (sides has.0 i)))
  where
    never : ◌≡◌ {A = _} false true → ⊥
    never e = cc

    at : (k : ℕ) → k < length places → get_or places k 0 ≡ place → (k < i) ⊎ (i ≤ k) → ⊥
    at k few is (inl before) = let less = h.1 k before in omega (arith, less, is)
    at k few is (inr after) = let more = h.2 k after few in omega (arith, more, is)

pub found : (places : List ℕ) (place : ℕ) (r : Result ℕ ℕ) → Ascends places → IsBinarySearchResult (λ y. nat_cmp y place) places r → (is_ok r ≡ true) ↔ Contains places place
found places place r ascends h = told places place r (searched places place r h (rises places ascends))
