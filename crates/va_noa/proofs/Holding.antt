-- Any list of members that has the candidates of all is as good as all: it has their answer, tells who is near, and has
-- what is needed.
use Rattle.std.proofs.Common.{◌≡◌, ℕ, ◌≤◌, true, false, List, [], ◌∷◌, filter, ltb, ◌⊎◌, inl, inr, refl, ap, sym, ◌∙◌, subst, arith}
use Rattle.std.specs.List.{AllByRecursion}
use Rattle.std.proofs.lemmas.Bool.Decides.{nat_tests}
use Rattle.va_core.specs.Ranking.{lesser, answer}
use Rattle.va_core.specs.Sorting.{ascending_by}
use Rattle.va_core.specs.Approximations.{Approximations, candidates, is_candidate, is_near, is_needed, low_pair, need, paired, pairs}
use Rattle.va_core.proofs.Candidates.{lesser_falls, needed_is_candidate}
use Rattle.va_core.proofs.Counting.{lesser_rises}
use Rattle.va_core.proofs.Knowing.{Covers, covers_all, known_enough, part_answers, raised, same_test}
use Rattle.va_core.proofs.Order.{not_self}
use Rattle.va_core.proofs.Sorting.{filter_ascending_by}
use Rattle.va_noa.proofs.Lists.{filter_filter}

-- the distances of the members, between their bounds
pub record Lie {X : Type 0} (s : Approximations X) (d : X → ℕ) (ms : List X) : Type 0 where
  pub lows : AllByRecursion (λ i. s.low i ≤ d i) ms
  pub highs : AllByRecursion (λ i. d i ≤ s.high i) ms

module _ {X : Type 0} (s : Approximations X) (d : X → ℕ) (ms : List X) (k : ℕ) (h : Lie s d ms) where
  not_candidate : (l : List X) → AllByRecursion (λ i. (is_candidate s ms k i ≡ true) ⊎ (k ≤ lesser (pairs s.name d ms) (low_pair s i))) l
  not_candidate [] = tt
  not_candidate (i ∷ l) = (
    elim (is_candidate s ms k i) as (λ c. is_candidate s ms k i ≡ c → (c ≡ true) ⊎ (k ≤ lesser (pairs s.name d ms) (low_pair s i))) [
      | true ↦ λ e. inl refl
      | false ↦ λ e. let r : lesser (pairs s.name s.high ms) (low_pair s i) ≤ lesser (pairs s.name d ms) (low_pair s i) = lesser_falls s.name d s.high ms (low_pair s i) h.highs in
          let m : k ≤ lesser (pairs s.name s.high ms) (low_pair s i) = grind (arith, nat_tests, e) in inr (omega (arith, r, m))
    ] refl,
    not_candidate l,
  )

  -- k candidates are less than the pair of each that is none
  candidates_cover : Covers s.name d (is_candidate s ms k) ms k ms
  candidates_cover = covers_all s.name s.low d d (is_candidate s ms k) ms k ms h.lows (not_candidate ms) h.lows refl (not_candidate ms)

  module _ (q : List X) (lows : AllByRecursion (λ i. s.low i ≤ d i) q) (same : filter (is_candidate s ms k) q ≡ candidates s ms k) where
    covers_at : (i : X) → s.low i ≤ d i → (is_candidate s ms k i ≡ true) ⊎ (k ≤ lesser (pairs s.name d ms) (low_pair s i)) →
        (is_candidate s ms k i ≡ true) ⊎ (k ≤ lesser (pairs s.name d (filter (is_candidate s ms k) q)) (paired (d i) (s.name i)))
    covers_at i up (inl b) = inl b
    covers_at i up (inr b) =
        let many : k ≤ lesser (pairs s.name d (filter (is_candidate s ms k) ms)) (low_pair s i) = known_enough s.name s.low d (is_candidate s ms k) ms k (low_pair s i) h.lows (not_candidate ms) b in
        let rise : lesser (pairs s.name d (filter (is_candidate s ms k) ms)) (low_pair s i) ≤ lesser (pairs s.name d (filter (is_candidate s ms k) ms)) (paired (d i) (s.name i)) =
        lesser_rises (pairs s.name d (filter (is_candidate s ms k) ms)) (low_pair s i) (paired (d i) (s.name i)) (raised (s.name i) (s.low i) (d i) (low_pair s i) up (not_self (low_pair s i))) in
        inr (subst (λ (l : List X). k ≤ lesser (pairs s.name d l) (paired (d i) (s.name i))) (sym same) (omega (arith, many, rise)))

    covers : (l : List X) → AllByRecursion (λ i. s.low i ≤ d i) l → AllByRecursion (λ i. (is_candidate s ms k i ≡ true) ⊎ (k ≤ lesser (pairs s.name d ms) (low_pair s i))) l → Covers s.name d (is_candidate s ms k) q k l
    covers [] b n = tt
    covers (i ∷ l) b n = (covers_at i b.0 n.0, covers l b.1 n.1)

    q_covers : Covers s.name d (is_candidate s ms k) q k q
    q_covers = covers q lows (not_candidate q)

    pub holding_answers : answer (pairs s.name d q) k ≡ answer (pairs s.name d ms) k
    holding_answers = part_answers s.name d (is_candidate s ms k) q k q_covers ∙ (ap (λ (l : List X). answer (pairs s.name d l) k) same ∙ sym (part_answers s.name d (is_candidate s ms k) ms k candidates_cover))

    pub holding_tells : (i : X) → is_near s ms d k i ≡ is_near s q d k i
    holding_tells i = same_test s.name d (is_candidate s ms k) ms k candidates_cover (low_pair s i)
        ∙ (ap (λ (l : List X). ltb (lesser (pairs s.name d l) (low_pair s i)) k) (sym same)
        ∙ sym (same_test s.name d (is_candidate s ms k) q k q_covers (low_pair s i)))

    pub holding_needed : filter (is_needed s ms d k) (ascending_by (low_pair s) q) ≡ need s ms d k
    holding_needed =
        let wider : (i : X) → is_needed s ms d k i ≡ true → is_candidate s ms k i ≡ true = needed_is_candidate s ms d k h.highs in
        filter_ascending_by (low_pair s) (is_needed s ms d k) q
        ∙ ap (ascending_by (low_pair s)) (filter_filter (is_needed s ms d k) (is_candidate s ms k) q wider
        ∙ (ap (filter (is_needed s ms d k)) same ∙ sym (filter_filter (is_needed s ms d k) (is_candidate s ms k) ms wider)))
