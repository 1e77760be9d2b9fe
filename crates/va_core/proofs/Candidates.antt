-- What is needed is a candidate, and which members are candidates.
use Rattle.std.proofs.Common.{◌≡◌, ℕ, zero, suc, ◌+◌, ◌≤◌, Bool, true, false, not, ◌&&◌, List, [], ◌∷◌, length, ltb, leb, if◌then◌else◌, refl, ap, sym, ◌∙◌, sub-one, arith}
use Rattle.std.specs.List.{filter, AllByRecursion}
use Rattle.std.proofs.lemmas.Bool.Decides.{nat_tests}
use Rattle.std.proofs.lemmas.List.Sorted.{length_permutation}
use Rattle.va_core.specs.declared.pair.Pair.{Pair}
use Rattle.va_core.specs.Ranking.{is_less, lesser, ascending}
use Rattle.va_core.specs.Kth.{kth, is_beyond}
use Rattle.va_core.specs.Approximations.{Approximations, paired, pairs, is_wide, is_near, low_pair, is_needed, need, is_candidate, candidates}
use Rattle.va_core.proofs.Ranking.{lesser_ascending, ascending_in_order}
use Rattle.va_core.proofs.Sorting.{ascending_by_permutes}
use Rattle.va_core.proofs.Knowing.{raised}
use Rattle.va_core.proofs.Covering.{beyond_at}

-- where distances are greater, fewer pairs are less than t
fewer_at : (n d e : ℕ) (t : Pair) (m l : ℕ) → d ≤ e → m ≤ l → (if is_less (paired e n) t then 1 else 0) + m ≤ (if is_less (paired d n) t then 1 else 0) + l
fewer_at n d e t m l h g = elim (is_less (paired d n) t) as (λ c. is_less (paired d n) t ≡ c → (if is_less (paired e n) t then 1 else 0) + m ≤ (if c then 1 else 0) + l) [
  | true ↦ λ _. elim (is_less (paired e n) t) as (λ c. (if c then 1 else 0) + m ≤ 1 + l) [ true ↦ omega (arith, g) | false ↦ omega (arith, g) ]
  | false ↦ λ low. let out : is_less (paired e n) t ≡ false = raised n d e t h low in rw out (omega (arith, g))
] refl

pub lesser_falls : {X : Type 0} (name d e : X → ℕ) (ms : List X) (t : Pair) → AllByRecursion (λ i. d i ≤ e i) ms → lesser (pairs name e ms) t ≤ lesser (pairs name d ms) t
lesser_falls name d e [] t h = omega arith
lesser_falls name d e (i ∷ ms) t h = fewer_at (name i) (d i) (e i) t (lesser (pairs name e ms) t) (lesser (pairs name d ms) t) h.0 (lesser_falls name d e ms t h.1)

-- a test that passes wherever another does keeps no fewer members
passed_more : {X : Type 0} (p q : X → Bool) (l : List X) → ((x : X) → p x ≡ true → q x ≡ true) → length (filter p l) ≤ length (filter q l)
passed_more p q [] h = omega arith
passed_more p q (x ∷ l) h = let rest : length (filter p l) ≤ length (filter q l) = passed_more p q l h in
    elim (p x) as (λ c. p x ≡ c → length (if c then x ∷ filter p l else filter p l) ≤ length (filter q (x ∷ l))) [
      | true ↦ λ e. rw (h x e) (omega (arith, rest))
      | false ↦ λ e. elim (q x) as (λ c. length (filter p l) ≤ length (if c then x ∷ filter q l else filter q l)) [ true ↦ omega (arith, rest) | false ↦ rest ]
    ] refl

needed_near : (w n : Bool) → (w && n) ≡ true → n ≡ true
needed_near true n h = h
needed_near false n h = cc

-- no more members are needed than are candidates
pub needed_is_candidate : {X : Type 0} (s : Approximations X) (ms : List X) (dist : X → ℕ) (k : ℕ) → AllByRecursion (λ i. dist i ≤ s.high i) ms → (i : X) → is_needed s ms dist k i ≡ true → is_candidate s ms k i ≡ true
needed_is_candidate s ms dist k h i need =
    let near : is_near s ms dist k i ≡ true = needed_near (is_wide s i) (is_near s ms dist k i) need in
    let fewer : lesser (pairs s.name s.high ms) (low_pair s i) ≤ lesser (pairs s.name dist ms) (low_pair s i) = lesser_falls s.name dist s.high ms (low_pair s i) h in
    grind (arith, nat_tests, near, fewer)

pub needed_at_most : {X : Type 0} (s : Approximations X) (ms : List X) (dist : X → ℕ) (k : ℕ) → AllByRecursion (λ i. dist i ≤ s.high i) ms → length (need s ms dist k) ≤ length (candidates s ms k)
needed_at_most s ms dist k h =
    let same : length (need s ms dist k) ≡ length (filter (is_needed s ms dist k) ms) = length_permutation (filter (is_needed s ms dist k) ms) (need s ms dist k) (ascending_by_permutes (low_pair s) (filter (is_needed s ms dist k) ms)) in
    let fewer : length (filter (is_needed s ms dist k) ms) ≤ length (candidates s ms k) = passed_more (is_needed s ms dist k) (is_candidate s ms k) ms (needed_is_candidate s ms dist k h) in
    omega (arith, same, fewer)

-- a candidate is one whose least pair is at most the k-th of the greatest pairs, or any where those are fewer than k
kth_in_order : (k : ℕ) (ps : List Pair) (t : Pair) → 1 ≤ k → is_beyond (kth k (ascending ps)) t ≡ leb k (lesser ps t)
kth_in_order zero ps t h = absurd (omega (arith, h))
kth_in_order (suc n) ps t h = rw sub-one (beyond_at (ascending ps) n t (ascending_in_order ps) ∙ ap (leb (suc n)) (lesser_ascending ps t))

few_not_many : (n k : ℕ) → ltb n k ≡ not (leb k n)
few_not_many n k = elim (leb k n) as (λ c. leb k n ≡ c → ltb n k ≡ not c) [
  | true ↦ λ e. grind (arith, nat_tests, e)
  | false ↦ λ e. grind (arith, nat_tests, e)
] refl

pub candidate_is : {X : Type 0} (s : Approximations X) (ms : List X) (k : ℕ) (i : X) → 1 ≤ k → is_candidate s ms k i ≡ not (is_beyond (kth k (ascending (pairs s.name s.high ms))) (low_pair s i))
candidate_is s ms k i h = few_not_many (lesser (pairs s.name s.high ms) (low_pair s i)) k ∙ ap not (sym (kth_in_order k (pairs s.name s.high ms) (low_pair s i) h))
