-- What holds of the order of pairs, and of every answer.
use Rattle.std.specs.Prelude.{◌≡◌, ℕ, ◌<◌, ◌≤◌, min, Bool, true, false, List, length, Contains, ◌⊎◌, ◌↔◌}
use Rattle.va_core.specs.declared.pair.Pair.{Pair}
use Rattle.va_core.specs.Ranking.{lesser, answer, within, AllDiffer, IsAscending}

-- a test of two pairs that ranks all pairs, and no two of them alike
pub record IsRanking (less : Pair → Pair → Bool) : Type 0 where
  pub irreflexive : (p : Pair) → less p p ≡ false
  pub asymmetric : (p q : Pair) → less p q ≡ true → less q p ≡ false
  pub transitive : (p q r : Pair) → less p q ≡ true → less q r ≡ true → less p r ≡ true
  pub total : (p q : Pair) → (less p q ≡ true) ⊎ ((p ≡ q) ⊎ (less q p ≡ true))

-- a pair is in the answer exactly where it is one of the pairs and fewer than k of them are less
abbrev pub AnswerIsExact : Type 0
AnswerIsExact = (pairs : List Pair) (k : ℕ) (p : Pair) → Contains (answer pairs k) p ↔ (Contains pairs p × (lesser pairs p < k))

-- the answer from pairs that differ is strictly ascending
abbrev pub AnswerAscends : Type 0
AnswerAscends = (pairs : List Pair) (k : ℕ) → AllDiffer pairs → IsAscending (answer pairs k)

-- it has k members, or all of the pairs where they are fewer
abbrev pub AnswerIsFull : Type 0
AnswerIsFull = (pairs : List Pair) (k : ℕ) → AllDiffer pairs → length (answer pairs k) ≡ min k (length pairs)

-- a pair is within a radius exactly where it is one of the pairs and its distance is at most the radius
abbrev pub WithinIsExact : Type 0
WithinIsExact = (pairs : List Pair) (radius : ℕ) (p : Pair) → Contains (within pairs radius) p ↔ (Contains pairs p × (p.dist ≤ radius))

-- and those from pairs that differ ascend strictly
abbrev pub WithinAscends : Type 0
WithinAscends = (pairs : List Pair) (radius : ℕ) → AllDiffer pairs → IsAscending (within pairs radius)
