-- What a `Keep` holds once all pairs were offered.
use Rattle.std.specs.Prelude.{◌≡◌, ℕ, List, [], take}
use Rattle.va_core.specs.declared.pair.Pair.{Pair}
use Rattle.va_core.specs.Ranking.{answer, ascending, AllDiffer}
use Rattle.va_keep.specs.Kept.{Kept, offered}

abbrev pub empty : ℕ → Kept
empty k = record { most = k; pairs = [] }

-- the first k of the pairs in order
abbrev pub HoldsTheLeast : Type 0
HoldsTheLeast = (k : ℕ) (pairs : List Pair) → (offered (empty k) pairs).pairs ≡ take k (ascending pairs)

-- the answer to k, from pairs that differ
abbrev pub HoldsTheAnswer : Type 0
HoldsTheAnswer = (k : ℕ) (pairs : List Pair) → AllDiffer pairs → (offered (empty k) pairs).pairs ≡ answer pairs k
