-- The k-th pair of a list, and what may come before it.
use Rattle.std.specs.Prelude.{ℕ, ◌-◌, Bool, true, false, List, Option, None, Some, slice_get, if◌then◌else◌}
use Rattle.va_core.specs.declared.pair.Pair.{Pair}
use Rattle.va_core.specs.Ranking.{is_less}

-- pair number k, from 1 on
abbrev pub kth : ℕ → List Pair → Option Pair
kth k pairs = slice_get pairs (k - 1)

-- p isn't kept out by the k-th pair: there is none, or p is less
abbrev pub is_before : Option Pair → Pair → Bool
is_before None p = true
is_before (Some last) p = is_less p last

-- p is kept out by the k-th pair, which is less
abbrev pub is_beyond : Option Pair → Pair → Bool
is_beyond None p = false
is_beyond (Some last) p = is_less last p

-- the least of these pairs where it isn't kept out
abbrev pub first_before : Option Pair → Option Pair → Option Pair
first_before last None = None
first_before last (Some p) = if is_before last p then Some p else None
