-- How far a script has come.
use Rattle.std.specs.Prelude.{ℕ, ◌+◌, ◌-◌, ◌*◌}
use Rattle.va_script.specs.Script.{state_after}

-- How many vectors the first so many lines have: none in the first, one in each of the n inserts, none in the two lines behind
-- them, and one in each search.
unfoldable pub vectors_in : ℕ → ℕ → ℕ
vectors_in n lines = ((lines - 1) - ((lines - 1) - n)) + (lines - (n + 3))

-- the state of the generator behind these lines
unfoldable pub state_behind : ℕ → ℕ → ℕ
state_behind n lines = state_after (8 * vectors_in n lines) n
