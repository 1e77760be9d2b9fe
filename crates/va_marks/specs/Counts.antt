-- What is counted of vectors.
use Rattle.std.specs.Prelude.{◌≡◌, ℕ, ◌+◌, ◌<◌, ◌==◌, List, [], length, get_or, slice_set, count_by, sum, map}
use Rattle.std.specs.List.{All, range_with_len}
use Rattle.va_core.specs.Shape.{Shape}
use Rattle.va_core.specs.Marks.{column}

-- how often each value stands among the coordinates
unfoldable pub counts_of : List ℕ → List ℕ
counts_of coordinates = map (λ v. count_by (λ x. x == v) coordinates) (range_with_len 0 256)

-- the counts with one more of the value
abbrev pub plus_one : List ℕ → ℕ → List ℕ
plus_one counts v = slice_set counts v (get_or counts v 0 + 1)

-- the counts of a dimension
abbrev pub counts_at : List (List ℕ) → ℕ → List ℕ
counts_at columns dim = get_or columns dim []

-- how many vectors were added, and the counts of each dimension
pub record Counted : Type 0 where
  pub shape : Shape
  pub added : ℕ
  pub columns : List (List ℕ)

-- the counts of n coordinates
pub record IsColumn (n : ℕ) (counts : List ℕ) : Type 0 where
  pub each_value : length counts ≡ 256
  pub all : sum counts ≡ n

pub record IsCounted (counted : Counted) : Type 0 where
  pub one_each : length counted.columns ≡ counted.shape.dims
  pub counts : (dim : ℕ) → dim < counted.shape.dims → IsColumn counted.added (counts_at counted.columns dim)

-- The vectors that were added are these, in any order.
pub record Tallies (tally : Counted) (vectors : List (List ℕ)) : Type 0 where
  pub added : tally.added ≡ length vectors
  pub bytes : (dim : ℕ) → dim < tally.shape.dims → All (λ x. x < 256) (column dim vectors)
  pub counts : (dim : ℕ) → dim < tally.shape.dims → counts_at tally.columns dim ≡ counts_of (column dim vectors)
