-- The rows of the dimensions, as they are made one by one.
use Rattle.std.specs.Prelude.{◌≡◌, ℕ, List, map}
use Rattle.std.specs.List.{range_with_len}
use Rattle.va_core.specs.Shape.{Shape, bits_of}
use Rattle.va_core.specs.Marks.{AreValid}
use Rattle.va_marks.specs.Counts.{counts_at}
use Rattle.va_marks.specs.Rule.{row_by}

-- the marks of a dimension, by the counts of its coordinates
abbrev pub row_by_counts : Shape → ℕ → List (List ℕ) → ℕ → List ℕ
row_by_counts shape added columns dim = row_by (bits_of shape dim) added (counts_at columns dim)

-- the rows of the first so many dimensions, all valid
pub record AreRows (row : ℕ → List ℕ) (count : ℕ) (rows : List (List ℕ)) : Type 0 where
  pub so_far : rows ≡ map row (range_with_len 0 count)
  pub valid : AreValid rows
