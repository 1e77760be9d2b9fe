-- The approximation of a vector is its cell: a slice for each dimension. The box of a cell has the values of its slices.
use Rattle.std.specs.Prelude.{◌≡◌, ℕ, ◌+◌, ◌-◌, ◌<◌, List, [], ◌∷◌, length, get_or}
use Rattle.va_core.specs.Boxes.{Span}
use Rattle.va_core.specs.Marks.{cell, row_at}

-- the values of a slice, where there are some
abbrev pub span_of : List ℕ → ℕ → Span
span_of row slice = record { low = get_or row slice 0; high = get_or row (slice + 1) 0 - 1 }

abbrev pub box : List (List ℕ) → List ℕ → List Span
box (row ∷ marks) (slice ∷ slices) = span_of row slice ∷ box marks slices
box _ _ = []

-- the box of the cell of a vector
abbrev pub box_of : List (List ℕ) → List ℕ → List Span
box_of marks vector = box marks (cell marks vector)

-- a slice for each dimension, and none of them is empty
pub record NamesSlices (marks : List (List ℕ)) (slices : List ℕ) : Type 0 where
  pub one_each : length slices ≡ length marks
  pub inside : (dim : ℕ) → dim < length marks → get_or slices dim 0 + 1 < length (row_at marks dim)
  pub full : (dim : ℕ) → dim < length marks → get_or (row_at marks dim) (get_or slices dim 0) 0 < get_or (row_at marks dim) (get_or slices dim 0 + 1) 0
