-- What holds of the bounds of a box, and of the box of a cell.
use Rattle.std.specs.Prelude.{◌≡◌, ℕ, ◌≤◌, List, length}
use Rattle.va_core.specs.Boxes.{Span, Lies, low_of, high_of, lowest, highest}
use Rattle.va_core.specs.Cells.{box, box_of, NamesSlices}
use Rattle.va_core.specs.Marks.{AreValid, cell}
use Rattle.va_core.specs.Vectors.{IsVector}

-- a vector of the box is between the bounds
abbrev pub BoundsSurround : Type 0
BoundsSurround = (f : List ℕ → ℕ) (box : List Span) (vector : List ℕ) → Lies box vector → (low_of f box ≤ f vector) × (f vector ≤ high_of f box)

-- where a box has a vector, the bounds are attained in it
pub record AreAttained (f : List ℕ → ℕ) (box : List Span) : Type 0 where
  pub lowest_lies : Lies box (lowest f box)
  pub at_low : f (lowest f box) ≡ low_of f box
  pub highest_lies : Lies box (highest f box)
  pub at_high : f (highest f box) ≡ high_of f box

abbrev pub BoundsAreAttained : Type 0
BoundsAreAttained = (f : List ℕ → ℕ) (box : List Span) (vector : List ℕ) → Lies box vector → AreAttained f box

-- the box of a vector's own cell holds it
abbrev pub OwnBoxHolds : Type 0
OwnBoxHolds = (marks : List (List ℕ)) (vector : List ℕ) → AreValid marks → IsVector (length marks) vector → NamesSlices marks (cell marks vector) × Lies (box_of marks vector) vector

-- what lies in the box of a cell is a vector of that cell
abbrev pub BoxHasOneCell : Type 0
BoxHasOneCell = (marks : List (List ℕ)) (slices vector : List ℕ) → AreValid marks → NamesSlices marks slices → Lies (box marks slices) vector → IsVector (length marks) vector × (cell marks vector ≡ slices)
