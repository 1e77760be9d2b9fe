-- What a shelf has, and what its scan gives. A cell is the place and the id of a vector.
use Rattle.std.specs.Prelude.{◌≡◌, ℕ, ◌+◌, ◌<◌, ◌≤◌, List, [], ◌∷◌, ◌++◌, Option, None, Some}
use Rattle.std.specs.List.{AllByRecursion}
use Rattle.va_core.specs.Approximations.{NamesDiffer}
use Rattle.va_core.specs.Marks.{AreValid, HasShape, cell}
use Rattle.va_core.specs.Shape.{Shape, IsShape}
use Rattle.va_core.specs.Vectors.{IsVector}

-- The code and the vector are those of a place.
pub record Contents : Type 0 where
  pub shape : Shape
  pub marks : List (List ℕ)
  pub cells : List (ℕ × ℕ)
  pub code : ℕ → List ℕ
  pub vector : ℕ → List ℕ

abbrev pub place_of : ℕ × ℕ → ℕ
place_of cell = cell.0

abbrev pub id_of : ℕ × ℕ → ℕ
id_of cell = cell.1

-- the places ascend, from one on, and stay below the capacity
abbrev pub PlacesAscend : ℕ → ℕ → List (ℕ × ℕ) → Type 0
PlacesAscend from capacity [] = Unit {0}
PlacesAscend from capacity (cell ∷ cells) = (from ≤ place_of cell) × (place_of cell < capacity) × PlacesAscend (place_of cell + 1) capacity cells

-- What holds of every shelf, told or not: marks that have its shape, places that ascend and ids that differ.
pub record IsSound (contents : Contents) : Type 0 where
  pub shape : IsShape contents.shape
  pub has_shape : HasShape contents.shape contents.marks
  pub valid : AreValid contents.marks
  pub places : PlacesAscend 0 contents.shape.capacity contents.cells
  pub ids : NamesDiffer id_of contents.cells

-- the scan stands in the list of the cells: some were given, and these are left
pub record IsLeft (cells left : List (ℕ × ℕ)) : Type 0 where
  pub given : List (ℕ × ℕ)
  pub split : cells ≡ given ++ left

-- the scan gave the first of the cells that were left, or none was left
abbrev pub Gave : Option (ℕ × ℕ) → List (ℕ × ℕ) → List (ℕ × ℕ) → Type 0
Gave None old new = (old ≡ []) × (new ≡ old)
Gave (Some cell) old new = old ≡ cell ∷ new

-- each place is below the capacity
abbrev pub AreInside : ℕ → List (ℕ × ℕ) → Type 0
AreInside capacity cells = AllByRecursion (λ cell. place_of cell < capacity) cells

-- Each vector lies in its cell: the code of a cell has the slices of its vector.
abbrev pub IsOwn : Contents → ℕ × ℕ → Type 0
IsOwn contents at = IsVector contents.shape.dims (contents.vector (place_of at)) × (cell contents.marks (contents.vector (place_of at)) ≡ contents.code (place_of at))

abbrev pub AreOwnCells : Contents → Type 0
AreOwnCells contents = AllByRecursion (IsOwn contents) contents.cells
