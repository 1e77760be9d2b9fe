-- What cells with bounds say of a shelf.
use Rattle.std.specs.Prelude.{◌≡◌, ℕ, List, Option, None, Some, filter}
use Rattle.va_bound.specs.Tables.{AreBounds, Table}
use Rattle.va_core.specs.Approximations.{is_wide}
use Rattle.va_core.specs.Distance.{Query}
use Rattle.va_ports.specs.Shelves.{Contents}
use Rattle.va_ports.specs.Searches.{bounds_of}
use Rattle.va_bounded.specs.declared.cell.BoundedCell.{BoundedCell}

-- its place and its id
abbrev pub cell_of : BoundedCell → ℕ × ℕ
cell_of cell = (cell.place, cell.id)

abbrev pub cell_in : Option BoundedCell → Option (ℕ × ℕ)
cell_in None = None
cell_in (Some cell) = Some (cell_of cell)

-- its bounds are those of its code
pub record HasBounds (contents : Contents) (query : Query) (cell : BoundedCell) : Type 0 where
  pub low : cell.low ≡ (bounds_of contents query).low (cell_of cell)
  pub high : cell.high ≡ (bounds_of contents query).high (cell_of cell)

-- the same for each query whose bounds the table has
abbrev pub HasBoundsBy : Contents → Table → BoundedCell → Type 0
HasBoundsBy contents table cell = (query : Query) → AreBounds contents.marks query table → HasBounds contents query cell

-- those of the cells whose distance isn't known without reading
abbrev pub wide_cells : Contents → Query → List (ℕ × ℕ) → List (ℕ × ℕ)
wide_cells contents query cells = filter (is_wide (bounds_of contents query)) cells
