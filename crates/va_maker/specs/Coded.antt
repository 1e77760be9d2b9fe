-- The cells of a shelf with their codes.
use Rattle.std.specs.Prelude.{◌≡◌, ℕ, List, map, Option, None, Some}
use Rattle.std.specs.List.{AllByRecursion}
use Rattle.va_core.specs.declared.pair.Pair.{Pair}
use Rattle.va_core.specs.Approximations.{paired}
use Rattle.va_core.specs.Cells.{NamesSlices}
use Rattle.va_core.specs.Sorting.{ascending_by}
use Rattle.va_ports.specs.Shelves.{Contents, id_of, place_of}
use Rattle.va_maker.specs.declared.coded.CodedCell.{CodedCell}

abbrev pub coded_at : Contents → ℕ × ℕ → CodedCell
coded_at contents cell = record { place = place_of cell; id = id_of cell; code = contents.code (place_of cell) }

abbrev pub cell_of : CodedCell → ℕ × ℕ
cell_of cell = (cell.place, cell.id)

abbrev pub cell_in : Option CodedCell → Option (ℕ × ℕ)
cell_in None = None
cell_in (Some cell) = Some (cell_of cell)

abbrev pub key_of : CodedCell → Pair
key_of cell = paired 0 cell.id

-- none of their slices is empty
abbrev pub NameSlices : List (List ℕ) → List CodedCell → Type 0
NameSlices marks cells = AllByRecursion (λ (cell : CodedCell). NamesSlices marks cell.code) cells

-- the cells of a shelf, ascending by id
abbrev pub coded_of : Contents → List CodedCell
coded_of contents = ascending_by key_of (map (coded_at contents) contents.cells)

-- cells of slices that aren't empty, and those of the shelf where it tells
pub record AreCoded (told : Type 0) (contents : Contents) (cells : List CodedCell) : Type 0 where
  pub names : NameSlices contents.marks cells
  pub all : told → cells ≡ coded_of contents
