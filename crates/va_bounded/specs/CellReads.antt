-- What is said of a shelf where it tells, and how a cell of it is read.
use Rattle.std.specs.Prelude.{ℕ, List, [], ◌∷◌, ◌++◌}
use Rattle.va_core.specs.Distance.{Query}
use Rattle.va_ports.specs.Shelves.{AreOwnCells, Contents}
use Rattle.va_ports.specs.Searches.{Stopped, Took}
use Rattle.va_ports.specs.declared.search.SearchFault.{SearchFault}
use Rattle.va_ports.specs.declared.shelf.Shelf.{Ghosts}
use Rattle.va_bounded.specs.BoundedCells.{cell_of, wide_cells}
use Rattle.va_bounded.specs.declared.cell.BoundedCell.{BoundedCell}

-- where the shelf tells
abbrev pub IfTold : {S : Type 0} → Ghosts S → S → (Contents → Type 0) → Type 0
IfTold g shelf P = g.told → P (g.contents shelf)

-- where it tells, and each vector lies in its cell
abbrev pub IfOwn : {S : Type 0} → Ghosts S → S → (Contents → Type 0) → Type 0
IfOwn g shelf P = g.told → AreOwnCells (g.contents shelf) → P (g.contents shelf)

-- its vector was read if the cell is wide
abbrev pub TookCell : {S : Type 0} → Ghosts S → Query → BoundedCell → S → S → List ℕ → List ℕ → Type 0
TookCell g query cell old new ids ids' = Took g (g.contents old) query (wide_cells (g.contents old) query (cell_of cell ∷ [])) old new ids ids'

-- and that failed, whatever would have been read after it
abbrev pub StoppedAtCell : {S : Type 0} → Ghosts S → Query → BoundedCell → S → S → SearchFault → Type 0
StoppedAtCell g query cell old new why = (reads : List (ℕ × ℕ)) → Stopped g (g.contents old) query (wide_cells (g.contents old) query (cell_of cell ∷ []) ++ reads) old new why

-- the same where it is read whatever its bounds
abbrev pub StoppedReading : {S : Type 0} → Ghosts S → Query → BoundedCell → S → S → SearchFault → Type 0
StoppedReading g query cell old new why = (reads : List (ℕ × ℕ)) → Stopped g (g.contents old) query (cell_of cell ∷ reads) old new why
