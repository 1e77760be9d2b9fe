-- A scan for the k nearest, by the cells of a shelf.
use Rattle.std.specs.Prelude.{ℕ, List, [], ◌∷◌, ◌++◌}
use Rattle.va_core.specs.Scanning.{scanned, scanned_after}
use Rattle.va_core.specs.Distance.{Query}
use Rattle.va_keep.specs.Kept.{Kept}
use Rattle.va_ports.specs.Shelves.{Contents}
use Rattle.va_ports.specs.Searches.{Stopped, Took, bounds_of, clamped_distance, distance_of}
use Rattle.va_ports.specs.declared.search.SearchFault.{SearchFault}
use Rattle.va_ports.specs.declared.shelf.Shelf.{Ghosts}
use Rattle.va_bounded.specs.BoundedCells.{cell_of}
use Rattle.va_bounded.specs.Keeps.{KeepsLeast}
use Rattle.va_bounded.specs.declared.cell.BoundedCell.{BoundedCell}

-- what a scan reads for the k nearest: in the order of the places, the wide cells for which fewer than k cells before
-- have a pair less than the least pair of the cell
abbrev pub cells_scanned : Contents → Query → ℕ → List (ℕ × ℕ)
cells_scanned contents query k = scanned (bounds_of contents query) contents.cells (distance_of contents query) k

-- the same by clamped distances
abbrev pub clamped_scanned : Contents → Query → ℕ → List (ℕ × ℕ)
clamped_scanned contents query k = scanned (bounds_of contents query) contents.cells (clamped_distance contents query) k

-- and what it reads of the cells that come after others
abbrev pub scanned_next : Contents → Query → ℕ → List (ℕ × ℕ) → List (ℕ × ℕ) → List (ℕ × ℕ)
scanned_next contents query k before cells = scanned_after (bounds_of contents query) (clamped_distance contents query) k before cells

-- a whole scan, and one that failed
abbrev pub TookScanned : {S : Type 0} → Ghosts S → Query → ℕ → S → S → List ℕ → Type 0
TookScanned g query k old new ids = Took g (g.contents old) query (clamped_scanned (g.contents old) query k) old new [] ids

abbrev pub StoppedScan : {S : Type 0} → Ghosts S → Query → ℕ → S → S → SearchFault → Type 0
StoppedScan g query k old new why = Stopped g (g.contents old) query (clamped_scanned (g.contents old) query k) old new why

-- One cell of a scan, whatever k is and whatever cells came before of which the k least are kept: it is among those of
-- which they are kept then, it was read if the scan reads it, or that failed.
abbrev pub KeepsNext : {S : Type 0} → Ghosts S → Query → BoundedCell → S → Kept → Kept → Type 0
KeepsNext g query cell old kept kept' = (k : ℕ) (before : List (ℕ × ℕ)) → KeepsLeast g.told (g.contents old) query k before kept → KeepsLeast g.told (g.contents old) query k (before ++ cell_of cell ∷ []) kept'

abbrev pub TookNext : {S : Type 0} → Ghosts S → Query → BoundedCell → Kept → S → S → List ℕ → List ℕ → Type 0
TookNext g query cell kept old new ids ids' = (k : ℕ) (before : List (ℕ × ℕ)) → KeepsLeast g.told (g.contents old) query k before kept →
    Took g (g.contents old) query (scanned_next (g.contents old) query k before (cell_of cell ∷ [])) old new ids ids'

abbrev pub StoppedNext : {S : Type 0} → Ghosts S → Query → BoundedCell → Kept → S → S → SearchFault → Type 0
StoppedNext g query cell kept old new why = (k : ℕ) (before reads : List (ℕ × ℕ)) → KeepsLeast g.told (g.contents old) query k before kept →
    Stopped g (g.contents old) query (scanned_next (g.contents old) query k before (cell_of cell ∷ []) ++ reads) old new why
