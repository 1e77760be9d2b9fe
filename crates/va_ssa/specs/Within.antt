-- A search within a radius, by the cells of a shelf.
use Rattle.std.specs.Prelude.{ℕ, List, [], ◌∷◌, ◌++◌, nat_le, filter}
use Rattle.va_core.specs.declared.pair.Pair.{Pair}
use Rattle.va_core.specs.Approximations.{need_within}
use Rattle.va_core.specs.Determining.{IsLeastUnder, is_listed, within_of}
use Rattle.va_core.specs.Distance.{Query, distance}
use Rattle.va_ports.specs.Shelves.{Contents, id_of}
use Rattle.va_ports.specs.Searches.{Stopped, Took, bounds_of, vector_of}
use Rattle.va_ports.specs.declared.search.SearchFault.{SearchFault}
use Rattle.va_ports.specs.declared.shelf.Shelf.{Ghosts}
use Rattle.va_bounded.specs.BoundedCells.{cell_of}
use Rattle.va_bounded.specs.declared.cell.BoundedCell.{BoundedCell}
use Rattle.va_bounded.specs.Keeps.{clamped_pairs}

-- what is read for the pairs within a radius: the wide cells with a lower bound of at most the radius, in the order of
-- their places
abbrev pub cells_within : Contents → Query → ℕ → List (ℕ × ℕ)
cells_within contents query radius = need_within (bounds_of contents query) contents.cells radius

-- the pairs at clamped distances that are within the radius, in the order of the cells
abbrev pub found_within : Contents → Query → ℕ → List (ℕ × ℕ) → List Pair
found_within contents query radius cells = filter (λ p. nat_le p.dist radius) (clamped_pairs contents query cells)

-- The ids are a least set that determines the pairs within the radius, where the marks and the cells are known.
abbrev pub LeastWithin : Contents → Query → ℕ → List ℕ → Type 0
LeastWithin contents query radius ids =
    IsLeastUnder (within_of id_of (distance query) contents.cells radius) contents.shape.dims contents.marks contents.cells (is_listed id_of ids) (vector_of contents)

-- a whole search, and one that failed
abbrev pub TookWithin : {S : Type 0} → Ghosts S → Query → ℕ → S → S → List ℕ → Type 0
TookWithin g query radius old new ids = Took g (g.contents old) query (cells_within (g.contents old) query radius) old new [] ids

abbrev pub StoppedWithin : {S : Type 0} → Ghosts S → Query → ℕ → S → S → SearchFault → Type 0
StoppedWithin g query radius old new why = Stopped g (g.contents old) query (cells_within (g.contents old) query radius) old new why

-- one cell: it was read if the search reads it, or that failed, whatever would be read after it
abbrev pub TookNear : {S : Type 0} → Ghosts S → Query → ℕ → BoundedCell → S → S → List ℕ → List ℕ → Type 0
TookNear g query radius cell old new ids ids' = Took g (g.contents old) query (need_within (bounds_of (g.contents old) query) (cell_of cell ∷ []) radius) old new ids ids'

abbrev pub StoppedNear : {S : Type 0} → Ghosts S → Query → ℕ → BoundedCell → S → S → SearchFault → Type 0
StoppedNear g query radius cell old new why = (reads : List (ℕ × ℕ)) → Stopped g (g.contents old) query (need_within (bounds_of (g.contents old) query) (cell_of cell ∷ []) radius ++ reads) old new why
