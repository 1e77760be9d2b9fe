-- What a search for the k nearest reads, by the cells of a shelf.
use Rattle.std.specs.Prelude.{ℕ, List, []}
use Rattle.va_core.specs.Approximations.{candidates, need}
use Rattle.va_core.specs.Determining.{IsLeastUnder, is_listed, nearest_of}
use Rattle.va_core.specs.Distance.{Query, distance}
use Rattle.va_ports.specs.Shelves.{Contents, id_of}
use Rattle.va_ports.specs.Searches.{Stopped, Took, bounds_of, clamped_distance, distance_of, vector_of}
use Rattle.va_ports.specs.declared.search.SearchFault.{SearchFault}
use Rattle.va_ports.specs.declared.shelf.Shelf.{Ghosts}

-- the wide cells for which fewer than k pairs are less than the least pair of the cell, ascending by these
abbrev pub cells_needed : Contents → Query → ℕ → List (ℕ × ℕ)
cells_needed contents query k = need (bounds_of contents query) contents.cells (distance_of contents query) k

-- the same by clamped distances
abbrev pub clamped_needed : Contents → Query → ℕ → List (ℕ × ℕ)
clamped_needed contents query k = need (bounds_of contents query) contents.cells (clamped_distance contents query) k

-- the cells for which fewer than k pairs of upper bounds are less than the least pair of the cell
abbrev pub cell_candidates : Contents → Query → ℕ → List (ℕ × ℕ)
cell_candidates contents query k = candidates (bounds_of contents query) contents.cells k

-- The ids are a least set that determines the k nearest, where the marks and the cells are known.
abbrev pub LeastNearest : Contents → Query → ℕ → List ℕ → Type 0
LeastNearest contents query k ids =
    IsLeastUnder (nearest_of id_of (distance query) contents.cells k) contents.shape.dims contents.marks contents.cells (is_listed id_of ids) (vector_of contents)

-- what is needed was read, or a front of it until that failed
abbrev pub TookNeeded : {S : Type 0} → Ghosts S → Query → ℕ → S → S → List ℕ → Type 0
TookNeeded g query k old new ids = Took g (g.contents old) query (clamped_needed (g.contents old) query k) old new [] ids

abbrev pub StoppedNeeded : {S : Type 0} → Ghosts S → Query → ℕ → S → S → SearchFault → Type 0
StoppedNeeded g query k old new why = Stopped g (g.contents old) query (clamped_needed (g.contents old) query k) old new why
