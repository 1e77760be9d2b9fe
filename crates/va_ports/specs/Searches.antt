-- What searches say of a shelf: g is all that contracts see of it.
use Rattle.std.specs.Prelude.{◌≡◌, ℕ, ◌<◌, ◌≤◌, ◌⊎◌, List, [], ◌∷◌, ◌++◌, map, nat_lt, if◌then◌else◌}
use Rattle.std.specs.List.{AllByRecursion}
use Rattle.va_core.specs.declared.pair.Pair.{Pair}
use Rattle.va_core.specs.Approximations.{Approximations, pairs}
use Rattle.va_core.specs.Boxes.{Span}
use Rattle.va_core.specs.Cells.{box}
use Rattle.va_core.specs.Determining.{bounded}
use Rattle.va_core.specs.Distance.{Query, distance}
use Rattle.va_ports.specs.Shelves.{Contents, place_of, id_of}
use Rattle.va_ports.specs.declared.search.SearchFault.{SearchFault}
use Rattle.va_ports.specs.declared.search.SearchFault.TheVariants.{Memory, Shelf, Mismatch}
use Rattle.va_ports.specs.declared.shelf.Shelf.{Ghosts}

-- the box of a cell's code
abbrev pub box_at : Contents → ℕ × ℕ → List Span
box_at contents cell = box contents.marks (contents.code (place_of cell))

-- what the codes tell of the distances from a query
abbrev pub bounds_of : Contents → Query → Approximations (ℕ × ℕ)
bounds_of contents query = bounded id_of (distance query) (box_at contents)

abbrev pub vector_of : Contents → ℕ × ℕ → List ℕ
vector_of contents cell = contents.vector (place_of cell)

abbrev pub distance_of : Contents → Query → ℕ × ℕ → ℕ
distance_of contents query cell = distance query (vector_of contents cell)

-- the pairs of all cells
abbrev pub pairs_of : Contents → Query → List Pair
pairs_of contents query = pairs id_of (distance_of contents query) contents.cells

-- the distance lies between the bounds
abbrev pub IsBetween : {X : Type 0} → Approximations X → (X → ℕ) → X → Type 0
IsBetween s dist i = (s.low i ≤ dist i) × (dist i ≤ s.high i)

abbrev pub AreBetween : {X : Type 0} → Approximations X → (X → ℕ) → List X → Type 0
AreBetween s dist members = AllByRecursion (IsBetween s dist) members

-- the distances of these cells lie between their bounds
abbrev pub LieBetween : Contents → Query → List (ℕ × ℕ) → Type 0
LieBetween contents query cells = AreBetween (bounds_of contents query) (distance_of contents query) cells

-- the distance, or the bound that it lies beyond
abbrev pub clamped : {X : Type 0} → Approximations X → (X → ℕ) → X → ℕ
clamped s dist i = if nat_lt (dist i) (s.low i) then s.low i else (if nat_lt (s.high i) (dist i) then s.high i else dist i)

abbrev pub clamped_distance : Contents → Query → ℕ × ℕ → ℕ
clamped_distance contents query = clamped (bounds_of contents query) (distance_of contents query)

-- What is read of a shelf: between the two states some cells were read, in this order, and their ids were put behind
-- those of before. Where the shelf tells, they are the `reads`, and all of them lie between their bounds.
pub record Took {S : Type 0} (g : Ghosts S) (contents : Contents) (query : Query) (reads : List (ℕ × ℕ)) (old new : S) (ids ids' : List ℕ) : Type 0 where
  pub read : List (ℕ × ℕ)
  pub passed : g.passes old (map place_of read) new
  pub listed : ids' ≡ ids ++ map id_of read
  pub exact : g.told → read ≡ reads
  pub between : g.told → LieBetween contents query read

-- the numbers of a mismatch are those of the cell
abbrev pub AreNumbersOf : Contents → Query → ℕ × ℕ → ℕ → ℕ → ℕ → Type 0
AreNumbersOf contents query cell dist low high =
    (dist ≡ distance_of contents query cell) × (low ≡ (bounds_of contents query).low cell) × (high ≡ (bounds_of contents query).high cell)

-- The distance lies outside the bounds, told or not. Where the shelf tells, the numbers are those of the cell.
pub record IsMismatch {S : Type 0} (g : Ghosts S) (contents : Contents) (query : Query) (cell : ℕ × ℕ) (place dist low high : ℕ) : Type 0 where
  pub at : place ≡ place_of cell
  pub outside : (dist < low) ⊎ (high < dist)
  pub numbers : g.told → AreNumbersOf contents query cell dist low high

-- How a fault ends the reads: want of memory comes before the first one, a fault of the shelf after those that succeeded,
-- and a mismatch at the last one.
abbrev pub Ends : {S : Type 0} → Ghosts S → Contents → Query → List (ℕ × ℕ) → List (ℕ × ℕ) → SearchFault → Type 0
Ends g contents query before last Memory = (before ≡ []) × (last ≡ [])
Ends g contents query before last (Shelf fault) = last ≡ []
Ends g contents query before last (Mismatch place dist low high) = (cell : ℕ × ℕ) × (last ≡ cell ∷ []) × IsMismatch g contents query cell place dist low high

-- Where a search fails, some cells were read, and where it fails at a mismatch the last of them has it. Where the shelf
-- tells, they are the first of the `reads`, and all but the mismatch lie between their bounds.
pub record Stopped {S : Type 0} (g : Ghosts S) (contents : Contents) (query : Query) (reads : List (ℕ × ℕ)) (old new : S) (why : SearchFault) : Type 0 where
  pub before : List (ℕ × ℕ)
  pub last : List (ℕ × ℕ)
  pub after : List (ℕ × ℕ)
  pub passed : g.passes old (map place_of (before ++ last)) new
  pub exact : g.told → reads ≡ before ++ (last ++ after)
  pub between : g.told → LieBetween contents query before
  pub ends : Ends g contents query before last why

-- Some list of places was fetched between the two states, and what the shelf names stayed.
abbrev pub GoesOn : {S : Type 0} → Ghosts S → S → S → Type 0
GoesOn g old new = (places : List ℕ) × g.passes old places new
