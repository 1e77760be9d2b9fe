-- What holds of the reads of a cursor, and of what it holds.
use Rattle.std.specs.Prelude.{◌≡◌, ℕ, zero, suc, List, [], ◌++◌, map, Contains}
use Rattle.va_core.specs.Distance.{Query}
use Rattle.va_keep.specs.declared.entry.Entry.{Entry}
use Rattle.va_ports.specs.Shelves.{AreOwnCells, Contents, IsSound, id_of}
use Rattle.va_noa.specs.NearestReads.{LeastNearest, cells_needed}
use Rattle.va_cursor.specs.Cursors.{Cursor, KeepsVectors, Stands}
use Rattle.va_cursor.specs.Fetches.{cells_next}

-- what is read for each of the first r pairs, together
abbrev pub cells_until : Contents → Query → ℕ → List (ℕ × ℕ)
cells_until snapshot query zero = []
cells_until snapshot query (suc r) = cells_until snapshot query r ++ cells_next snapshot query r

-- It is what a search for the r nearest needs.
abbrev pub ReadsAreNeeded : Type 0
ReadsAreNeeded = (snapshot : Contents) (query : Query) (r : ℕ) → cells_until snapshot query r ≡ cells_needed snapshot query r

-- It is a least set that determines the r nearest.
abbrev pub ReadsAreLeast : Type 0
ReadsAreLeast = (snapshot : Contents) (query : Query) (r : ℕ) → IsSound snapshot → AreOwnCells snapshot → LeastNearest snapshot query r (map id_of (cells_until snapshot query r))

-- Where the places of a snapshot keep their vectors, so does what isn't given yet.
abbrev pub PlacesKeepVectors : Type 0
PlacesKeepVectors = (snapshot contents : Contents) (since : List Entry) (cursor : Cursor) → Stands snapshot since cursor →
    ((place : ℕ) → Contains cursor.places place → contents.vector place ≡ snapshot.vector place) → KeepsVectors snapshot contents cursor
