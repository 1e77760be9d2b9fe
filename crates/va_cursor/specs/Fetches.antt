-- What a call of `next` fetches and gives. g is all that contracts see of the shelf.
use Rattle.std.specs.Prelude.{◌≡◌, ℕ, ◌+◌, ◌<◌, ◌⊎◌, true, false, List, [], ◌∷◌, ◌++◌, length, map, filter, Option, None, Some, slice_get}
use Rattle.va_core.specs.declared.pair.Pair.{Pair}
use Rattle.va_core.specs.Approximations.{need_next}
use Rattle.va_core.specs.Distance.{Query}
use Rattle.va_core.specs.Ranking.{ascending}
use Rattle.va_keep.specs.Queued.{low_pair}
use Rattle.va_keep.specs.declared.entry.Entry.{Entry}
use Rattle.va_ports.specs.Faults.{IfMismatch}
use Rattle.va_ports.specs.Shelves.{AreOwnCells, Contents}
use Rattle.va_ports.specs.Searches.{bounds_of, clamped_distance, distance_of, pairs_of}
use Rattle.va_ports.specs.declared.search.SearchFault.{SearchFault}
use Rattle.va_ports.specs.declared.search.SearchFault.TheVariants.{Memory, Shelf, Mismatch}
use Rattle.va_ports.specs.declared.shelf.Shelf.{Ghosts}
use Rattle.va_bounded.specs.Keeps.{clamped_pairs}
use Rattle.va_cursor.specs.Rankings.{Reads, distance_at, cell_at, is_wide}
use Rattle.va_cursor.specs.Cursors.{Cursor, Stands}

abbrev pub places_of : List Entry → List ℕ
places_of entries = map (λ (e : Entry). e.place) entries

abbrev pub cells_at : List Entry → List (ℕ × ℕ)
cells_at entries = map cell_at entries

-- how many entries have to be read at most
abbrev pub wide_count : List Entry → ℕ
wide_count entries = length (filter is_wide entries)

-- what is needed of the cells for pair number r + 1 and not for pair number r, ascending by their least pairs
abbrev pub cells_next : Contents → Query → ℕ → List (ℕ × ℕ)
cells_next contents query r = need_next (bounds_of contents query) contents.cells (distance_of contents query) r

-- the same by clamped distances
abbrev pub clamped_next : Contents → Query → ℕ → List (ℕ × ℕ)
clamped_next contents query r = need_next (bounds_of contents query) contents.cells (clamped_distance contents query) r

-- Some entries were read, and counted. Where the shelf tells, each was the first, and wide, and lay between its bounds.
pub record Visits {S : Type 0} (g : Ghosts S) (query : Query) (held held' : List Entry) (old new : S) (count count' : ℕ) : Type 0 where
  pub read : List Entry
  pub passed : g.passes old (places_of read) new
  pub counted : count' ≡ count + length read
  pub reads : g.told → Reads (distance_of (g.contents old) query) read held held'

-- the first entry is wide and has a mismatch, told or not
pub record IsFirstOutside {S : Type 0} (g : Ghosts S) (contents : Contents) (query : Query) (held last : List Entry) (place dist low high : ℕ) : Type 0 where
  pub entry : Entry
  pub rest : List Entry
  pub first : held ≡ entry ∷ rest
  pub is_last : last ≡ entry ∷ []
  pub wide : is_wide entry ≡ true
  pub place_is : place ≡ entry.place
  pub low_is : low ≡ entry.low
  pub high_is : high ≡ entry.high
  pub outside : (dist < low) ⊎ (high < dist)
  pub dist_is : g.told → dist ≡ distance_at (distance_of contents query) entry

-- How a fault ends the reads: a fault of the shelf comes before the fetch that failed, and a mismatch after the last one,
-- whose entry is held as it was.
abbrev pub EndsAt : {S : Type 0} → Ghosts S → Contents → Query → List Entry → List Entry → SearchFault → Type 0
EndsAt g contents query held last Memory = ⊥
EndsAt g contents query held last (Shelf fault) = last ≡ []
EndsAt g contents query held last (Mismatch place dist low high) = IsFirstOutside g contents query held last place dist low high

-- some entries were read, and then one more failed
pub record Halts {S : Type 0} (g : Ghosts S) (query : Query) (held held' : List Entry) (old new : S) (count count' : ℕ) (why : SearchFault) : Type 0 where
  pub read : List Entry
  pub last : List Entry
  pub passed : g.passes old (places_of (read ++ last)) new
  pub counted : count' ≡ count + length (read ++ last)
  pub reads : g.told → Reads (distance_of (g.contents old) query) read held held'
  pub ends : EndsAt g (g.contents old) query held' last why

-- the first isn't wide
abbrev pub IsKnown : List Entry → Type 0
IsKnown [] = Unit {0}
IsKnown (entry ∷ rest) = is_wide entry ≡ false

-- the pair of the first was given, and that was taken out
abbrev pub GivesFirst : Option Pair → List Entry → List Entry → Type 0
GivesFirst None held held' = (held ≡ []) × (held' ≡ [])
GivesFirst (Some pair) held held' = (entry : Entry) × (held ≡ entry ∷ held') × (pair ≡ low_pair entry)

-- entries were read until the first was known, and its pair was given
pub record Took {S : Type 0} (g : Ghosts S) (before after : Cursor) (old new : S) (next : Option Pair) : Type 0 where
  pub known : List Entry
  pub visits : Visits g before.query before.held known old new 0 after.read_last
  pub is_known : IsKnown known
  pub gives : GivesFirst next known after.held

-- the state after the reads that succeeded, and the one that failed
abbrev pub Stopped : {S : Type 0} → Ghosts S → Cursor → Cursor → S → S → SearchFault → Type 0
Stopped g before after old new why = Halts g before.query before.held after.held old new 0 after.read_last why

-- The next pair of the snapshot, or none where there is none. What was read since the last pair, faults among the calls
-- or not, is the list for this one.
pub record Gave {S : Type 0} (g : Ghosts S) (snapshot : Contents) (since : List Entry) (before after : Cursor) (old new : S) (next : Option Pair) : Type 0 where
  pub read : List Entry
  pub passed : g.passes old (places_of read) new
  pub counted : after.read_last ≡ length read
  pub stands : Stands snapshot [] after
  -- where each vector lay in its cell
  pub pair : AreOwnCells snapshot → next ≡ slice_get (ascending (pairs_of snapshot before.query)) before.given
  pub fetched : AreOwnCells snapshot → cells_at (since ++ read) ≡ cells_next snapshot before.query before.given
  -- wherever they lay
  pub known : next ≡ slice_get (ascending (clamped_pairs snapshot before.query snapshot.cells)) before.given
  pub took : cells_at (since ++ read) ≡ clamped_next snapshot before.query before.given

-- Where the cursor stands after a call that failed: what was read counts for the next pair, and the last fetch, of a
-- mismatch, doesn't.
pub record Failed {S : Type 0} (g : Ghosts S) (snapshot : Contents) (since : List Entry) (before after : Cursor) (old new : S) (why : SearchFault) : Type 0 where
  pub read : List Entry
  pub last : List Entry
  pub passed : g.passes old (places_of (read ++ last)) new
  pub counted : after.read_last ≡ length (read ++ last)
  pub stands : Stands snapshot (since ++ read) after
  pub ends : EndsAt g (g.contents old) before.query after.held last why
  -- where each vector lay in its cell there is no mismatch
  pub own : AreOwnCells snapshot → IfMismatch why (λ _ _ _ _. ⊥)

abbrev pub given_then : Option Pair → ℕ → ℕ
given_then None given = given
given_then (Some pair) given = given + 1
