-- What contracts see of a cursor, and where it stands in the ranking of a snapshot.
use Rattle.std.specs.Prelude.{◌≡◌, ℕ, ◌+◌, ◌<◌, ◌≤◌, ◌^◌, List, length, map, get_or}
use Rattle.std.specs.List.{AllByRecursion}
use Rattle.va_core.specs.Approximations.{NamesDiffer}
use Rattle.va_core.specs.Distance.{Query}
use Rattle.va_core.specs.Shape.{Shape}
use Rattle.va_core.specs.Sorting.{ascending_by}
use Rattle.va_keep.specs.Queued.{Queued, low_pair}
use Rattle.va_keep.specs.declared.entry.Entry.{Entry}
use Rattle.va_ports.specs.Shelves.{Contents, IsSound, place_of}
use Rattle.va_ports.specs.Searches.{clamped_distance}
use Rattle.va_noa.specs.Entries.{entry_of}
use Rattle.va_cursor.specs.Rankings.{Remains, id_at}

-- The places of the snapshot, and the entries whose pairs aren't given yet, in the order of their least pairs.
pub record Cursor : Type 0 where
  pub shape : Shape
  pub query : Query
  pub places : List ℕ
  pub held : List Entry
  pub given : ℕ
  pub read_last : ℕ

abbrev pub Ascends : List ℕ → Type 0
Ascends places = (i j : ℕ) → i < j → j < length places → get_or places i 0 < get_or places j 0

-- each place is below the capacity
abbrev pub AreInside : ℕ → List Entry → Type 0
AreInside capacity entries = AllByRecursion (λ (e : Entry). e.place < capacity) entries

-- the entries of a queue in order
abbrev pub in_order : List Entry → List Entry
in_order entries = ascending_by low_pair entries

-- The queue of a cursor: the ids differ, the places are below the capacity, and there is room for what is put back.
pub record IsWaiting (capacity : ℕ) (queue : Queued) : Type 0 where
  pub differ : NamesDiffer id_at (in_order queue.entries)
  pub inside : AreInside capacity (in_order queue.entries)
  pub room : length queue.entries ≤ queue.room

-- what holds of every cursor
pub record IsCursor (shape : Shape) (query : Query) (places : List ℕ) (queue : Queued) (given : ℕ) : Type 0 where
  pub weights : length query.weights ≡ shape.dims
  pub ascends : Ascends places
  pub few : length places < 2 ^ 32
  pub count : given + length (in_order queue.entries) ≡ length places
  pub waiting : IsWaiting shape.capacity queue

-- the entries of the cells of a snapshot
abbrev pub entries_of : Contents → Query → List Entry
entries_of snapshot query = map (entry_of snapshot query) snapshot.cells

-- The cursor was opened over this snapshot, and read these entries since it gave its last pair, or since it was opened.
-- A distance that lies beyond the bounds of its cell counts as the bound.
pub record Stands (snapshot : Contents) (since : List Entry) (cursor : Cursor) : Type 0 where
  pub sound : IsSound snapshot
  pub shape : cursor.shape ≡ snapshot.shape
  pub places : cursor.places ≡ map place_of snapshot.cells
  pub remains : Remains (clamped_distance snapshot cursor.query) (entries_of snapshot cursor.query) cursor.given since cursor.held

-- the vectors of what isn't given yet are those of the snapshot
abbrev pub KeepsVectors : Contents → Contents → Cursor → Type 0
KeepsVectors snapshot contents cursor = AllByRecursion (λ (e : Entry). contents.vector e.place ≡ snapshot.vector e.place) cursor.held
