-- Cursors over a store and its disk, in the words of what was kept when each was opened.
use Rattle.std.specs.Prelude.{◌≡◌, ◌↔◌, ℕ, List, [], ◌∷◌, ◌++◌, length, map, get_or, slice_get, Option, None, Some, Result, OnOk, IfOk, IfErr}
use Rattle.std.specs.List.{AllByRecursion}
use Rattle.va_core.specs.declared.pair.Pair.{Pair}
use Rattle.va_core.specs.Approximations.{need_next}
use Rattle.va_core.specs.Distance.{Query, distance, pairs_of}
use Rattle.va_core.specs.Places.{IdsDiffer, Item, live_items, id_of}
use Rattle.va_core.specs.Ranking.{ascending}
use Rattle.va_core.specs.Reads.{approximated}
use Rattle.va_core.specs.Shape.{Shape}
use Rattle.va_cursor.specs.Cursors.{Cursor, Stands}
use Rattle.va_cursor.specs.Fetches.{GivesFirst, given_then, places_of}
use Rattle.va_cursor.specs.Rankings.{Reads, cell_at}
use Rattle.va_disk.specs.Frames.{DiskFailsAs, OnlyReads}
use Rattle.va_disk.specs.declared.storage.Storage.{Ghosts}
use Rattle.va_keep.specs.declared.entry.Entry.{Entry}
use Rattle.va_layout.specs.Fields.{vector_in}
use Rattle.va_layout.specs.Stands.{Kept}
use Rattle.va_ports.specs.Shelves.{AreOwnCells, Contents, place_of}
use Rattle.va_search.specs.Cells.{IsOutside}
use Rattle.va_search.specs.Searched.{ReadsFirst, ReadsItems, WhereStands}
use Rattle.va_search.specs.declared.fault.StoreSearchFault.{StoreSearchFault}
use Rattle.va_search.specs.declared.fault.StoreSearchFault.TheVariants as faults
use Rattle.va_store.specs.Known.{Fits, Known}
use Rattle.va_store.specs.Shelved.{IsSameStore, KeepsChanged, cells_from, item_of_cell}
use Rattle.va_store.specs.ShelfReads.{ReadsVectors}

-- A shelf over what is kept: its cells are the live places with their ids, each has the item that lives in its place, and
-- each vector lies in its cell.
pub record IsShelfOf (kept : Kept) (contents : Contents) : Type 0 where
  pub shape : contents.shape ≡ kept.shape
  pub marks : contents.marks ≡ kept.marks
  pub cells : contents.cells ≡ cells_from 0 (map id_of kept.places)
  pub items : map (item_of_cell contents) contents.cells ≡ live_items kept.places
  pub live : AllByRecursion (λ (cell : ℕ × ℕ). get_or kept.places (place_of cell) None ≡ Some (item_of_cell contents cell)) contents.cells
  pub differ : IdsDiffer (live_items kept.places)
  pub own : AreOwnCells contents

-- The cursor ranks what was kept, and nothing was read since it gave its last pair.
pub record Ranks (kept : Kept) (cursor : Cursor) : Type 0 where
  pub contents : Contents
  pub is : IsShelfOf kept contents
  pub stands : Stands contents [] cursor

-- each vector that was kept stands in its place of the image
abbrev pub VectorsStand : Kept → List ℕ → Type 0
VectorsStand kept image = (p : ℕ) (item : Item) → get_or kept.places p None ≡ Some item → vector_in kept.shape p image ≡ item.vector

-- the pairs of what was kept, in order
abbrev pub ranking_of : Query → Kept → List Pair
ranking_of query kept = ascending (pairs_of query (live_items kept.places))

-- what is needed of it for one pair more than r, and not for r
abbrev pub due_of : Query → Kept → ℕ → List Item
due_of query kept r = need_next (approximated kept.marks query) (live_items kept.places) (λ (item : Item). distance query item.vector) r

-- what is read where this pair comes after r others, or none does
abbrev pub read_for : Query → Kept → ℕ → Option Pair → List Item
read_for query kept r None = []
read_for query kept r (Some pair) = due_of query kept r

-- the distance of the vector that the image has in the place of a cell
abbrev pub distance_in : Query → Shape → List ℕ → ℕ × ℕ → ℕ
distance_in query shape image cell = distance query (vector_in shape (place_of cell) image)

-- a new cursor over the live places
pub record IsNew (known : Known) (query : Query) (cursor : Cursor) : Type 0 where
  pub shape : cursor.shape ≡ known.shape
  pub query_is : cursor.query ≡ query
  pub places : cursor.places ≡ map place_of (cells_from 0 known.ids)
  pub given : cursor.given ≡ 0

-- the cursor has come further, or not, in the ranking of the same places by the same query
pub record IsSameCursor (before after : Cursor) : Type 0 where
  pub shape : after.shape ≡ before.shape
  pub query : after.query ≡ before.query
  pub places : after.places ≡ before.places

module _ {D : Type 0} (g : Ghosts D) where
  -- Why no cursor was opened. A changed code is never met on a disk that tells its bytes.
  abbrev pub FailsOpen : Known → StoreSearchFault → Type 0
  FailsOpen known' faults.Memory = known'.changed ≡ None
  FailsOpen known' faults.Disk = Unit {0}
  FailsOpen known' (faults.Mismatch place dist low high) = ⊥
  FailsOpen known' (faults.Changed place) = (g.told → ⊥) × (known'.changed ≡ Some place)

  -- A cursor was opened, or not, and no vector was read. It ranks what the disk stands for.
  pub record Opened (query : Query) (known known' : Known) (old new : D) (result : Result Cursor StoreSearchFault) : Type 0 where
    pub ranks : IfOk result (λ cursor. WhereStands g known old (λ kept. Ranks kept cursor))
    pub begins : IfOk result (IsNew known query)
    pub reads : ReadsVectors g known.shape old [] new
    pub unchanged : OnOk result (known'.changed ≡ None)
    pub failed : IfErr result (FailsOpen known')
    pub keeps : KeepsChanged known known'
    pub none_told : g.told → known'.changed ≡ None
    pub same : IsSameStore known known'
    pub fits : Fits g known' new
    pub cause : DiskFailsAs g faults.Disk old new result

  -- this holds of what the cursor ranks, where the disk tells and has the vectors that were kept
  abbrev pub WhileKept : Cursor → D → (Kept → Type 0) → Type 0
  WhileKept cursor disk P = g.told → (kept : Kept) → Ranks kept cursor → VectorsStand kept (g.image disk) → P kept

  -- the next pair, or none, and what was read for it
  pub record Gives (kept : Kept) (before after : Cursor) (old new : D) (next : Option Pair) : Type 0 where
    pub pair : next ≡ slice_get (ranking_of before.query kept) before.given
    pub reads : ReadsItems g kept old (read_for before.query kept before.given next) new
    pub count : after.read_last ≡ length (read_for before.query kept before.given next)
    pub ranks : Ranks kept after

  -- Whatever the vectors are: those of some entries were read one by one, each of which was the first and lay between its
  -- bounds.
  pub record ReadsHeld (cursor : Cursor) (held : List Entry) (old new : D) : Type 0 where
    pub read : List Entry
    pub vectors : ReadsVectors g cursor.shape old (places_of read) new
    pub between : g.told → Reads (distance_in cursor.query cursor.shape (g.image old)) read cursor.held held

  -- the same, and then one was read whose distance lies outside its bounds
  pub record ReadsOutsideHeld (cursor : Cursor) (old new : D) (place dist low high : ℕ) : Type 0 where
    pub read : List Entry
    pub entry : Entry
    pub rest : List Entry
    pub vectors : ReadsVectors g cursor.shape old (places_of (read ++ entry ∷ [])) new
    pub between : g.told → Reads (distance_in cursor.query cursor.shape (g.image old)) read cursor.held (entry ∷ rest)
    pub place_is : place ≡ entry.place
    pub low_is : low ≡ entry.low
    pub high_is : high ≡ entry.high
    pub dist_is : g.told → dist ≡ distance_in cursor.query cursor.shape (g.image old) (cell_at entry)

  -- entries were read until the first was known, and its pair was given
  pub record GivesHeld (before after : Cursor) (old new : D) (next : Option Pair) : Type 0 where
    pub known : List Entry
    pub reads : ReadsHeld before known old new
    pub first : GivesFirst next known after.held

  -- Why there is no next pair, and what was read until then. A distance outside its bounds is never met while the vectors
  -- are those that were kept.
  abbrev pub FailsNext : Known → Cursor → Cursor → D → D → StoreSearchFault → Type 0
  FailsNext known' before after old new faults.Memory = ⊥
  FailsNext known' before after old new faults.Disk =
      WhileKept before old (λ kept. ReadsFirst g kept old (read_for before.query kept before.given (slice_get (ranking_of before.query kept) before.given)) new) × ReadsHeld before after.held old new
  FailsNext known' before after old new (faults.Mismatch place dist low high) =
      IsOutside dist low high × WhileKept before old (λ kept. ⊥) × ReadsOutsideHeld before old new place dist low high
  FailsNext known' before after old new (faults.Changed place) = (g.told → ⊥) × (known'.changed ≡ Some place)

  -- A cursor gave its next pair.
  pub record Advanced (before after : Cursor) (known known' : Known) (old new : D) (result : Result (Option Pair) StoreSearchFault) : Type 0 where
    pub gives : IfOk result (λ next. WhileKept before old (λ kept. Gives kept before after old new next))
    pub held : IfOk result (GivesHeld before after old new)
    pub end : IfOk result (λ next. (next ≡ None) ↔ (before.given ≡ length before.places))
    pub given : IfOk result (λ next. after.given ≡ given_then next before.given)
    pub cursor : IsSameCursor before after
    pub unchanged : OnOk result (known'.changed ≡ None)
    pub failed : IfErr result (FailsNext known' before after old new)
    pub keeps : KeepsChanged known known'
    pub none_told : g.told → known'.changed ≡ None
    pub same : IsSameStore known known'
    pub fits : Fits g known' new
    pub frame : OnlyReads g old new
    pub cause : DiskFailsAs g faults.Disk old new result
