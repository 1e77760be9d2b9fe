-- That the vectors that are read for a search lie between the bounds of their stored cells.
use Rattle.std.specs.Prelude.{◌≡◌, ℕ, List, ◌++◌, map, get_or, Bool, Option, None, Some, Result, Ok, Err}
use Rattle.std.specs.List.{AllByRecursion}
use Rattle.va_core.specs.Distance.{Query}
use Rattle.va_disk.specs.declared.storage.Storage.{Ghosts}
use Rattle.va_layout.specs.Stands.{Building, Kept, Opens}
use Rattle.va_model.specs.Refitting.{with_building}
use Rattle.va_model.specs.Rows.{Outcome}
use Rattle.va_model.specs.State.{State, holding, only_kept}
use Rattle.va_model.specs.Step.{reads_of}
use Rattle.va_model.specs.VectorReads.{Adds, FrontOf}
use Rattle.va_cursor.specs.Cursors.{Cursor}
use Rattle.va_cursor.specs.Fetches.{places_of}
use Rattle.va_cursor.specs.Rankings.{Reads}
use Rattle.va_keep.specs.declared.entry.Entry.{Entry}
use Rattle.va_search.specs.Cells.{LiesBetween}
use Rattle.va_search.specs.Cursors.{distance_in}
use Rattle.va_serve.specs.Promises.{Asked}
use Rattle.va_store.specs.ShelfReads.{read_of, vector_reads}
use Rattle.va_serve.specs.Session.{IsKeptOf, Sitting, building_of}
use Rattle.va_serve.specs.declared.answer.CommandFault.{CommandFault}
use Rattle.va_serve.specs.declared.answer.CommandFault.TheVariants as faults
use Rattle.va_serve.specs.declared.status.Status.{Status}
use Rattle.va_serve.specs.declared.status.Status.TheVariants as statuses

-- the vectors of some places were read, and the distance of each lies between the bounds of its stored cell
pub record AreWithinBounds (query : Query) (kept : Kept) (image : List ℕ) (old new : List (ℕ × ℕ)) : Type 0 where
  pub places : List ℕ
  pub read : Adds (holding (only_kept kept)) (λ vectors. vectors ≡ reads_of (holding (only_kept kept)) places) old new
  pub between : AllByRecursion (LiesBetween query kept image) places

-- the same of a line or a command with a query, on every image that opens
abbrev pub KeepsBounds : {D : Type 0} → Ghosts D → (Kept → Option Query) → Sitting → D → D → Type 0
KeepsBounds g query sitting old new =
    g.told → (kept : Kept) → IsKeptOf sitting.store kept → Opens kept (g.image old) → (q : Query) → query kept ≡ Some q → AreWithinBounds q kept (g.image old) (g.reads old) (g.reads new)

-- the state of what is kept, with what is being built
abbrev pub building_on : Option Building → Kept → State
building_on building kept = holding (with_building building (only_kept kept))

-- the first of the vectors that this asks for of what is kept, with what is being built, were read, and no others
abbrev pub ReadsAtMostOfKept : (State → Bool → Outcome) → Option Building → Kept → List (ℕ × ℕ) → List (ℕ × ℕ) → Type 0
ReadsAtMostOfKept outcome building kept old new = Adds (building_on building kept) (FrontOf (building_on building kept) (outcome (building_on building kept))) old new

-- A line or a command without a query, which asks no cursor for its next pair, read no vectors but the first of those that it reads
-- of what the image opens as.
abbrev pub ReadsNoMore : {D : Type 0} → Ghosts D → Asked → Sitting → D → D → Type 0
ReadsNoMore g asked sitting old new =
    g.told → (kept : Kept) → IsKeptOf sitting.store kept → Opens kept (g.image old) → asked.query kept ≡ None → asked.cursor ≡ None
    → ReadsAtMostOfKept asked.outcome (building_of sitting.store) kept (g.reads old) (g.reads new)

-- The vectors of some places that a cursor holds were read, each the first of those that were left, and the distance of each lies
-- between the bounds that the cursor holds for the place.
pub record AreAsHeld {D : Type 0} (g : Ghosts D) (cursor : Cursor) (old new : D) : Type 0 where
  pub read : List Entry
  pub left : List Entry
  pub added : List (ℕ × ℕ)
  pub is : g.told → g.reads new ≡ g.reads old ++ added
  pub vectors : vector_reads cursor.shape added ≡ map (read_of cursor.shape) (places_of read)
  pub between : g.told → Reads (distance_in cursor.query cursor.shape (g.image old)) read cursor.held left

-- the same of a cursor that is open; where none is, nothing was read
abbrev pub ReadsAsHeld : {D : Type 0} → Ghosts D → Option Cursor → D → D → Type 0
ReadsAsHeld g None old new = g.reads new ≡ g.reads old
ReadsAsHeld g (Some cursor) old new = AreAsHeld g cursor old new

-- the same of a line or a command that asks the cursor of this name for its next pair
abbrev pub KeepsHeldBounds : {D : Type 0} → Ghosts D → Option ℕ → Sitting → D → D → Type 0
KeepsHeldBounds g asked sitting old new = (name : ℕ) → asked ≡ Some name → ReadsAsHeld g (get_or sitting.cursors name None) old new

-- unless the store itself is at fault, of which more is said
abbrev pub UnlessBroken : {T : Type 0} → Result T CommandFault → Type 0 → Type 0
UnlessBroken (Ok value) P = P
UnlessBroken (Err faults.Disk) P = P
UnlessBroken (Err (faults.Mismatch place dist low high)) P = Unit {0}
UnlessBroken (Err (faults.Changed place)) P = Unit {0}

-- the same by the status of a line
abbrev pub UnlessAtFault : {T : Type 0} → Result T Status → Type 0 → Type 0
UnlessAtFault (Ok value) P = P
UnlessAtFault (Err statuses.Done) P = P
UnlessAtFault (Err statuses.Usage) P = P
UnlessAtFault (Err statuses.ReadFault) P = P
UnlessAtFault (Err statuses.WriteFault) P = P
UnlessAtFault (Err statuses.DiskFault) P = P
UnlessAtFault (Err (statuses.Store why)) P = P
UnlessAtFault (Err (statuses.Mismatch place dist low high)) P = Unit {0}
UnlessAtFault (Err (statuses.Changed place)) P = Unit {0}
UnlessAtFault (Err statuses.Memory) P = P
UnlessAtFault (Err statuses.TooLong) P = P
