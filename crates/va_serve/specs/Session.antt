-- What a session holds, when a disk fits it, and when it is at a state.
use Rattle.std.specs.Prelude.{◌≡◌, ℕ, List, [], ◌∷◌, Bool, true, false, Option, None, Some, length, take}
use Rattle.std.specs.List.{AllByRecursion}
use denote.Ref.{Bor}
use Rattle.va_cursor.specs.Cursors.{Cursor}
use Rattle.va_disk.specs.declared.storage.Storage.{Ghosts}
use Rattle.va_layout.specs.Stands.{Building, IsBlank, Kept, Stands, selected_in}
use Rattle.va_model.specs.Lines.{Line, long, line_of}
use Rattle.va_model.specs.State as rules
use Rattle.va_model.specs.State.{Begins, State, Store, blank, holding, StandsFor, open_cursors}
use Rattle.va_search.specs.Cursors.{VectorsStand, Ranks}
use Rattle.va_serve.specs.Held.{AreCounts, HaveShape}
use Rattle.va_store.specs.Known.{Known, IsOf, FitsDisk}

-- what a session holds of the program's state: the store, if there is one, and its cursors by their names
pub record Sitting : Type 0 where
  pub store : Option Known
  pub cursors : List (Option Cursor)

abbrev pub with_store : List (Option Cursor) → Known → Sitting
with_store cursors held = record { store = Some held; cursors = cursors }

-- the same where it doesn't matter which cursors there are
abbrev pub over_store : Known → Sitting
over_store held = with_store [] held

abbrev pub no_store : Sitting
no_store = record { store = None; cursors = [] }

-- what commands act on once there is a store: the store, its cursors by their names, and the bytes that a vector is read
-- into
pub record Workspace : Type 0 where
  pub store : Known
  pub cursors : List (Option Cursor)
  pub vector : List ℕ

-- What holds of it, with the numbers by which places are held back: there are 64 names, each cursor is over a shelf of the
-- store's shape, and there is a number for each place, by the cursors that are open.
pub record IsWorkspace (store : Known) (cursors : List (Option Cursor)) (numbers vector : List ℕ) : Type 0 where
  pub names : length cursors ≡ 64
  pub shapes : HaveShape store.shape cursors
  pub numbered : length numbers ≡ store.shape.capacity
  pub counts : AreCounts cursors numbers
  pub room : length vector ≡ 256

abbrev pub sitting_of : Workspace → Sitting
sitting_of work = with_store work.cursors work.store

-- the same where there may be none
abbrev pub sitting_in : Option Workspace → Sitting
sitting_in None = no_store
sitting_in (Some work) = sitting_of work

-- What a reply may lend: the vector that was read last, in the first bytes of its room, as many as the store's vectors
-- have, and the marks of the store.
pub record Lent : Type 0 where
  pub vector : List ℕ
  pub marks : Option (List (List ℕ))

abbrev pub lent_by : Workspace → Lent
lent_by work = record { vector = take work.store.shape.dims work.vector; marks = Some work.store.marks }

-- without a store there is nothing to lend
abbrev pub lent_in : Option Workspace → Lent
lent_in None = record { vector = []; marks = None }
lent_in (Some work) = lent_by work

-- what contracts see of a session: what it holds, what its replies may lend, and whether the run is over
pub record Seat : Type 0 where
  pub sitting : Sitting
  pub lent : Lent
  pub over : Bool

-- A disk of this length and image is blank where there is no store, and else it fits the store, which isn't broken and has
-- met no changed code.
abbrev pub FitsStore : Type 0 → Option Known → ℕ → List ℕ → Type 0
FitsStore told None size image = told → IsBlank image
FitsStore told (Some held) size image = FitsDisk told held size image × (held.broken ≡ false) × (held.changed ≡ None)

-- there is a store
abbrev pub is_there : Option Known → Bool
is_there None = false
is_there (Some held) = true

abbrev pub has_store : Sitting → Bool
has_store sitting = is_there sitting.store

-- a disk fits a session
abbrev pub FitsSession : {D : Type 0} → Ghosts D → Sitting → D → Type 0
FitsSession g sitting disk = FitsStore g.told sitting.store (g.size disk) (g.image disk)

-- what is kept is that of the store, if there is one
abbrev pub IsKeptOf : Option Known → Kept → Type 0
IsKeptOf None kept = ⊥
IsKeptOf (Some held) kept = IsOf held kept

-- what the store is building, if there is one
abbrev pub building_of : Option Known → Option Building
building_of None = None
building_of (Some held) = held.building

-- the store has met a changed code, first in this place
abbrev pub IsChangedAt : Option Known → ℕ → Type 0
IsChangedAt None place = ⊥
IsChangedAt (Some held) place = held.changed ≡ Some place

-- The cursor is that of the state: it ranks the snapshot, for which an image stood, and has given as many pairs.
pub record IsCursorOf (cursor : rules.OpenCursor) (held : Cursor) : Type 0 where
  pub query : held.query ≡ cursor.query
  pub given : held.given ≡ cursor.given
  pub ranks : Ranks cursor.snapshot held
  pub stood : (image : List ℕ) × Stands cursor.snapshot image

abbrev pub IsCursorIf : Option rules.OpenCursor → Option Cursor → Type 0
IsCursorIf None None = Unit {0}
IsCursorIf None (Some held) = ⊥
IsCursorIf (Some cursor) None = ⊥
IsCursorIf (Some cursor) (Some held) = IsCursorOf cursor held

-- the same of each name
abbrev pub AreCursors : List (Option rules.OpenCursor) → List (Option Cursor) → Type 0
AreCursors [] [] = Unit {0}
AreCursors [] (held ∷ cursors) = ⊥
AreCursors (cursor ∷ cursors) [] = ⊥
AreCursors (cursor ∷ cursors) (held ∷ more) = IsCursorIf cursor held × AreCursors cursors more

-- the store with its cursors is that of the state, isn't broken, and builds the same
pub record IsStoreOf (store : Store) (held : Known) (beside : List (Option Cursor)) : Type 0 where
  pub kept : IsOf held store.kept
  pub whole : held.broken ≡ false
  pub cursors : AreCursors store.cursors beside
  pub building : held.building ≡ store.building

-- the store and the cursors are those of the state
abbrev pub IsStore : State → Option Known → List (Option Cursor) → Type 0
IsStore blank None cursors = Unit {0}
IsStore blank (Some held) cursors = ⊥
IsStore (holding store) None cursors = ⊥
IsStore (holding store) (Some held) cursors = IsStoreOf store held cursors

-- what is held is that of the state
abbrev pub Is : State → Sitting → Type 0
Is state sitting = IsStore state sitting.store sitting.cursors

-- The vectors of the places that cursors hold back are those of when each was opened, though some of the places may be
-- empty since.
abbrev pub KeepsHeld : State → List ℕ → Type 0
KeepsHeld blank image = Unit {0}
KeepsHeld (holding store) image = AllByRecursion (λ (cursor : rules.OpenCursor). VectorsStand cursor.snapshot image) (open_cursors store.cursors)

-- what is held, and the image, are those of the state
pub record IsAt (state : State) (sitting : Sitting) (image : List ℕ) : Type 0 where
  pub is : Is state sitting
  pub stands : StandsFor state image
  pub vectors : KeepsHeld state image

-- this holds in each state that the session and the disk may be at
abbrev pub InEach : {D : Type 0} → Ghosts D → Sitting → D → (State → Type 0) → Type 0
InEach g sitting old P = g.told → (start : State) → IsAt start sitting (g.image old) → P start

-- the image selects the region that the store selects, if there is one
abbrev pub Selects : Option Known → List ℕ → Type 0
Selects None image = Unit {0}
Selects (Some held) image = selected_in image ≡ held.region

-- What is asked of the outcomes before a line, and holds of them after it: each stands for the state, and selects the region that the
-- session's store selects.
abbrev pub AreSecure : State → Sitting → (List ℕ → Type 0) → Type 0
AreSecure state sitting outcomes = (image : List ℕ) → outcomes image → StandsFor state image × Selects sitting.store image

-- this holds in each state that the session and the disk may be at, where the outcomes are secure, on a disk that keeps the disk model
abbrev pub Securely : {D : Type 0} → Ghosts D → Sitting → D → (State → Type 0) → Type 0
Securely g sitting old P = g.honest → g.told → (start : State) → IsAt start sitting (g.image old) → AreSecure start sitting (g.may_leave old) → P start

-- this holds of each state in which a run may begin on this disk
abbrev pub OfEachStart : {D : Type 0} → Ghosts D → D → (State → Type 0) → Type 0
OfEachStart g desk P = g.told → (start : State) → Begins start (g.image desk) → P start

-- the line that a caller hands over: nothing stands for one that was too long
abbrev pub line_handed : Option (Bor (List ℕ)) → Line
line_handed None = long
line_handed (Some bytes) = line_of bytes.now
