-- The state of the program, and which bytes of a disk stand for it.
use Rattle.std.specs.Prelude.{◌≡◌, ℕ, ◌+◌, List, [], ◌∷◌, Option, None, Some, replicate}
use Rattle.std.specs.List.{flat_map}
use Rattle.va_core.specs.Distance.{Query}
use Rattle.va_core.specs.Places.{Item}
use Rattle.va_layout.specs.Stands.{Building, Kept, Stands, IsBlank}

-- A cursor: what was kept when it was opened, the query by which it ranks that, and how many pairs it has given.
pub record OpenCursor : Type 0 where
  pub snapshot : Kept
  pub query : Query
  pub given : ℕ

-- What is there beside the kept part ends with the run: what is being built, where anything is, and the cursors, by their names from
-- 0 to 63.
pub record Store : Type 0 where
  pub kept : Kept
  pub building : Option Building
  pub cursors : List (Option OpenCursor)

-- under no name one is open
unfoldable pub no_cursors : List (Option OpenCursor)
no_cursors = replicate 64 None

-- the cursors that are open, in the order of their names
abbrev pub open_cursors : List (Option OpenCursor) → List OpenCursor
open_cursors [] = []
open_cursors (None ∷ cursors) = open_cursors cursors
open_cursors (Some cursor ∷ cursors) = cursor ∷ open_cursors cursors

-- nothing yet, or a store
pub data State : Type 0 where
  blank : State
  holding : Store → State

-- An image is blank, or stands for the kept part of the state. What is beside it is in no file.
abbrev pub StandsFor : State → List ℕ → Type 0
StandsFor blank image = IsBlank image
StandsFor (holding store) image = Stands store.kept image

-- the store that has this kept part, and nothing beside it
abbrev pub only_kept : Kept → Store
only_kept kept = record { kept = kept; building = None; cursors = no_cursors }

-- there is nothing beside the kept part
abbrev pub IsKeptAlone : State → Type 0
IsKeptAlone blank = Unit {0}
IsKeptAlone (holding store) = store ≡ only_kept store.kept

-- A run begins in this state on this image: the image stands for it, and there is nothing beside its kept part.
pub record Begins (start : State) (image : List ℕ) : Type 0 where
  pub alone : IsKeptAlone start
  pub stands : StandsFor start image

-- the live places from this one on
abbrev pub live_places : ℕ → List (Option Item) → List ℕ
live_places from [] = []
live_places from (None ∷ places) = live_places (from + 1) places
live_places from (Some item ∷ places) = from ∷ live_places (from + 1) places

-- The places that are held back, so that no vector is put into them: those that are live in the snapshot of an open cursor.
abbrev pub held_places : Store → List ℕ
held_places store = flat_map (λ (cursor : OpenCursor). live_places 0 cursor.snapshot.places) (open_cursors store.cursors)
