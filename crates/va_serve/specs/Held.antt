-- The cursors that a session holds, by their names, and how often each place is held back by them.
use Rattle.std.specs.Prelude.{◌≡◌, ℕ, ◌+◌, ◌<◌, ◌≤◌, ◌==◌, Bool, List, [], ◌∷◌, length, get_or, replicate, Option, None, Some, is_some, if◌then◌else◌}
use Rattle.std.specs.List.{AllByRecursion}
use Rattle.va_core.specs.Shape.{Shape}
use Rattle.va_cursor.specs.Cursors.{Cursor}

-- under no name one is open
unfoldable pub none_open : List (Option Cursor)
none_open = replicate 64 None

abbrev pub is_open_at : ℕ → List (Option Cursor) → Bool
is_open_at name cursors = is_some (get_or cursors name None)

-- how many are open
abbrev pub count_open : List (Option Cursor) → ℕ
count_open [] = 0
count_open (None ∷ cursors) = count_open cursors
count_open (Some cursor ∷ cursors) = 1 + count_open cursors

-- how often a place is listed
abbrev pub times : ℕ → List ℕ → ℕ
times place [] = 0
times place (p ∷ places) = (if p == place then 1 else 0) + times place places

-- the cursor is one over a shelf of this shape, and holds each place once
pub record IsCursorOver (shape : Shape) (cursor : Cursor) : Type 0 where
  pub shape_is : cursor.shape ≡ shape
  pub once : (place : ℕ) → times place cursor.places ≤ 1

-- each cursor that is open is such
abbrev pub HasCursorShape : Shape → Option Cursor → Type 0
HasCursorShape shape None = Unit {0}
HasCursorShape shape (Some cursor) = IsCursorOver shape cursor

abbrev pub HaveShape : Shape → List (Option Cursor) → Type 0
HaveShape shape cursors = AllByRecursion (HasCursorShape shape) cursors

-- how many cursors hold a place back
abbrev pub number_of : ℕ → List (Option Cursor) → ℕ
number_of place [] = 0
number_of place (None ∷ cursors) = number_of place cursors
number_of place (Some cursor ∷ cursors) = times place cursor.places + number_of place cursors

-- the number of each place is how many of the cursors hold it back
abbrev pub AreCounts : List (Option Cursor) → List ℕ → Type 0
AreCounts cursors numbers = (place : ℕ) → place < length numbers → get_or numbers place 0 ≡ number_of place cursors
