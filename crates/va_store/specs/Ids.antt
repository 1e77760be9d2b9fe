-- The ids by place: each place is empty, or an id lives there.
use Rattle.std.specs.Prelude.{◌≡◌, ℕ, ◌+◌, ◌≤◌, ◌<◌, List, [], ◌∷◌, get_or, length, Option, None, Some}
use Rattle.va_core.specs.Above.{live_above}

abbrev pub LivesAt : ℕ → ℕ → List (Option ℕ) → Type 0
LivesAt id place ids = get_or ids place None ≡ Some id

-- the id lives nowhere
abbrev pub LivesNowhere : ℕ → List (Option ℕ) → Type 0
LivesNowhere id ids = (place : ℕ) → LivesAt id place ids → ⊥

-- each id lives in one place at most
abbrev pub LiveOnce : List (Option ℕ) → Type 0
LiveOnce ids = (p q id : ℕ) → LivesAt id p ids → LivesAt id q ids → p ≡ q

abbrev pub live_count : List (Option ℕ) → ℕ
live_count [] = 0
live_count (None ∷ ids) = live_count ids
live_count (Some id ∷ ids) = live_count ids + 1

abbrev pub IsAbove : Option ℕ → ℕ → Type 0
IsAbove None id = Unit {0}
IsAbove (Some after) id = after < id

-- the least live id above another, or none where there is none
abbrev pub IsNextLive : Option ℕ → List (Option ℕ) → Option ℕ → Type 0
IsNextLive after ids None = (id place : ℕ) → LivesAt id place ids → IsAbove after id → ⊥
IsNextLive after ids (Some next) = ((place : ℕ) × LivesAt next place ids) × IsAbove after next × ((id place : ℕ) → LivesAt id place ids → IsAbove after id → next ≤ id)

-- the least live id above another begins the list of those above it, and the others follow
abbrev pub NextBegins : List (Option ℕ) → Type 0
NextBegins ids = (other : Option ℕ) (next : ℕ) → IsNextLive other ids (Some next) → live_above other ids ≡ next ∷ live_above (Some next) ids

-- no id lives in the place, and it isn't held
pub record IsFree (place : ℕ) (ids : List (Option ℕ)) (held : List ℕ) : Type 0 where
  pub inside : place < length ids
  pub empty : get_or ids place None ≡ None
  pub unheld : get_or held place 0 ≡ 0

-- the least free place, or none where there is none
abbrev pub IsFirstFree : List (Option ℕ) → List ℕ → Option ℕ → Type 0
IsFirstFree ids held None = (place : ℕ) → IsFree place ids held → ⊥
IsFirstFree ids held (Some first) = IsFree first ids held × ((place : ℕ) → place < first → IsFree place ids held → ⊥)
