-- Entries that list the live ids in ascending order, and places below which none is empty.
use Rattle.std.specs.Prelude.{◌≡◌, ◌⊎◌, ℕ, ◌+◌, ◌<◌, ◌≤◌, List, [], ◌∷◌, get_or, length, Option, None, Some}
use Rattle.std.specs.List.Sorted.{IsNonDecreasingBy, IsPermutation, IsStableByKey}
use Rattle.std.specs.Ordering.{nat_cmp}
use Rattle.va_store.specs.Ids.{LivesAt, live_count}
use Rattle.va_store.specs.declared.index.LiveId.{LiveId}
use Rattle.va_store.specs.declared.index.Repeat.{Repeat}

abbrev pub IsAscending : List LiveId → Type 0
IsAscending entries = (i j : ℕ) (other : LiveId) → i < j → j < length entries → (get_or entries i other).id < (get_or entries j other).id

-- an entry for each live id, at its place
pub record Lists (id place : ℕ) (entries : List LiveId) : Type 0 where
  pub at : ℕ
  pub inside : at < length entries
  pub is : (other : LiveId) → get_or entries at other ≡ record { id = id; place = place }

pub record IsIndex (ids : List (Option ℕ)) (entries : List LiveId) : Type 0 where
  pub ascending : IsAscending entries
  pub live : (i : ℕ) (other : LiveId) → i < length entries → LivesAt (get_or entries i other).id (get_or entries i other).place ids
  pub all : (id place : ℕ) → LivesAt id place ids → Lists id place entries
  pub count : length entries ≡ live_count ids

-- no place below is empty
pub record IsFilledTo (end : ℕ) (ids : List (Option ℕ)) : Type 0 where
  pub within : end ≤ length ids
  pub live : (place : ℕ) → place < end → get_or ids place None ≡ None → ⊥

-- the live ids in the order of their places, of which the first is at a number
abbrev pub listed : ℕ → List (Option ℕ) → List LiveId
listed at [] = []
listed at (None ∷ ids) = listed (at + 1) ids
listed at (Some id ∷ ids) = record { id = id; place = at } ∷ listed (at + 1) ids

-- the id of a place as an entry of it, or no entry
abbrev pub entry_at : ℕ → Option ℕ → List LiveId
entry_at place None = []
entry_at place (Some id) = record { id = id; place = place } ∷ []

-- the live ids in ascending order, and those that are the same in the order of their places
pub record IsOrdered (ids : List (Option ℕ)) (entries : List LiveId) : Type 0 where
  pub moved : IsPermutation (listed 0 ids) entries
  pub ascends : IsNonDecreasingBy (λ (e : LiveId). e.id) entries
  pub stable : IsStableByKey (λ (e : LiveId). e.id) nat_cmp (listed 0 ids) entries

-- two neighbours have one id and these places
pub record AreNeighbours (n : ℕ) (entries : List LiveId) (repeat : Repeat) : Type 0 where
  pub at : ℕ
  pub inside : at + 1 < n
  pub id : ℕ
  pub first : (other : LiveId) → get_or entries at other ≡ record { id = id; place = repeat.earlier }
  pub second : (other : LiveId) → get_or entries (at + 1) other ≡ record { id = id; place = repeat.place }

-- of the neighbours among the first n entries that have one id, those whose second place is least, or none where there are none
abbrev pub IsSoonest : ℕ → List LiveId → Option Repeat → Type 0
IsSoonest n entries None = (repeat : Repeat) → AreNeighbours n entries repeat → ⊥
IsSoonest n entries (Some repeat) = AreNeighbours n entries repeat × ((other : Repeat) → AreNeighbours n entries other → repeat.place ≤ other.place)

-- of what was found and two neighbours the one whose second place is less
pub record IsSooner (found : Option Repeat) (earlier later : LiveId) (result : Option Repeat) : Type 0 where
  pub differ : (earlier.id ≡ later.id → ⊥) → result ≡ found
  pub same : earlier.id ≡ later.id → (result ≡ found) ⊎ (result ≡ Some (record { earlier = earlier.place; place = later.place }))
  pub none : earlier.id ≡ later.id → found ≡ None → result ≡ Some (record { earlier = earlier.place; place = later.place })
  pub least : earlier.id ≡ later.id → (repeat : Repeat) → result ≡ Some repeat → repeat.place ≤ later.place
  pub before : earlier.id ≡ later.id → (repeat was : Repeat) → result ≡ Some repeat → found ≡ Some was → repeat.place ≤ was.place
