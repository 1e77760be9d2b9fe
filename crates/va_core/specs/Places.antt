-- What a store keeps: a list of places, each empty or with a live id and its vector.
use Rattle.std.specs.Prelude.{◌≡◌, ℕ, ◌+◌, ◌^◌, ◌<◌, ◌==◌, Bool, List, [], ◌∷◌, length, get_or, Option, None, Some, if◌then◌else◌}
use Rattle.std.specs.List.{list_any}
use Rattle.va_core.specs.Vectors.{IsVector}

-- an id that is live, and its vector
pub record Item : Type 0 where
  pub id : ℕ
  pub vector : List ℕ

-- an id below 2^32, and a vector of so many dimensions
pub record IsItem (dims : ℕ) (item : Item) : Type 0 where
  pub small : item.id < 2 ^ 32
  pub vector : IsVector dims item.vector

-- each place is empty, or holds such an item
abbrev pub HoldItems : ℕ → List (Option Item) → Type 0
HoldItems dims places = (p : ℕ) (item : Item) → get_or places p None ≡ Some item → IsItem dims item

-- the items that are live, in the order of their places
abbrev pub live_items : List (Option Item) → List Item
live_items [] = []
live_items (None ∷ places) = live_items places
live_items (Some item ∷ places) = item ∷ live_items places

abbrev pub is_live : ℕ → List (Option Item) → Bool
is_live id places = list_any (λ item. item.id == id) (live_items places)

-- the id is that of none of the items
abbrev pub IdAbsent : ℕ → List Item → Type 0
IdAbsent id [] = Unit {0}
IdAbsent id (item ∷ items) = (id ≡ item.id → ⊥) × IdAbsent id items

-- no id stands twice
abbrev pub IdsDiffer : List Item → Type 0
IdsDiffer [] = Unit {0}
IdsDiffer (item ∷ items) = IdAbsent item.id items × IdsDiffer items

-- the least place that is empty, or the number of places
abbrev pub first_empty : List (Option Item) → ℕ
first_empty [] = 0
first_empty (None ∷ places) = 0
first_empty (Some item ∷ places) = first_empty places + 1

abbrev pub is_full : List (Option Item) → Bool
is_full places = first_empty places == length places

-- the place of an id that is live
abbrev pub place_of : ℕ → List (Option Item) → ℕ
place_of id [] = 0
place_of id (None ∷ places) = place_of id places + 1
place_of id (Some item ∷ places) = if item.id == id then 0 else place_of id places + 1

-- the id in a place, and the vector there
abbrev pub id_of : Option Item → Option ℕ
id_of None = None
id_of (Some item) = Some item.id

abbrev pub vector_of : Option Item → List ℕ
vector_of None = []
vector_of (Some item) = item.vector
