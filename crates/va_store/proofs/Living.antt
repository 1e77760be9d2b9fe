-- The item that lives in a place under an id.
use Rattle.std.proofs.Common.{◌≡◌, ℕ, zero, suc, List, [], ◌∷◌, Option, Some, None, map, get_or, refl}
use Rattle.va_core.specs.Places.{Item, id_of}
use Rattle.va_store.specs.Ids.{LivesAt}
use Rattle.va_store.proofs.Indexing.{some_same}

-- an item with this id in this place
pub record HasId (p id : ℕ) (places : List (Option Item)) : Type 0 where
  pub item : Item
  pub there : get_or places p None ≡ Some item
  pub same : item.id ≡ id

pub item_at : (places : List (Option Item)) (p id : ℕ) → LivesAt id p (map id_of places) → HasId p id places
item_at [] p id e = cc
item_at (None ∷ places) zero id e = cc
item_at (Some x ∷ places) zero id e = record { item = x; there = refl; same = some_same x.id id e }
item_at (x ∷ places) (suc p) id e = let behind = item_at places p id e in record { item = behind.item; there = behind.there; same = behind.same }
