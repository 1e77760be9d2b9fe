-- The commands that write: a store is made, a vector is stored, and an id goes.
use Rattle.std.specs.Prelude.{ℕ, ◌+◌, ◌==◌, not, List, [], ◌∷◌, length, Option, None, Some, Bool, true, false, if◌then◌else◌, replicate}
use Rattle.std.specs.List.{list_any}
use Rattle.va_core.specs.Marks.{marks_of}
use Rattle.va_core.specs.Places.{Item, is_live, place_of}
use Rattle.va_core.specs.Shape.{Shape as StoreShape, shape_fault}
use Rattle.va_core.specs.declared.shape.ShapeFault.{ShapeFault}
use Rattle.va_lang.specs.Reply.{created, placed, deleted}
use Rattle.va_lang.specs.declared.reply.Why.{Why}
use Rattle.va_lang.specs.declared.reply.Why.TheVariants.{Exists, Shape, Length, Duplicate, Full, Unknown}
use Rattle.va_layout.specs.Stands.{with_place}
use Rattle.va_model.specs.Rows.{Row, at_once, never}
use Rattle.va_model.specs.State.{State, Store, blank, held_places, holding, only_kept}

abbrev pub is_fault : Option ShapeFault → Bool
is_fault None = false
is_fault (Some fault) = true

-- a new store, with all places empty, and the marks over no vectors
abbrev pub new_store : StoreShape → Store
new_store shape = only_kept (record { shape = shape; places = replicate shape.capacity None; marks = marks_of shape [] })

abbrev pub create_reasons : StoreShape → State → List (Bool × Why)
create_reasons shape blank = (is_fault (shape_fault shape), Shape) ∷ []
create_reasons shape (holding store) = (true, Exists) ∷ []

abbrev pub create_row : StoreShape → State → Row
create_row shape state = record {
  reasons = create_reasons shape state;
  want = at_once;
  outcome = record { state = holding (new_store shape); reply = created; places = [] };
}

-- the store with an item or none in a place
abbrev pub store_with : ℕ → Option Item → Store → Store
store_with place item store = record store { kept = with_place place item store.kept }

abbrev pub is_held : List ℕ → ℕ → Bool
is_held held place = list_any (λ (p : ℕ). p == place) held

-- the least place from this one on that is neither live nor held, or the number behind the last
abbrev pub first_unheld : List ℕ → ℕ → List (Option Item) → ℕ
first_unheld held from [] = from
first_unheld held from (None ∷ places) = if is_held held from then first_unheld held (from + 1) places else from
first_unheld held from (Some item ∷ places) = first_unheld held (from + 1) places

-- the least place of a store that is neither live nor held, or the number of places
abbrev pub free_place : Store → ℕ
free_place store = first_unheld (held_places store) 0 store.kept.places

abbrev pub insert_row : ℕ → List ℕ → Store → Row
insert_row id vector store = record {
  reasons =
      (not (length vector == store.kept.shape.dims), Length)
      ∷ (is_live id store.kept.places, Duplicate)
      ∷ (free_place store == length store.kept.places, Full)
      ∷ [];
  want = never;
  outcome = record {
    state = holding (store_with (free_place store) (Some (record { id = id; vector = vector })) store);
    reply = placed (free_place store);
    places = [];
  };
}

abbrev pub delete_row : ℕ → Store → Row
delete_row id store = record {
  reasons = (not (is_live id store.kept.places), Unknown) ∷ [];
  want = never;
  outcome = record {
    state = holding (store_with (place_of id store.kept.places) None store);
    reply = deleted (place_of id store.kept.places);
    places = [];
  };
}
