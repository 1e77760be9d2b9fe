-- The commands that refit cells: marks are built of the live vectors, and one id after another is converted to them.
use Rattle.std.specs.Prelude.{ℕ, ◌-◌, nat_lt, not, List, [], ◌∷◌, length, map, take, get_or, Option, None, Some, is_some, if◌then◌else◌}
use Rattle.va_core.specs.Above.{live_above}
use Rattle.va_core.specs.Marks.{marks_of}
use Rattle.va_core.specs.Places.{id_of, place_of, vector_of}
use Rattle.va_lang.specs.Reply as replies
use Rattle.va_lang.specs.declared.reply.Why.TheVariants.{Busy, Idle}
use Rattle.va_layout.specs.Stands.{Building, with_marks}
use Rattle.va_model.specs.Rows.{Outcome, Row, between, never, refuse}
use Rattle.va_model.specs.Searching.{items_of}
use Rattle.va_model.specs.State.{Store, holding}

abbrev pub with_building : Option Building → Store → Store
with_building building store = record store { building = building }

-- the live ids above another, ascending; all of them where there is no other
abbrev pub ids_above : Option ℕ → Store → List ℕ
ids_above after store = live_above after (map id_of store.kept.places)

-- where some ids live, and their vectors
abbrev pub places_of : List ℕ → Store → List ℕ
places_of ids store = map (λ (id : ℕ). place_of id store.kept.places) ids

abbrev pub vectors_of : List ℕ → Store → List (List ℕ)
vectors_of ids store = map (λ (id : ℕ). vector_of (get_or store.kept.places (place_of id store.kept.places) None)) ids

-- the marks of the live vectors
abbrev pub fitted_marks : Store → List (List ℕ)
fitted_marks store = marks_of store.kept.shape (vectors_of (ids_above None store) store)

-- The marks of the live vectors are being built, and no id was converted yet. Where memory is refused, the first of the
-- vectors may have been read.
abbrev pub requant_row : Store → Row
requant_row store = record {
  reasons = (is_some store.building, Busy) ∷ [];
  want = between;
  outcome = record {
    state = holding (with_building (Some (record { marks = fitted_marks store; last = None })) store);
    reply = replies.begun (length (items_of store));
    places = places_of (ids_above None store) store;
  };
}

-- the first n of the ids that wait are converted, and some are left; n is at least 1, as in each line
abbrev pub converts_first : ℕ → List ℕ → Building → Store → Outcome
converts_first n ids building store = record {
  state = holding (with_building (Some (record { marks = building.marks; last = Some (get_or ids (n - 1) 0) })) store);
  reply = replies.more_left n (length ids - n);
  places = places_of (take n ids) store;
}

-- all of them are converted, and the new marks are the marks
abbrev pub converts_all : List ℕ → Building → Store → Outcome
converts_all ids building store = record {
  state = holding (record store { kept = with_marks building.marks store.kept; building = None });
  reply = replies.switched (length ids);
  places = places_of ids store;
}

abbrev pub converts_of : ℕ → List ℕ → Building → Store → Outcome
converts_of n ids building store = if nat_lt n (length ids) then converts_first n ids building store else converts_all ids building store

-- the ids above the last that was converted wait
abbrev pub converts : ℕ → Option Building → Store → Outcome
converts n None store = refuse (holding store) Idle
converts n (Some building) store = converts_of n (ids_above building.last store) building store

abbrev pub convert_row : ℕ → Store → Row
convert_row n store = record {
  reasons = (not (is_some store.building), Idle) ∷ [];
  want = never;
  outcome = converts n store.building store;
}
