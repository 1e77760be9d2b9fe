-- The commands that read: the vector of an id, what is there, and the marks.
use Rattle.std.specs.Prelude.{ℕ, not, [], ◌∷◌, length, None, get_or}
use Rattle.va_core.specs.Places.{live_items, is_live, place_of, vector_of}
use Rattle.va_lang.specs.Reply as replies
use Rattle.va_lang.specs.declared.reply.Why.TheVariants.{Unknown}
use Rattle.va_layout.specs.Stands.{progress_of}
use Rattle.va_model.specs.Rows.{Row, never}
use Rattle.va_model.specs.State.{Store, holding, open_cursors}

abbrev pub get_row : ℕ → Store → Row
get_row id store = record {
  reasons = (not (is_live id store.kept.places), Unknown) ∷ [];
  want = never;
  outcome = record {
    state = holding store;
    reply = replies.vector (vector_of (get_or store.kept.places (place_of id store.kept.places) None));
    places = place_of id store.kept.places ∷ [];
  };
}

abbrev pub stat_row : Store → Row
stat_row store = record {
  reasons = [];
  want = never;
  outcome = record {
    state = holding store;
    reply = replies.stat store.kept.shape (length (live_items store.kept.places)) (length (open_cursors store.cursors)) (progress_of store.building);
    places = [];
  };
}

abbrev pub marks_row : Store → Row
marks_row store = record {
  reasons = [];
  want = never;
  outcome = record { state = holding store; reply = replies.marks store.kept.marks; places = [] };
}
