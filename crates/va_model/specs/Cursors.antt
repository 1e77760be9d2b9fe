-- The commands of cursors, each of which gives the pairs of its snapshot one by one.
use Rattle.std.specs.Prelude.{ℕ, ◌+◌, zero, suc, not, List, [], ◌∷◌, ◌++◌, length, map, get_or, slice_get, slice_set, Option, None, Some, is_some, Bool}
use Rattle.va_core.specs.declared.pair.Pair.{Pair}
use Rattle.va_core.specs.Approximations.{need_next}
use Rattle.va_core.specs.Distance.{distance, pairs_of}
use Rattle.va_core.specs.Places.{Item, live_items, place_of}
use Rattle.va_core.specs.Ranking.{ascending}
use Rattle.va_core.specs.Reads.{approximated}
use Rattle.va_lang.specs.Command.{Query}
use Rattle.va_lang.specs.Reply as replies
use Rattle.va_lang.specs.declared.reply.Why.TheVariants as reasons
use Rattle.va_model.specs.Rows.{Outcome, Row, at_once, never, refuse}
use Rattle.va_model.specs.Searching.{items_of, query_fits, query_in}
use Rattle.va_model.specs.State.{OpenCursor, Store, holding}

-- the cursor of this name, if it is open
abbrev pub cursor_of : ℕ → Store → Option OpenCursor
cursor_of name store = get_or store.cursors name None

abbrev pub is_open : ℕ → Store → Bool
is_open name store = is_some (cursor_of name store)

-- the store with a cursor or none of this name
abbrev pub with_cursor : ℕ → Option OpenCursor → Store → Store
with_cursor name cursor store = record store { cursors = slice_set store.cursors name cursor }

-- the items that were live when the cursor was opened, and their pairs in order
abbrev pub ranked_items : OpenCursor → List Item
ranked_items cursor = live_items cursor.snapshot.places

abbrev pub ranking : OpenCursor → List Pair
ranking cursor = ascending (pairs_of cursor.query (ranked_items cursor))

-- what is needed of the snapshot for one pair more than r, and not for r, ascending by lower bound and id
abbrev pub due_for : OpenCursor → ℕ → List Item
due_for cursor r = need_next (approximated cursor.snapshot.marks cursor.query) (ranked_items cursor) (λ (item : Item). distance cursor.query item.vector) r

-- what is read for the first r pairs, one after another
abbrev pub read_until : OpenCursor → ℕ → List Item
read_until cursor zero = []
read_until cursor (suc r) = read_until cursor r ++ due_for cursor r

-- the places that some items had in the snapshot
abbrev pub places_in : OpenCursor → List Item → List ℕ
places_in cursor items = map (λ (item : Item). place_of item.id cursor.snapshot.places) items

abbrev pub advanced : OpenCursor → OpenCursor
advanced cursor = record cursor { given = cursor.given + 1 }

-- the store as it is now is what the cursor ranks
abbrev pub open_row : ℕ → Query → Store → Row
open_row name query store = record {
  reasons = (not (query_fits store.kept.shape.dims query), reasons.Length) ∷ (is_open name store, reasons.Cursor) ∷ [];
  want = at_once;
  outcome = record {
    state = holding (with_cursor name (Some (record { snapshot = store.kept; query = query_in store.kept query; given = 0 })) store);
    reply = replies.opened (length (items_of store));
    places = [];
  };
}

-- the next pair is given, once the vectors are read that are due for it; where there is none, nothing is read
abbrev pub gives : ℕ → OpenCursor → Option Pair → Store → Outcome
gives name cursor None store = record { state = holding store; reply = replies.at_end; places = [] }
gives name cursor (Some pair) store = record {
  state = holding (with_cursor name (Some (advanced cursor)) store);
  reply = replies.next_pair pair (length (due_for cursor cursor.given));
  places = places_in cursor (due_for cursor cursor.given);
}

abbrev pub advances : ℕ → Option OpenCursor → Store → Outcome
advances name None store = refuse (holding store) reasons.Cursor
advances name (Some cursor) store = gives name cursor (slice_get (ranking cursor) cursor.given) store

abbrev pub next_row : ℕ → Store → Row
next_row name store = record {
  reasons = (not (is_open name store), reasons.Cursor) ∷ [];
  want = never;
  outcome = advances name (cursor_of name store) store;
}

abbrev pub close_row : ℕ → Store → Row
close_row name store = record {
  reasons = (not (is_open name store), reasons.Cursor) ∷ [];
  want = never;
  outcome = record { state = holding (with_cursor name None store); reply = replies.closed; places = [] };
}
