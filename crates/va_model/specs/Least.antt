-- What it means that a search reads the least set of vectors that determines its answer.
use Rattle.std.specs.Prelude.{◌≡◌, ℕ, suc, ◌<◌, List, [], ◌∷◌, ◌++◌, length, Option, None, Some, Bool}
use Rattle.std.specs.List.{AllByRecursion}
use Rattle.va_core.specs.Determining.{IsLeastUnder, is_listed, nearest_of, within_of}
use Rattle.va_core.specs.Distance.{distance}
use Rattle.va_core.specs.Places.{Item, place_of}
use Rattle.va_core.specs.ReadLaws.{id_of, vector_of}
use Rattle.va_lang.specs.Command.{Query, Command, create, insert, delete, get, stat, marks, knn, ssa, range, «open», next, close, requant, convert, cert}
use Rattle.va_lang.specs.Grammar.{command_of}
use Rattle.va_lang.specs.Reply.{Reply}
use Rattle.va_layout.specs.Stands.{Kept, Stands}
use Rattle.va_model.specs.Certificates.{Convinces}
use Rattle.va_model.specs.Cursors.{cursor_of, places_in, ranked_items, read_until}
use Rattle.va_model.specs.Lines.{Line, long, text}
use Rattle.va_model.specs.Memory.{wants_memory}
use Rattle.va_model.specs.Searching.{items_of, query_in}
use Rattle.va_model.specs.State.{OpenCursor, State, Store, blank, holding, open_cursors}
use Rattle.va_model.specs.Step.{effect, refusal, step}

-- the item stands in one of these places of what is kept
abbrev pub stands_in : Kept → List ℕ → Item → Bool
stands_in kept places item = is_listed (λ (i : Item). place_of i.id kept.places) places item

-- With what a cursor's calls read before, the items in these places are the least set that determines one pair more than it
-- has given, under the marks and the cells of its snapshot. At the end of its pairs nothing is asked.
abbrev pub AreLeastNext : Option OpenCursor → List ℕ → Type 0
AreLeastNext None places = Unit {0}
AreLeastNext (Some cursor) places = cursor.given < length (ranked_items cursor) →
    IsLeastUnder (nearest_of id_of (distance cursor.query) (ranked_items cursor) (suc cursor.given)) cursor.snapshot.shape.dims cursor.snapshot.marks (ranked_items cursor)
    (stands_in cursor.snapshot (places_in cursor (read_until cursor cursor.given) ++ places)) vector_of

-- each cursor that is open was opened over what an image stood for
abbrev pub StoodFor : List (Option OpenCursor) → Type 0
StoodFor cursors = AllByRecursion (λ (cursor : OpenCursor). (image : List ℕ) × Stands cursor.snapshot image) (open_cursors cursors)

abbrev pub SnapshotsStood : State → Type 0
SnapshotsStood blank = Unit {0}
SnapshotsStood (holding store) = StoodFor store.cursors

-- the items in these places are the least set that determines the k nearest
abbrev pub AreLeastNearest : ℕ → Query → Store → List ℕ → Type 0
AreLeastNearest k query store places =
    IsLeastUnder (nearest_of id_of (distance (query_in store.kept query)) (items_of store) k) store.kept.shape.dims
    store.kept.marks (items_of store) (stands_in store.kept places) vector_of

-- The items in these places are the least set that determines the answer to a nearest search, or to one within a radius: it
-- follows from their vectors and all cells under the store's marks, and each set from which it follows has all of them. A
-- certificate shows that of its own. A scan in the order of the places may read more, and no other command but a cursor's
-- next has an answer of this kind.
abbrev pub AreLeastFor : Command → Store → List ℕ → Type 0
AreLeastFor (knn k query) store places = AreLeastNearest k query store places
AreLeastFor (range radius query) store places =
    IsLeastUnder (within_of id_of (distance (query_in store.kept query)) (items_of store) radius) store.kept.shape.dims store.kept.marks (items_of store) (stands_in store.kept places) vector_of
AreLeastFor (create dims bits capacity) store places = Unit {0}
AreLeastFor (insert id vector) store places = Unit {0}
AreLeastFor (delete id) store places = Unit {0}
AreLeastFor (get id) store places = Unit {0}
AreLeastFor stat store places = Unit {0}
AreLeastFor marks store places = Unit {0}
AreLeastFor (ssa k query) store places = Unit {0}
AreLeastFor («open» name query) store places = Unit {0}
AreLeastFor (next name) store places = AreLeastNext (cursor_of name store) places
AreLeastFor (close name) store places = Unit {0}
AreLeastFor requant store places = Unit {0}
AreLeastFor (convert n) store places = Unit {0}
AreLeastFor (cert k query) store places = AreLeastNearest k query store places × Convinces k query store

-- where it isn't refused, the places whose vectors it reads are such
abbrev pub CommandReadsLeast : Option Command → State → Type 0
CommandReadsLeast None state = Unit {0}
CommandReadsLeast (Some command) blank = Unit {0}
CommandReadsLeast (Some command) (holding store) = refusal command (holding store) ≡ None → AreLeastFor command store (effect command (holding store)).places

abbrev pub ReadsLeast : State → Line → Type 0
ReadsLeast state long = Unit {0}
ReadsLeast state (text bytes) = CommandReadsLeast (command_of bytes) state

-- each of these lines, in the state that those before it lead to with these replies
abbrev pub EachReadsLeast : State → List Line → List Reply → Type 0
EachReadsLeast state [] replies = Unit {0}
EachReadsLeast state (line ∷ lines) [] = Unit {0}
EachReadsLeast state (line ∷ lines) (reply ∷ replies) = ReadsLeast state line × EachReadsLeast (step state line (wants_memory reply)).state lines replies
