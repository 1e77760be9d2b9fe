-- What the replies to lines lend is one line.
use Rattle.std.proofs.Common.{ℕ, Bool, true, false, List, [], ◌∷◌, if◌then◌else◌, Option, None, Some, sym, subst}
use Rattle.std.specs.Prelude.{length, nat_lt, slice_get}
use Rattle.std.specs.List.{AllByRecursion}
use Rattle.va_cert.proofs.OneLine.{text_is_one_line}
use Rattle.va_core.specs.declared.pair.Pair.{Pair}
use Rattle.va_lang.specs.Command.{Command, create, insert, delete, get, stat, marks, knn, ssa, range, «open», next, close, requant, convert, cert}
use Rattle.va_lang.specs.Grammar.{command_of}
use Rattle.va_lang.specs.Reply.{LendsLine, Reply}
use Rattle.va_lang.specs.declared.reply.Why.{Why}
use Rattle.va_layout.specs.Stands.{Building}
use Rattle.va_model.specs.Cursors.{advances, cursor_of, gives, ranking}
use Rattle.va_model.specs.Lines.{Line, long, text}
use Rattle.va_model.specs.Memory.{wants_memory}
use Rattle.va_model.specs.Refitting.{converts, converts_all, converts_first, converts_of, ids_above}
use Rattle.va_model.specs.Rows.{Outcome, Want, at_once, between, never, without_memory}
use Rattle.va_model.specs.Runs.{AreReplies}
use Rattle.va_model.specs.Searching.{certificate_of}
use Rattle.va_model.specs.State.{OpenCursor, State, Store, blank, holding}
use Rattle.va_model.specs.Step.{effect, obey, refusal, step, step_command, want}

-- what comes of a command lends one line
abbrev Lends : Outcome → Type 0
Lends outcome = LendsLine outcome.reply

gives_lend : (name : ℕ) (cursor : OpenCursor) (pair : Option Pair) (store : Store) → Lends (gives name cursor pair store)
gives_lend name cursor None store = tt
gives_lend name cursor (Some pair) store = tt

next_lends : (name : ℕ) (cursor : Option OpenCursor) (store : Store) → Lends (advances name cursor store)
next_lends name None store = tt
next_lends name (Some cursor) store = gives_lend name cursor (slice_get (ranking cursor) cursor.given) store

converts_lend : (n : ℕ) (ids : List ℕ) (building : Building) (store : Store) → Lends (converts_of n ids building store)
converts_lend n ids building store = elim (nat_lt n (length ids)) as (λ c. Lends (if c then converts_first n ids building store else converts_all ids building store)) [
  | true ↦ tt
  | false ↦ tt
]

convert_lends : (n : ℕ) (building : Option Building) (store : Store) → Lends (converts n building store)
convert_lends n None store = tt
convert_lends n (Some building) store = converts_lend n (ids_above building.last store) building store

effect_lends : (command : Command) (state : State) → Lends (effect command state)
effect_lends (create dims bits capacity) blank = tt
effect_lends (create dims bits capacity) (holding store) = tt
effect_lends (insert id vector) blank = tt
effect_lends (insert id vector) (holding store) = tt
effect_lends (delete id) blank = tt
effect_lends (delete id) (holding store) = tt
effect_lends (get id) blank = tt
effect_lends (get id) (holding store) = tt
effect_lends stat blank = tt
effect_lends stat (holding store) = tt
effect_lends marks blank = tt
effect_lends marks (holding store) = tt
effect_lends (knn k query) blank = tt
effect_lends (knn k query) (holding store) = tt
effect_lends (ssa k query) blank = tt
effect_lends (ssa k query) (holding store) = tt
effect_lends (range radius query) blank = tt
effect_lends (range radius query) (holding store) = tt
effect_lends («open» name query) blank = tt
effect_lends («open» name query) (holding store) = tt
effect_lends (next name) blank = tt
effect_lends (next name) (holding store) = next_lends name (cursor_of name store) store
effect_lends (close name) blank = tt
effect_lends (close name) (holding store) = tt
effect_lends requant blank = tt
effect_lends requant (holding store) = tt
effect_lends (convert n) blank = tt
effect_lends (convert n) (holding store) = convert_lends n store.building store
effect_lends (cert k query) blank = tt
effect_lends (cert k query) (holding store) = text_is_one_line (certificate_of k query store)

wanting_lends : (w : Want) (state : State) (outcome : Outcome) → Lends outcome → Lends (without_memory w state outcome)
wanting_lends never state outcome lends = lends
wanting_lends at_once state outcome lends = tt
wanting_lends between state outcome lends = tt

obey_lends : (why : Option Why) (command : Command) (state : State) (m : Bool) → Lends (obey why command state m)
obey_lends (Some why) command state m = tt
obey_lends None command state true = wanting_lends (want command state) state (effect command state) (effect_lends command state)
obey_lends None command state false = effect_lends command state

command_lends : (command : Option Command) (state : State) (m : Bool) → Lends (step_command command state m)
command_lends None state m = tt
command_lends (Some command) state m = obey_lends (refusal command state) command state m

pub step_lends : (state : State) (line : Line) (m : Bool) → Lends (step state line m)
step_lends state long m = tt
step_lends state (text bytes) m = command_lends (command_of bytes) state m

pub replies_lend : (start : State) (lines : List Line) (replies : List Reply) → AreReplies start lines replies → AllByRecursion LendsLine replies
replies_lend start [] [] fits = tt
replies_lend start [] (reply ∷ replies) fits = absurd fits
replies_lend start (line ∷ lines) [] fits = absurd fits
replies_lend start (line ∷ lines) (reply ∷ replies) fits = (
  subst LendsLine (sym fits.0) (step_lends start line (wants_memory reply)),
  replies_lend (step start line (wants_memory reply)).state lines replies fits.1,
)
