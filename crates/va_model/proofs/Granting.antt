-- Which replies say that memory was refused: none of a command that is carried out.
use Rattle.std.proofs.Common.{◌≡◌, ℕ, Bool, true, false, List, if◌then◌else◌, Option, None, Some, refl, sym, ◌∙◌}
use Rattle.std.specs.Prelude.{length, nat_lt, slice_get}
use Rattle.va_core.specs.declared.pair.Pair.{Pair}
use Rattle.va_lang.specs.Command.{Command, create, insert, delete, get, stat, marks, knn, ssa, range, «open», next, close, requant, convert, cert}
use Rattle.va_lang.specs.Grammar.{command_of}
use Rattle.va_lang.specs.declared.reply.Why.{Why}
use Rattle.va_layout.specs.Stands.{Building}
use Rattle.va_model.specs.Cursors.{advances, cursor_of, gives, ranking}
use Rattle.va_model.specs.Lines.{Line, long, text}
use Rattle.va_model.specs.Memory.{wants_memory}
use Rattle.va_model.specs.Refitting.{converts, converts_all, converts_first, converts_of, ids_above}
use Rattle.va_model.specs.Rows.{Outcome, Want, at_once, between, never, without_memory}
use Rattle.va_model.specs.State.{OpenCursor, State, Store, blank, holding}
use Rattle.va_model.specs.Step.{effect, obey, refusal, step, step_command, want}

-- memory was refused for none of this
abbrev Grants : Outcome → Type 0
Grants outcome = wants_memory outcome.reply ≡ false

gives_grant : (name : ℕ) (cursor : OpenCursor) (pair : Option Pair) (store : Store) → Grants (gives name cursor pair store)
gives_grant name cursor None store = refl
gives_grant name cursor (Some pair) store = refl

next_grants : (name : ℕ) (cursor : Option OpenCursor) (store : Store) → Grants (advances name cursor store)
next_grants name None store = refl
next_grants name (Some cursor) store = gives_grant name cursor (slice_get (ranking cursor) cursor.given) store

converts_grant : (n : ℕ) (ids : List ℕ) (building : Building) (store : Store) → Grants (converts_of n ids building store)
converts_grant n ids building store = elim (nat_lt n (length ids)) as (λ c. Grants (if c then converts_first n ids building store else converts_all ids building store)) [
  | true ↦ refl
  | false ↦ refl
]

convert_grants : (n : ℕ) (building : Option Building) (store : Store) → Grants (converts n building store)
convert_grants n None store = refl
convert_grants n (Some building) store = converts_grant n (ids_above building.last store) building store

effect_grants : (command : Command) (state : State) → Grants (effect command state)
effect_grants (create dims bits capacity) blank = refl
effect_grants (create dims bits capacity) (holding store) = refl
effect_grants (insert id vector) blank = refl
effect_grants (insert id vector) (holding store) = refl
effect_grants (delete id) blank = refl
effect_grants (delete id) (holding store) = refl
effect_grants (get id) blank = refl
effect_grants (get id) (holding store) = refl
effect_grants stat blank = refl
effect_grants stat (holding store) = refl
effect_grants marks blank = refl
effect_grants marks (holding store) = refl
effect_grants (knn k query) blank = refl
effect_grants (knn k query) (holding store) = refl
effect_grants (ssa k query) blank = refl
effect_grants (ssa k query) (holding store) = refl
effect_grants (range radius query) blank = refl
effect_grants (range radius query) (holding store) = refl
effect_grants («open» name query) blank = refl
effect_grants («open» name query) (holding store) = refl
effect_grants (next name) blank = refl
effect_grants (next name) (holding store) = next_grants name (cursor_of name store) store
effect_grants (close name) blank = refl
effect_grants (close name) (holding store) = refl
effect_grants requant blank = refl
effect_grants requant (holding store) = refl
effect_grants (convert n) blank = refl
effect_grants (convert n) (holding store) = convert_grants n store.building store
effect_grants (cert k query) blank = refl
effect_grants (cert k query) (holding store) = refl

-- where memory is refused the state stays
abbrev Stays : State → Outcome → Type 0
Stays state outcome = wants_memory outcome.reply ≡ true → outcome.state ≡ state

granted_stays : (state : State) (outcome : Outcome) → Grants outcome → Stays state outcome
granted_stays state outcome grants wants = let both : ◌≡◌ {A = Bool} false true = sym grants ∙ wants in absurd (cc)

wanting_stays : (w : Want) (state : State) (outcome : Outcome) → Grants outcome → Stays state (without_memory w state outcome)
wanting_stays never state outcome grants = granted_stays state outcome grants
wanting_stays at_once state outcome grants = λ wants. refl
wanting_stays between state outcome grants = λ wants. refl

obey_stays : (why : Option Why) (command : Command) (state : State) (m : Bool) → Stays state (obey why command state m)
obey_stays (Some why) command state m = λ wants. refl
obey_stays None command state true = wanting_stays (want command state) state (effect command state) (effect_grants command state)
obey_stays None command state false = granted_stays state (effect command state) (effect_grants command state)

command_stays : (command : Option Command) (state : State) (m : Bool) → Stays state (step_command command state m)
command_stays None state m = λ wants. refl
command_stays (Some command) state m = obey_stays (refusal command state) command state m

pub refused_stays : (state : State) (line : Line) (m : Bool) → Stays state (step state line m)
refused_stays state long m = λ wants. refl
refused_stays state (text bytes) m = command_stays (command_of bytes) state m
