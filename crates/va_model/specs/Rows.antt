-- What the tables of commands say of a command in a state: a row.
use Rattle.std.specs.Prelude.{ℕ, List, [], ◌∷◌, Option, None, Some, Bool, true, if◌then◌else◌}
use Rattle.va_lang.specs.Reply.{Reply, error}
use Rattle.va_lang.specs.declared.reply.Why.{Why}
use Rattle.va_lang.specs.declared.reply.Why.TheVariants.{NoStore, Memory}
use Rattle.va_model.specs.State.{State, Store, blank, holding}

-- the state after a line, its reply, and the places whose vectors are read, in order
pub record Outcome : Type 0 where
  pub state : State
  pub reply : Reply
  pub places : List ℕ

-- When a command takes memory that may be refused: never, before it reads a vector, or between two reads.
pub data Want : Type 0 where
  never : Want
  at_once : Want
  between : Want

-- the reasons for which a command may be refused, in their order, and whether each holds; when it may be refused for want
-- of memory besides; and what it does where it is not refused
pub record Row : Type 0 where
  pub reasons : List (Bool × Why)
  pub want : Want
  pub outcome : Outcome

-- the first test that holds gives its reason
abbrev pub first_reason : {W : Type 0} → List (Bool × W) → Option W
first_reason [] = None
first_reason (row ∷ rows) = if row.0 then Some row.1 else first_reason rows

abbrev pub refuse : State → Why → Outcome
refuse state why = record { state = state; reply = error why; places = [] }

-- What comes of a command whose memory is refused. Where that may be between two reads, the places are those of which the
-- first may have been read.
abbrev pub without_memory : Want → State → Outcome → Outcome
without_memory never state outcome = outcome
without_memory at_once state outcome = refuse state Memory
without_memory between state outcome = record { state = state; reply = error Memory; places = outcome.places }

-- refused for this reason, whatever the state
abbrev pub always : Why → State → Row
always why state = record { reasons = (true, why) ∷ []; want = never; outcome = refuse state why }

-- a command that wants a store
abbrev pub on_store : (Store → Row) → State → Row
on_store row blank = always NoStore blank
on_store row (holding store) = row store
