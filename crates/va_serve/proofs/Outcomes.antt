-- What comes of a command that is refused, of one that isn't, and of one that finds no memory.
use Rattle.std.proofs.Common.{◌≡◌, inl, inr, Bool, true, false, [], Option, None, Some, refl, ap, sym, ◌∙◌, subst}
use Rattle.va_disk.specs.declared.storage.Storage.{Ghosts}
use Rattle.va_disk.specs.Frames.{OnlyReads}
use Rattle.va_disk.proofs.Moments.{weaker}
use Rattle.va_lang.specs.Command.{Command}
use Rattle.va_lang.specs.Reply.{Reply, error}
use Rattle.va_lang.specs.declared.reply.Why.{Why}
use Rattle.va_lang.specs.declared.reply.Why.TheVariants.{Memory}
use Rattle.va_model.specs.Memory.{wants_memory}
use Rattle.va_model.specs.State.{State, StandsFor}
use Rattle.va_model.specs.Rows.{Outcome, Want, at_once, between, refuse, without_memory}
use Rattle.va_model.specs.Step.{effect, obey, reads_of, refusal, want}
use Rattle.va_model.specs.VectorReads.{Adds, AreFirst, AreReads}
use Rattle.va_model.proofs.Reading.{adds_nothing, no_reads_of}
use Rattle.va_serve.specs.Promises.{Carries, Reached, ReadsAtMost, Survives, of_command}
use Rattle.va_serve.specs.Refusals.{IsUnasked}
use Rattle.va_serve.specs.Session.{Is, IsAt, Sitting}

-- the outcome by the reason for which the command is refused
by_reason : (command : Command) (start : State) (reason : Option Why) → refusal command start ≡ reason → (m : Bool) → of_command command start m ≡ obey reason command start m
by_reason command start reason is m = ap (λ (o : Option Why). obey o command start m) is

pub refused_outcome : (command : Command) (start : State) (why : Why) → refusal command start ≡ Some why → (m : Bool) → of_command command start m ≡ refuse start why
refused_outcome command start why is m = by_reason command start (Some why) is m

pub effect_outcome : (command : Command) (start : State) → refusal command start ≡ None → of_command command start false ≡ effect command start
effect_outcome command start is = by_reason command start None is false

pub memory_outcome : (command : Command) (start : State) → refusal command start ≡ None → want command start ≡ at_once → of_command command start true ≡ refuse start Memory
memory_outcome command start is wants = by_reason command start None is true ∙ ap (λ (w : Want). without_memory w start (effect command start)) wants

-- memory may be refused behind some of the reads
pub memory_later : (command : Command) (start : State) → refusal command start ≡ None → want command start ≡ between → of_command command start true ≡ record { state = start; reply = error Memory; places = (effect command start).places }
memory_later command start is wants = by_reason command start None is true ∙ ap (λ (w : Want). without_memory w start (effect command start)) wants

-- the command is refused for this reason, if there is one, in every state that the session is of
abbrev pub RefusedFor : Command → Sitting → Option Why → Type 0
RefusedFor command sitting reason = (start : State) → Is start sitting → refusal command start ≡ reason

abbrev pub RefusedIn : Command → Sitting → Why → Type 0
RefusedIn command sitting why = RefusedFor command sitting (Some why)

-- the command is not refused, and may find no memory at once
abbrev pub MemoryIn : Command → Sitting → Type 0
MemoryIn command sitting = (start : State) → Is start sitting → (refusal command start ≡ None) × (want command start ≡ at_once)

module _ {D : Type 0} {g : Ghosts D} where
  -- a reply is reached where it, the state and the reads are those of the outcome
  pub reached_by : {start : State} {sitting : Sitting} {old new : D} {reply : Reply} (command : Command) (outcome : Outcome) → of_command command start (wants_memory reply) ≡ outcome → reply ≡ outcome.reply
      → IsAt outcome.state sitting (g.image new) → (outcome.state ≡ start → g.image new ≡ g.image old) → Adds start (λ vectors. AreReads (wants_memory reply) vectors (reads_of start outcome.places)) (g.reads old) (g.reads new) → Reached g (of_command command start) start sitting old new reply
  reached_by {start} {sitting} {old} {new} {reply} command outcome is replied at stays read = record {
    fits = replied ∙ ap (λ (o : Outcome). o.reply) (sym is);
    at = subst (λ (o : Outcome). IsAt o.state sitting (g.image new)) (sym is) at;
    stays = λ same. stays (ap (λ (o : Outcome). o.state) (sym is) ∙ same);
    read = subst (λ (o : Outcome). Adds start (λ vectors. AreReads (wants_memory reply) vectors (reads_of start o.places)) (g.reads old) (g.reads new)) (sym is) read;
  }

  -- a call that only reads leaves nothing new
  pub survives_reading : {old new : D} (outcome : State → Bool → Outcome) (sitting : Sitting) → OnlyReads g old new → Survives g outcome sitting old new
  survives_reading {old} {new} outcome sitting frame keeps tells start is secure = weaker g.clock g.left_since old new _ _ (λ c given no. absurd no) (frame.moments keeps)

  -- the outcome is that nothing changes
  carries_nothing : {sitting : Sitting} {old new : D} (command : Command) (why : Why) → ((start : State) → Is start sitting → of_command command start (wants_memory (error why)) ≡ refuse start why)
      → OnlyReads g old new → g.reads new ≡ g.reads old → Carries g (of_command command) sitting sitting old new (error why)
  carries_nothing {sitting} {old} {new} command why is frame same = record {
    reached = λ told start at. reached_by command (refuse start why) (is start at.is) refl (record { is = at.is; stands = rw frame.image at.stands; vectors = rw frame.image at.vectors }) (λ same_state. frame.image)
        (adds_nothing start (λ vectors. AreReads (wants_memory (error why)) vectors (reads_of start [])) (g.reads old) (g.reads new) same (no_reads_of (wants_memory (error why)) start));
    moments = survives_reading (of_command command) sitting frame;
    settles = λ honest told start at secure image left.
        (subst (λ (o : Outcome). StandsFor o.state image) (sym (is start at.is)) (secure image (frame.crash honest image left)).0, (secure image (frame.crash honest image left)).1);
  }

  -- the command is refused for this reason, and nothing changed
  pub carries_refused : {sitting : Sitting} {old new : D} (command : Command) (why : Why) → RefusedIn command sitting why → OnlyReads g old new → g.reads new ≡ g.reads old
      → Carries g (of_command command) sitting sitting old new (error why)
  carries_refused command why refused frame same = carries_nothing command why (λ start is. refused_outcome command start why (refused start is) (wants_memory (error why))) frame same

  -- memory was refused, and nothing changed
  pub carries_memory : {sitting : Sitting} {old new : D} (command : Command) → MemoryIn command sitting → OnlyReads g old new → g.reads new ≡ g.reads old
      → Carries g (of_command command) sitting sitting old new (error Memory)
  carries_memory command wants frame same = carries_nothing command Memory (λ start is. memory_outcome command start (wants start is).0 (wants start is).1) frame same

  -- The command is refused for its reason, or it has none and this is owed for want of memory. Nothing changed.
  pub carries_unasked : {sitting : Sitting} {old new : D} (command : Command) (reason : Option Why) (why : Why) → RefusedFor command sitting reason → (reason ≡ None → Carries g (of_command command) sitting sitting old new (error Memory))
      → OnlyReads g old new → g.reads new ≡ g.reads old → IsUnasked reason why → Carries g (of_command command) sitting sitting old new (error why)
  carries_unasked command reason why refused wanting frame same (inl is) = carries_refused command why (λ start at. refused start at ∙ is) frame same
  carries_unasked {sitting} {old} {new} command reason why refused wanting frame same (inr lacks) = subst (λ (w : Why). Carries g (of_command command) sitting sitting old new (error w)) (sym lacks.1) (wanting lacks.0)

-- no vector was read
pub reads_none : {D : Type 0} (g : Ghosts D) (old new : D) (outcome : State → Bool → Outcome) (sitting : Sitting) → g.reads new ≡ g.reads old → ReadsAtMost g outcome sitting old new
reads_none g old new outcome sitting same told start at =
    adds_nothing start (λ vectors. AreFirst vectors (reads_of start (outcome start false).places)) (g.reads old) (g.reads new) same (record { rest = reads_of start (outcome start false).places; is = refl })
