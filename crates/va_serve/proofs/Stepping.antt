-- What a step leaves: the command was obeyed, and then its reply is given.
use Rattle.std.proofs.Common.{◌≡◌, ◌⊎◌, inl, inr, ℕ, Bool, true, false, List, [], ◌++◌, length, Option, None, Some, Result, Err, refl, ap, sym, ◌∙◌, subst, append-nil, arith}
use Rattle.va_disk.specs.Told.{GivesPart, GivesPrefix, IsProperPrefix}
use Rattle.va_disk.specs.Crashes.{Leaves}
use Rattle.va_disk.specs.Frames.{DiskFailsAs}
use Rattle.va_disk.specs.declared.storage.Storage.{Ghosts}
use Rattle.va_disk.proofs.Moments.{then_leaves, weaker}
use Rattle.va_lang.specs.Command.{Command}
use Rattle.va_lang.specs.Grammar.{command_of}
use Rattle.va_lang.specs.Reply.{Reply, reply_line}
use Rattle.va_lang.specs.declared.reply.Why.{Why}
use Rattle.va_model.specs.Crashes.{StepLeaves}
use Rattle.va_model.specs.Lines.{Line, long, text}
use Rattle.va_model.specs.Memory.{wants_memory}
use Rattle.va_model.specs.Runs.{GaveReply}
use Rattle.va_model.specs.State.{State, StandsFor}
use Rattle.va_model.specs.Rows.{Outcome, Want, at_once, between, never, without_memory}
use Rattle.va_model.specs.Step.{effect, obey, reads_of, refusal, step, step_command, want}
use Rattle.va_model.specs.VectorReads.{Adds, AreFirst, AreReads, PieceFront, vector_reads}
use Rattle.va_model.proofs.Leaving.{has_newline}
use Rattle.va_model.proofs.Least.{reads_least}
use Rattle.va_model.proofs.Reading.{first_of_none, first_of_reads, no_reads}
use Rattle.va_serve.specs.Answers.{fault_status}
use Rattle.va_serve.proofs.Holding.{stood_at}
use Rattle.va_serve.specs.Failing.{Rises}
use Rattle.va_serve.specs.Progress.{FailReads, LineFails, LineShows, StepLasts, StepReads, StepSettles, Steps}
use Rattle.va_serve.specs.Promises.{StateBeforeOrAfter, Carries, Loses, Obeys, Survives, asked_in, of_line}
use Rattle.va_serve.specs.Session.{IsAt, Lent, Sitting}
use Rattle.va_serve.proofs.Outcomes.{survives_reading}
use Rattle.va_serve.specs.declared.answer.Answer.{Answer}
use Rattle.va_serve.specs.declared.answer.CommandFault.{CommandFault}
use Rattle.va_serve.specs.declared.answer.CommandFault.TheVariants as faults
use Rattle.va_serve.specs.declared.status.Status.TheVariants as statuses

-- what stands after a step stands before it, or after the step with memory not refused
kept_of_wants : (wants : Want) (start : State) (done : Outcome) (c : List ℕ) → StandsFor (without_memory wants start done).state c → StandsFor start c ⊎ StandsFor done.state c
kept_of_wants never start done c stands = inr stands
kept_of_wants at_once start done c stands = inl stands
kept_of_wants between start done c stands = inl stands

kept_of_obeyed : (command : Command) (start : State) (m : Bool) (why : Option Why) (c : List ℕ) → StandsFor (obey why command start m).state c → StandsFor start c ⊎ StandsFor (obey why command start false).state c
kept_of_obeyed command start m (Some why) c stands = inl stands
kept_of_obeyed command start false None c stands = inr stands
kept_of_obeyed command start true None c stands = kept_of_wants (want command start) start (effect command start) c stands

kept_of_command : (command : Option Command) (start : State) (m : Bool) (c : List ℕ) → StandsFor (step_command command start m).state c → StandsFor start c ⊎ StandsFor (step_command command start false).state c
kept_of_command None start m c stands = inl stands
kept_of_command (Some command) start m c stands = kept_of_obeyed command start m (refusal command start) c stands

kept_of : (line : Line) (start : State) (m : Bool) (c : List ℕ) → StandsFor (step start line m).state c → StandsFor start c ⊎ StandsFor (step start line false).state c
kept_of long start m c stands = inl stands
kept_of (text bytes) start m c stands = kept_of_command (command_of bytes) start m c stands

no_line_is_empty : (reply : Reply) (missing : List ℕ) → missing ≡ reply_line reply → missing ≡ [] → ⊥
no_line_is_empty reply missing is none = omega (arith, has_newline reply, ap (λ (l : List ℕ). length l) (sym is ∙ none))

-- nothing of the reply was given yet
unanswered : (start : State) (line : Line) (old c g : List ℕ) → StateBeforeOrAfter (of_line line start) start old c g → StepLeaves start line old c g
unanswered start line old c g left = record {
  refused = false;
  part = [];
  missing = reply_line (step start line false).reply;
  begins = refl;
  given_is = left.1 ∙ sym (append-nil old);
  kept = left.0;
  done = λ none. absurd (no_line_is_empty (step start line false).reply _ refl none);
}

-- some of the reply was given, and the state is that after the step
answering : (start : State) (line : Line) (reply : Reply) (old c g : List ℕ) → reply ≡ (step start line (wants_memory reply)).reply → StandsFor (step start line (wants_memory reply)).state c → (part missing : List ℕ) → part ++ missing ≡ reply_line reply → g ≡ old ++ part
    → StepLeaves start line old c g
answering start line reply old c g fits stands part missing begins given = record {
  refused = wants_memory reply;
  part = part;
  missing = missing;
  begins = begins ∙ ap (λ (r : Reply). reply_line r) fits;
  given_is = given;
  kept = kept_of line start (wants_memory reply) c stands;
  done = λ none. (ap (λ (r : Reply). wants_memory r) fits, stands);
}

-- a step has the places that it has with memory not refused, or none
places_of_wants : (wants : Want) (start : State) (done : Outcome) → ((without_memory wants start done).places ≡ []) ⊎ ((without_memory wants start done).places ≡ done.places)
places_of_wants never start done = inr refl
places_of_wants at_once start done = inl refl
places_of_wants between start done = inr refl

places_of_obeyed : (command : Command) (start : State) (m : Bool) (why : Option Why) → ((obey why command start m).places ≡ []) ⊎ ((obey why command start m).places ≡ (obey why command start false).places)
places_of_obeyed command start m (Some why) = inl refl
places_of_obeyed command start false None = inr refl
places_of_obeyed command start true None = places_of_wants (want command start) start (effect command start)

places_of_command : (command : Option Command) (start : State) (m : Bool) → ((step_command command start m).places ≡ []) ⊎ ((step_command command start m).places ≡ (step_command command start false).places)
places_of_command None start m = inl refl
places_of_command (Some command) start m = places_of_obeyed command start m (refusal command start)

pub places_of : (line : Line) (start : State) (m : Bool) → ((step start line m).places ≡ []) ⊎ ((step start line m).places ≡ (step start line false).places)
places_of long start m = inl refl
places_of (text bytes) start m = places_of_command (command_of bytes) start m

-- the reads of a reply are the first of those of the step
pub first_of_all : (start : State) (line : Line) (m : Bool) (old new : List (ℕ × ℕ)) → Adds start (λ vectors. AreReads m vectors (reads_of start (step start line m).places)) old new
    → ((step start line m).places ≡ []) ⊎ ((step start line m).places ≡ (step start line false).places) → Adds start (PieceFront start line) old new
first_of_all start line m old new read (inl none) = record {
  added = read.added;
  is = read.is;
  vectors = first_of_none (first_of_reads m read.vectors) (ap (λ (places : List ℕ). reads_of start places) none ∙ sym (no_reads start));
}
first_of_all start line m old new read (inr same) = record {
  added = read.added;
  is = read.is;
  vectors = subst (λ (places : List ℕ). AreFirst (vector_reads start read.added) (reads_of start places)) same (first_of_reads m read.vectors);
}

module _ {D : Type 0} {g : Ghosts D} {line : Line} {sitting : Sitting} {old mid : D} where
  unanswered_leaves : Survives g (of_line line) sitting old mid → StepLasts g line sitting old mid
  unanswered_leaves survives = record {
    from = λ keeps told start is secure.
        weaker g.clock g.left_since old mid _ _ (λ image given left. unanswered start line (g.given old) image given left) (survives keeps told start is secure);
  }

  -- the disk failed
  pub lost_lasts : Loses g (of_line line) sitting old mid → StepLasts g line sitting old mid
  lost_lasts loses = unanswered_leaves loses.moments

  pub lost_fails : Loses g (of_line line) sitting old mid → g.given mid ≡ g.given old → LineFails g statuses.DiskFault line sitting old mid
  lost_fails loses given = record { from = λ told start at. record { given = given; stays = loses.stays told start at } }

  pub lost_reads : Loses g (of_line line) sitting old mid → g.given mid ≡ g.given old → FailReads g line sitting old mid
  lost_reads loses given = record {
    from = λ told start at. record {
      refused = false;
      part = [];
      begins = record { missing = reply_line (step start line false).reply; lacks = has_newline (step start line false).reply; is = refl };
      given = given ∙ sym (append-nil (g.given old));
      read = loses.read told start at;
    };
  }

  module _ {sitting' : Sitting} {reply : Reply} (carries : Carries g (of_line line) sitting sitting' old mid reply) (same : g.given mid ≡ g.given old) where
    -- the reply was given, or a part of it
    pub carried_lasts : (new : D) → (g.honest → g.told → Leaves g.clock g.left_since mid new (λ image given. g.may_leave mid image × GivesPrefix g.told (g.given mid) (reply_line reply) given)) → StepLasts g line sitting old new
    carried_lasts new gives = record {
      from = λ keeps told start at secure.
          (let reached = carries.reached told start at in
          then_leaves g.clock g.left_since old mid new _
          ((unanswered_leaves carries.moments).from keeps told start at secure)
          (weaker g.clock g.left_since mid new _ _
          (λ image given left. answering start line reply (g.given old) image given reached.fits (carries.settles keeps told start at secure image left.0).0 left.1.part left.1.begins.rest left.1.begins.is
          (left.1.given told ∙ ap (λ (l : List ℕ). l ++ left.1.part) same))
          (gives keeps told)));
    }

    module _ (new : D) (reads : g.reads new ≡ g.reads mid) (image : g.image new ≡ g.image mid) where
      module _ (given : g.told → g.given new ≡ g.given mid ++ reply_line reply) where
        gave : g.told → (start : State) → IsAt start sitting (g.image old) → GaveReply g start line reply old new
        gave told start at = record { fits = (carries.reached told start at).fits; given = given told ∙ ap (λ (text : List ℕ). text ++ reply_line reply) same }

        pub carried_steps : Steps g line sitting sitting' old new
        carried_steps = record {
          from = λ told start at.
              (let reached = carries.reached told start at in
              record {
                reply = reply;
                end = (of_line line start (wants_memory reply)).state;
                replied = record { gave = gave told start at; state = refl; stands = rw image reached.at.stands; stays = λ same_state. image ∙ reached.stays same_state };
                at = record { is = reached.at.is; stands = rw image reached.at.stands; vectors = rw image reached.at.vectors };
              });
        }

        pub carried_reads : StepReads g line sitting old new
        carried_reads = record {
          from = λ told start at. record { reply = reply; read = record { gave = gave told start at; read = rw reads (carries.reached told start at).read; least = reads_least start (g.image old) at.stands (stood_at start sitting (g.image old) at) line } };
        }

        pub carried_settles : (g.honest → (image : List ℕ) → g.may_leave new image → g.may_leave mid image) → StepSettles g line sitting sitting' old new
        carried_settles crash = record {
          from = λ keeps told start at secure. record { reply = reply; gave = gave told start at; secure = λ c left. carries.settles keeps told start at secure c (crash keeps c left) };
        }

      module _ (gives : GivesPart g.told (g.given mid) (reply_line reply) (g.given new)) where
        -- giving the reply failed, once the line was run
        pub unsent : LineFails g statuses.WriteFault line sitting old new
        unsent = record {
          from = λ told start at. record {
            refused = wants_memory reply;
            part = gives.part;
            begins = subst (λ (r : Reply). IsProperPrefix gives.part (reply_line r)) (carries.reached told start at).fits gives.begins;
            given = gives.given told ∙ ap (λ (l : List ℕ). l ++ gives.part) same;
            stays = λ same_state. image ∙ (carries.reached told start at).stays same_state;
          };
        }

        pub unsent_reads : FailReads g line sitting old new
        unsent_reads = record {
          from = λ told start at. record {
            refused = wants_memory reply;
            part = gives.part;
            begins = subst (λ (r : Reply). IsProperPrefix gives.part (reply_line r)) (carries.reached told start at).fits gives.begins;
            given = gives.given told ∙ ap (λ (l : List ℕ). l ++ gives.part) same;
            read = rw reads (first_of_all start line (wants_memory reply) (g.reads old) (g.reads mid) (carries.reached told start at).read (places_of line start (wants_memory reply)));
          };
        }

-- What is owed where a command failed. Where the store isn't what it was, this is met in no state.
module _ {D : Type 0} (g : Ghosts D) (line : Line) (lent : Lent) {sitting : Sitting} (sitting' : Sitting) {old new : D} where
  pub failed_fails : (fault : CommandFault) → Obeys g (asked_in line) lent sitting sitting' old new (Err fault) → g.given new ≡ g.given old → LineFails g (fault_status fault) line sitting old new
  failed_fails faults.Disk owes given = lost_fails owes given
  failed_fails (faults.Mismatch place dist low high) owes given = record { from = owes.breaks.never }
  failed_fails (faults.Changed place) owes given = record { from = owes.breaks.never }

  pub failed_reads : (fault : CommandFault) → Obeys g (asked_in line) lent sitting sitting' old new (Err fault) → g.given new ≡ g.given old → FailReads g line sitting old new
  failed_reads faults.Disk owes given = lost_reads owes given
  failed_reads (faults.Mismatch place dist low high) owes given = record { from = λ told start at. absurd (owes.breaks.never told start at) }
  failed_reads (faults.Changed place) owes given = record { from = λ told start at. absurd (owes.breaks.never told start at) }

  pub failed_lasts : (fault : CommandFault) → Obeys g (asked_in line) lent sitting sitting' old new (Err fault) → StepLasts g line sitting old new
  failed_lasts faults.Disk owes = lost_lasts owes
  failed_lasts (faults.Mismatch place dist low high) owes = unanswered_leaves (survives_reading (of_line line) sitting owes.breaks.frame)
  failed_lasts (faults.Changed place) owes = unanswered_leaves (survives_reading (of_line line) sitting owes.breaks.frame)

pub failed_shows : {D : Type 0} (g : Ghosts D) (line : Line) (lent : Lent) (sitting sitting' : Sitting) (old new : D) (fault : CommandFault) → Obeys g (asked_in line) lent sitting sitting' old new (Err fault)
    → LineShows g (fault_status fault) line sitting sitting' old new
failed_shows g line lent sitting sitting' old new faults.Disk owes = tt
failed_shows g line lent sitting sitting' old new (faults.Mismatch place dist low high) owes = owes
failed_shows g line lent sitting sitting' old new (faults.Changed place) owes = owes

-- the count of what failed rose, if anything did
module _ {D : Type 0} (g : Ghosts D) (line : Line) (lent : Lent) (sitting sitting' : Sitting) {old new : D} (sink : g.sink_faults new ≡ g.sink_faults old) where
  pub failed_rises : {result : Result Answer CommandFault} (fault : CommandFault) → result ≡ Err fault → Obeys g (asked_in line) lent sitting sitting' old new (Err fault) → DiskFailsAs g faults.Disk old new result → Rises g (fault_status fault) old new
  failed_rises {result} faults.Disk is owes cause = (cause.rose is, sink)
  failed_rises {result} (faults.Mismatch place dist low high) is owes cause =
      (record { disk = cause.stayed (λ e. let both : ◌≡◌ {A = Result Answer CommandFault} (Err (faults.Mismatch place dist low high)) (Err faults.Disk) = sym is ∙ e in cc); sink = sink }, owes.outside)
  failed_rises {result} (faults.Changed place) is owes cause =
      (record { disk = cause.stayed (λ e. let both : ◌≡◌ {A = Result Answer CommandFault} (Err (faults.Changed place)) (Err faults.Disk) = sym is ∙ e in cc); sink = sink }, owes.untold)
