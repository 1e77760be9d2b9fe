-- Lines that were served, one list after another.
use Rattle.std.proofs.Common.{List, [], ◌∷◌, ◌++◌, ap, sym, ◌∙◌, subst}
use Rattle.va_disk.specs.declared.storage.Storage.{Ghosts}
use Rattle.va_lang.specs.Reply.{Reply}
use Rattle.va_model.specs.Lines.{Line}
use Rattle.va_model.specs.Memory.{wants_memory}
use Rattle.va_model.specs.Runs.{ReadLine, ReadLines, StoppedReads, UnreadLine}
use Rattle.va_model.specs.State.{State, StandsFor}
use Rattle.va_model.specs.Step.{step}
use Rattle.va_model.proofs.Serving.{read_more, read_nothing, read_one, served_nothing, served_one, served_more, stopped_more, stopped_one, stopped_later, stopped_reads_later, stopped_reads_more, stopped_reads_one}
use Rattle.va_model.proofs.Telling.{one_gave}
use Rattle.va_serve.specs.Failing.{FailsBy}
use Rattle.va_serve.specs.Progress.{ReadFrom, ServedFrom, SettledFrom, SteppedFrom, StoppedFrom}
use Rattle.va_serve.specs.Session.{AreSecure, IsAt, Sitting}
use Rattle.va_serve.specs.declared.status.Status.{Status}

module _ {D : Type 0} {g : Ghosts D} where
  pub from_nothing : {start : State} {sitting : Sitting} {old : D} → IsAt start sitting (g.image old) → ServedFrom g start [] sitting sitting old old
  from_nothing {start} {sitting} {old} at = record {
    replies = [];
    end = start;
    served = served_nothing at.stands;
    read = read_nothing;
    secures = λ honest secure. secure;
    at = at;
  }

  -- what is said of the state, of the reads and of crashes is said of one reply
  pub from_one : {start : State} {line : Line} {sitting sitting' : Sitting} {old new : D} → SteppedFrom g start line sitting' old new → ReadFrom g start line old new
      → (g.honest → AreSecure start sitting (g.may_leave old) → SettledFrom g start line sitting' old new) → ServedFrom g start (line ∷ []) sitting sitting' old new
  from_one {start} {line} {sitting} {sitting'} {old} {new} did reads settles = record {
    replies = did.reply ∷ [];
    end = did.end;
    served = served_one did.replied;
    read = read_one (subst (λ (reply : Reply). ReadLine g start line reply old new) (one_gave reads.read.gave did.replied.gave) reads.read);
    secures = λ honest secure.
        (let settled = settles honest secure in
        subst (λ (state : State). AreSecure state sitting' (g.may_leave new))
        (ap (λ (reply : Reply). (step start line (wants_memory reply)).state) (one_gave settled.gave did.replied.gave) ∙ sym did.replied.state) settled.secure);
    at = did.at;
  }

  pub from_more : {start : State} {first next : List Line} {sitting mid_sitting sitting' : Sitting} {old mid new : D} (done : ServedFrom g start first sitting mid_sitting old mid) → ServedFrom g done.end next mid_sitting sitting' mid new
      → ServedFrom g start (first ++ next) sitting sitting' old new
  from_more {start} {first} {next} {sitting} {mid_sitting} {sitting'} {old} {mid} {new} done rest = record {
    replies = done.replies ++ rest.replies;
    end = rest.end;
    served = served_more done.served rest.served;
    read = read_more done.read (subst (λ (s : State). ReadLines g s next rest.replies mid new) done.served.answered.state rest.read);
    secures = λ honest secure. rest.secures honest (done.secures honest secure);
    at = rest.at;
  }

  module _ {status : Status} where
    pub stopped_from_more : {start : State} {first next : List Line} {sitting mid_sitting : Sitting} {old mid new : D} (done : ServedFrom g start first sitting mid_sitting old mid) → StoppedFrom g status done.end next mid new
        → StoppedFrom g status start (first ++ next) old new
    stopped_from_more {start} {first} {next} {sitting} {mid_sitting} {old} {mid} {new} done rest = record {
      replies = done.replies ++ rest.replies;
      stopped = stopped_more done.served rest.stopped;
      read = stopped_reads_more done.read (subst (λ (s : State). StoppedReads g s next rest.replies mid new) done.served.answered.state rest.read);
    }

    pub stopped_from_one : {start : State} {line : Line} {old new : D} → StandsFor start (g.image old) → FailsBy g status start line old new → UnreadLine g start line old new → StoppedFrom g status start (line ∷ []) old new
    stopped_from_one stands fails read = record { replies = []; stopped = stopped_one stands fails; read = stopped_reads_one read }

    pub stopped_from_later : {start : State} {first : List Line} {old new : D} (next : List Line) → StoppedFrom g status start first old new → StoppedFrom g status start (first ++ next) old new
    stopped_from_later next stop = record { replies = stop.replies; stopped = stopped_later next stop.stopped; read = stopped_reads_later next stop.read }
