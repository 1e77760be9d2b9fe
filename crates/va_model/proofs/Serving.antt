-- Runs one after another.
use Rattle.std.proofs.Common.{List, ℕ, [], ◌∷◌, ◌++◌, refl, ap, sym, ◌∙◌, subst, append_assoc, append-nil}
use Rattle.std.proofs.lemmas.Grind.{flat_map-append}
use Rattle.va_disk.specs.declared.storage.Storage.{Ghosts}
use Rattle.va_lang.specs.Reply.{Reply, reply_line}
use Rattle.va_model.specs.Lines.{Line}
use Rattle.va_model.specs.Runs.{after, Answered, GaveReply, GivesReplies, LeaveState, ReadLine, ReadLines, Replied, Served, StoppedLines, StoppedReads, UnreadLine, reply_lines}
use Rattle.va_model.specs.State.{State, StandsFor}
use Rattle.va_model.proofs.Fitting.{fits_append, after_append, least_append, leave_first, leave_next, reads_append}

-- what was replied
pub answered_more : {start mid_state end : State} {first next : List Line} {replies more : List Reply} {mid new : List ℕ} → Answered start first replies mid_state mid → Answered mid_state next more end new
    → Answered start (first ++ next) (replies ++ more) end new
answered_more {start} {mid_state} {end} {first} {next} {replies} {more} answered rest = record {
  fits = fits_append start first next replies more answered.fits (rw answered.state at rest.fits);
  state = rest.state ∙ ap (λ (s : State). after s next more) answered.state ∙ sym (after_append start first next replies more answered.fits);
  stands = rest.stands;
}

-- what was given
pub gives_more : (replies more : List Reply) (old mid new : List ℕ) → GivesReplies replies old mid → GivesReplies more mid new → GivesReplies (replies ++ more) old new
gives_more replies more old mid new given rest =
    rest
    ∙ ap (λ (text : List ℕ). text ++ reply_lines more) given
    ∙ append_assoc old (reply_lines replies) (reply_lines more)
    ∙ ap (λ (text : List ℕ). old ++ text) (sym (flat_map-append reply_line replies more))

module _ {D : Type 0} {g : Ghosts D} where
  pub served_nothing : {start : State} {old : D} → StandsFor start (g.image old) → Served g start [] [] old old start
  served_nothing {start} {old} stands = record {
    answered = record { fits = tt; state = refl; stands = stands };
    given = sym (append-nil (g.given old));
    stays = λ leave. refl;
  }

  pub read_nothing : {start : State} {old : D} → ReadLines g start [] [] old old
  read_nothing {start} {old} = record { fits = tt; given = sym (append-nil (g.given old)); read = refl; least = tt }

  gave_one : {start : State} {line : Line} {reply : Reply} {old new : D} → GaveReply g start line reply old new → GivesReplies (reply ∷ []) (g.given old) (g.given new)
  gave_one {start} {line} {reply} {old} {new} gave = gave.given ∙ ap (λ (text : List ℕ). g.given old ++ text) (sym (append-nil (reply_line reply)))

  -- one line and its reply
  pub served_one : {start end : State} {line : Line} {reply : Reply} {old new : D} → Replied g start line reply old new end → Served g start (line ∷ []) (reply ∷ []) old new end
  served_one {start} {end} {line} {reply} {old} {new} replied = record {
    answered = record { fits = (replied.gave.fits, tt); state = replied.state; stands = replied.stands };
    given = gave_one replied.gave;
    stays = λ leave. replied.stays (replied.state ∙ leave.0);
  }

  pub read_one : {start : State} {line : Line} {reply : Reply} {old new : D} → ReadLine g start line reply old new → ReadLines g start (line ∷ []) (reply ∷ []) old new
  read_one {start} {line} {reply} {old} {new} did = record { fits = (did.gave.fits, tt); given = gave_one did.gave; read = (g.reads new, did.read, refl); least = (did.least, tt) }

  pub served_more : {start mid_state end : State} {first next : List Line} {replies more : List Reply} {old mid new : D} → Served g start first replies old mid mid_state → Served g mid_state next more mid new end
      → Served g start (first ++ next) (replies ++ more) old new end
  served_more {start} {mid_state} {end} {first} {next} {replies} {more} {old} {mid} {new} served rest = record {
    answered = answered_more served.answered rest.answered;
    given = gives_more replies more (g.given old) (g.given mid) (g.given new) served.given rest.given;
    stays = λ leave.
        (rest.stays (subst (λ (s : State). LeaveState s next more) (sym served.answered.state) (leave_next start first next replies more served.answered.fits leave))
        ∙ served.stays (leave_first start first next replies more served.answered.fits leave));
  }

  pub read_more : {start : State} {first next : List Line} {replies more : List Reply} {old mid new : D} → ReadLines g start first replies old mid → ReadLines g (after start first replies) next more mid new
      → ReadLines g start (first ++ next) (replies ++ more) old new
  read_more {start} {first} {next} {replies} {more} {old} {mid} {new} did rest = record {
    fits = fits_append start first next replies more did.fits rest.fits;
    given = gives_more replies more (g.given old) (g.given mid) (g.given new) did.given rest.given;
    read = reads_append start first next replies more (g.reads old) (g.reads mid) (g.reads new) did.read rest.read;
    least = least_append start first next replies more did.fits did.least rest.least;
  }

  pub stopped_more : {Fails : State → Line → D → D → Type 0} {start mid_state : State} {first next : List Line} {replies more : List Reply} {old mid new : D} → Served g start first replies old mid mid_state
      → StoppedLines g Fails mid_state next more mid new → StoppedLines g Fails start (first ++ next) (replies ++ more) old new
  stopped_more {Fails} {start} {mid_state} {first} {next} {replies} {more} {old} {mid} {new} served rest = record {
    before = first ++ rest.before;
    line = rest.line;
    later = rest.later;
    are = ap (λ (lines : List Line). first ++ lines) rest.are ∙ sym (append_assoc first rest.before (rest.line ∷ rest.later));
    mid = rest.mid;
    end = rest.end;
    served = served_more served rest.served;
    fails = rest.fails;
  }

  -- the only line failed
  pub stopped_one : {Fails : State → Line → D → D → Type 0} {start : State} {line : Line} {old new : D} → StandsFor start (g.image old) → Fails start line old new → StoppedLines g Fails start (line ∷ []) [] old new
  stopped_one {Fails} {start} {line} {old} {new} stands fails = record {
    before = [];
    line = line;
    later = [];
    are = refl;
    mid = old;
    end = start;
    served = served_nothing stands;
    fails = fails;
  }

  -- more lines behind those at which the run stopped
  pub stopped_later : {Fails : State → Line → D → D → Type 0} {start : State} {first : List Line} {replies : List Reply} {old new : D} (next : List Line) → StoppedLines g Fails start first replies old new
      → StoppedLines g Fails start (first ++ next) replies old new
  stopped_later {Fails} {start} {first} {replies} {old} {new} next stopped = record {
    before = stopped.before;
    line = stopped.line;
    later = stopped.later ++ next;
    are = ap (λ (lines : List Line). lines ++ next) stopped.are ∙ append_assoc stopped.before (stopped.line ∷ stopped.later) next;
    mid = stopped.mid;
    end = stopped.end;
    served = stopped.served;
    fails = stopped.fails;
  }

  pub stopped_reads_more : {start : State} {first next : List Line} {replies more : List Reply} {old mid new : D} → ReadLines g start first replies old mid → StoppedReads g (after start first replies) next more mid new
      → StoppedReads g start (first ++ next) (replies ++ more) old new
  stopped_reads_more {start} {first} {next} {replies} {more} {old} {mid} {new} did rest = record {
    before = first ++ rest.before;
    line = rest.line;
    later = rest.later;
    are = ap (λ (lines : List Line). first ++ lines) rest.are ∙ sym (append_assoc first rest.before (rest.line ∷ rest.later));
    mid = rest.mid;
    served = read_more did rest.served;
    fails = subst (λ (s : State). UnreadLine g s rest.line rest.mid new) (sym (after_append start first rest.before replies more did.fits)) rest.fails;
  }

  pub stopped_reads_one : {start : State} {line : Line} {old new : D} → UnreadLine g start line old new → StoppedReads g start (line ∷ []) [] old new
  stopped_reads_one {start} {line} {old} {new} fails = record { before = []; line = line; later = []; are = refl; mid = old; served = read_nothing; fails = fails }

  pub stopped_reads_later : {start : State} {first : List Line} {replies : List Reply} {old new : D} (next : List Line) → StoppedReads g start first replies old new
      → StoppedReads g start (first ++ next) replies old new
  stopped_reads_later {start} {first} {replies} {old} {new} next stopped = record {
    before = stopped.before;
    line = stopped.line;
    later = stopped.later ++ next;
    are = ap (λ (lines : List Line). lines ++ next) stopped.are ∙ append_assoc stopped.before (stopped.line ∷ stopped.later) next;
    mid = stopped.mid;
    served = stopped.served;
    fails = stopped.fails;
  }
