-- A run that has taken some bytes, and may take more.
use Rattle.std.proofs.Common.{◌≡◌, inl, inr, ℕ, ◌+◌, ◌-◌, ◌≤◌, Bool, true, false, List, [], ◌∷◌, ◌++◌, length, leb, if◌then◌else◌, refl, ap, sym, ◌∙◌, subst, arith, append-nil, length-append}
use Rattle.va_disk.specs.Told.{Takes, IsAtEnd}
use Rattle.va_disk.specs.declared.storage.Storage.{Ghosts}
use Rattle.va_disk.specs.declared.source.Source.{Ghosts as Source}
use Rattle.va_disk.proofs.Giving.{takes_nothing, takes_both}
use Rattle.va_model.specs.Ends.{AreTaken, Cut, at_newlines}
use Rattle.va_model.specs.Lines.{Line, long, text, line_of, ended_lines, last_line, lines, parts}
use Rattle.va_model.specs.State.{State}
use Rattle.va_serve.specs.Course.{Account, Caused, EndedBy, IsOfLines, LastsOver, RanLines, Took, reading, replying}
use Rattle.va_serve.specs.Failing.{CountsStay, Later, Rises}
use Rattle.va_serve.specs.OpenLine.{ended_in, open_in}
use Rattle.va_serve.specs.Progress.{Lasts, ServedFrom, Serves, StoppedFrom, Stops, line_left}
use Rattle.va_serve.specs.Session.{IsAt, Sitting}
use Rattle.va_serve.specs.Showing.{ShowsLines, ShowsRun, ShowsUntil}
use Rattle.va_serve.specs.declared.status.Status.{Status}
use Rattle.va_serve.specs.declared.status.Status.TheVariants as statuses
use Rattle.va_serve.proofs.Lines.{ended_append, open_append}
use Rattle.va_serve.proofs.Progressing.{lasts_more, lasts_nothing, rises_behind, serves_more, serves_none, stay_both, stops_more}

-- the last line of an input is what its end ends
last_of_text : (b : ℕ) (bytes : List ℕ) (fits : Bool) → line_left (if fits then text (b ∷ bytes) else long) ≡ (if fits then text (b ∷ bytes) else long) ∷ []
last_of_text b bytes true = refl
last_of_text b bytes false = refl

pub last_of_line : (rest : List ℕ) → line_left (line_of rest) ≡ last_line rest
last_of_line [] = refl
last_of_line (b ∷ bytes) = last_of_text b bytes (leb (length (b ∷ bytes)) 65535)

last_of_some : (line : Line) → (line ≡ text [] → ⊥) → line ∷ [] ≡ line_left line
last_of_some long some = refl
last_of_some (text []) some = absurd (some refl)
last_of_some (text (b ∷ bytes)) some = refl

pub last_of_handed : (line handed : Line) → handed ≡ line → (line ≡ text [] → ⊥) → handed ∷ [] ≡ line_left line
last_of_handed line handed same some = ap (λ (l : Line). l ∷ []) same ∙ last_of_some line some

-- no more than these bytes were taken
pub took_within : {source : Type 0} {status : Status} {limit : ℕ} {bytes input left : List ℕ} → Takes source input bytes left → length bytes ≤ limit
    → (status ≡ statuses.Done → IsAtEnd source left) → (status ≡ statuses.TooLong → ⊥) → Took source status limit bytes input left
took_within {source} {status} {limit} {bytes} {input} {left} takes fits end other = record {
  more = [];
  takes = rw (append-nil bytes) takes;
  fits = fits;
  end = end;
  most = omega arith;
  beyond = (λ is. absurd (other is), λ many. absurd (omega (arith, many)));
  full = λ many. absurd (omega (arith, many));
}

-- the status of a line that failed is neither of the two that speak of the input
module _ {D : Type 0} (g : Ghosts D) (old new : D) where
  pub rises_done : (status : Status) → Rises g status old new → status ≡ statuses.Done → ⊥
  rises_done status rises is = rw is at rises

  pub rises_too_long : (status : Status) → Rises g status old new → status ≡ statuses.TooLong → ⊥
  rises_too_long status rises is = rw is at rises

-- a run that ended in its last line
pub of_lines : {D : Type 0} (g : Ghosts D) (old new : D) (status : Status) → ((status ≡ statuses.Done → ⊥) → Rises g status old new) → IsOfLines status
of_lines g old new statuses.Done rises = tt
of_lines g old new statuses.WriteFault rises = tt
of_lines g old new statuses.DiskFault rises = tt
of_lines g old new statuses.ReadFault rises = tt
of_lines g old new statuses.TooLong rises = tt
of_lines g old new statuses.Usage rises = rises (λ e. cc)
of_lines g old new statuses.Memory rises = rises (λ e. cc)
of_lines g old new (statuses.Store why) rises = rises (λ e. cc)
of_lines g old new (statuses.Mismatch place dist low high) rises = tt
of_lines g old new (statuses.Changed place) rises = tt

-- the cause of a run that ended in a line, or behind its last one
pub caused_line : {D S : Type 0} (g : Ghosts D) (s : Source S) (source source' : S) {from to new : D} (status : Status) → s.faults source' ≡ s.faults source → CountsStay g from to
    → (status ≡ statuses.Done → CountsStay g to new) → ((status ≡ statuses.Done → ⊥) → Rises g status to new) → Caused g s status source source' from new
caused_line g s source source' statuses.Done same so_far stays rises = record { input = same; output = stay_both so_far (stays refl) }
caused_line g s source source' statuses.WriteFault same so_far stays rises = (same, rises_behind _ statuses.WriteFault so_far (rises (λ e. cc)))
caused_line g s source source' statuses.DiskFault same so_far stays rises = (same, rises_behind _ statuses.DiskFault so_far (rises (λ e. cc)))
caused_line g s source source' statuses.ReadFault same so_far stays rises = absurd (rises (λ e. cc))
caused_line g s source source' statuses.TooLong same so_far stays rises = absurd (rises (λ e. cc))
caused_line g s source source' statuses.Usage same so_far stays rises = absurd (rises (λ e. cc))
caused_line g s source source' statuses.Memory same so_far stays rises = absurd (rises (λ e. cc))
caused_line g s source source' (statuses.Store why) same so_far stays rises = absurd (rises (λ e. cc))
caused_line g s source source' (statuses.Mismatch place dist low high) same so_far stays rises = let rose = rises (λ e. cc) in (record { input = same; output = stay_both so_far rose.0 }, rose.1)
caused_line g s source source' (statuses.Changed place) same so_far stays rises = let rose = rises (λ e. cc) in (record { input = same; output = stay_both so_far rose.0 }, rose.1)

-- so many bytes were taken, with the lines that ended in them served, and the line that is open
pub record Running {D S : Type 0} (g : Ghosts D) (s : Source S) (limit more : ℕ) (open_line : Line) (sitting sitting' : Sitting) (source source' : S) (from to : D) : Type 0 where
  pub taken : List ℕ
  pub takes : Takes s.told (s.left source) taken (s.left source')
  pub fits : length taken + more ≡ limit
  pub is_open : open_line ≡ line_of (parts taken).rest
  pub serves : Serves g (ended_lines taken) sitting sitting' from to
  pub lasts : Lasts g (ended_lines taken) sitting from to

pub running_start : {D S : Type 0} {g : Ghosts D} {s : Source S} {limit : ℕ} {line : Line} {sitting : Sitting} {source : S} {from : D} → line ≡ text [] → Running g s limit limit line sitting sitting source source from from
running_start {D} {S} {g} {s} {limit} {line} {sitting} {source} {from} empty = record {
  taken = [];
  takes = takes_nothing s.told (s.left source);
  fits = omega arith;
  is_open = empty;
  serves = serves_none refl;
  lasts = lasts_nothing;
}

pub no_bytes : (bytes : List ℕ) → length bytes ≡ 0 → bytes ≡ []
no_bytes [] h = refl
no_bytes (b ∷ bytes) h = absurd (omega arith)

-- What was done for lines is told by an account.
pub record Tells {D : Type 0} (g : Ghosts D) (account : Account D) : Type 0 where
  pub done : {start : State} {lines : List Line} {sitting sitting' : Sitting} {old new : D} → ServedFrom g start lines sitting sitting' old new → account.Done start lines old new
  pub until : {status : Status} {start : State} {lines : List Line} {old new : D} → StoppedFrom g status start lines old new → account.Until status start lines old new

pub tells_replies : {D : Type 0} {g : Ghosts D} → Tells g (replying g)
tells_replies = record {
  done = λ did. record { replies = did.replies; end = did.end; served = did.served };
  until = λ stop. record { replies = stop.replies; stopped = stop.stopped };
}

pub tells_reads : {D : Type 0} {g : Ghosts D} → Tells g (reading g)
tells_reads = record {
  done = λ did. record { replies = did.replies; read = did.read };
  until = λ stop. record { replies = stop.replies; read = stop.read };
}

-- only the faults of the sink and of the disk stop a run in a line
pub stopped_by : {D : Type 0} {g : Ghosts D} {account : Account D} → Tells g account → (cut : Cut) (source : Type 0) {start : State} (bytes left : List ℕ) {old new : D} (all : List Line) → AreTaken cut source bytes left all
    → (status : Status) → StoppedFrom g status start all old new → EndedBy account cut status source start bytes left old new
stopped_by tells cut source bytes left all are statuses.WriteFault stop = (all, are, tells.until stop)
stopped_by tells cut source bytes left all are statuses.DiskFault stop = (all, are, tells.until stop)
stopped_by tells cut source bytes left all are statuses.Done stop = absurd stop.stopped.fails
stopped_by tells cut source bytes left all are statuses.Usage stop = absurd stop.stopped.fails
stopped_by tells cut source bytes left all are statuses.ReadFault stop = absurd stop.stopped.fails
stopped_by tells cut source bytes left all are (statuses.Store why) stop = absurd stop.stopped.fails
stopped_by tells cut source bytes left all are (statuses.Mismatch place dist low high) stop = absurd stop.stopped.fails
stopped_by tells cut source bytes left all are (statuses.Changed place) stop = absurd stop.stopped.fails
stopped_by tells cut source bytes left all are statuses.Memory stop = absurd stop.stopped.fails
stopped_by tells cut source bytes left all are statuses.TooLong stop = absurd stop.stopped.fails

-- what a run shows that a line ended
pub shown_until : {D : Type 0} {g : Ghosts D} (cut : Cut) (source : Type 0) (bytes left : List ℕ) {old new : D} (all : List Line) → AreTaken cut source bytes left all
    → (status : Status) → ShowsUntil g status all old new → ShowsRun g cut source bytes left status old new
shown_until cut source bytes left all are statuses.WriteFault until = (all, are, until)
shown_until cut source bytes left all are statuses.DiskFault until = (all, are, until)
shown_until cut source bytes left all are (statuses.Mismatch place dist low high) until = (all, are, until)
shown_until cut source bytes left all are (statuses.Changed place) until = absurd until.last
shown_until cut source bytes left all are statuses.Done until = absurd until.last
shown_until cut source bytes left all are statuses.Usage until = absurd until.last
shown_until cut source bytes left all are statuses.ReadFault until = absurd until.last
shown_until cut source bytes left all are (statuses.Store why) until = absurd until.last
shown_until cut source bytes left all are statuses.Memory until = absurd until.last
shown_until cut source bytes left all are statuses.TooLong until = absurd until.last

-- why a run over lines ended, and that no count fell
pub record Causes {D S : Type 0} (g : Ghosts D) (s : Source S) (status : Status) (source source' : S) (from to : D) : Type 0 where
  pub cause : Caused g s status source source' from to
  pub source_later : s.faults source ≤ s.faults source'
  pub later : Later g from to

module _ {D S : Type 0} {g : Ghosts D} {s : Source S} {limit more : ℕ} {line : Line} {sitting mid_sitting : Sitting} {source source' : S} {from to : D} (run : Running g s limit more line sitting mid_sitting source source' from to) where
  -- what an account says of the lines that ended so far, and what a crash in them leaves
  so_far : {account : Account D} → Tells g account → {start : State} → g.told → IsAt start sitting (g.image from) → account.Done start (ended_lines run.taken) from to
  so_far tells {start} told at = tells.done (run.serves.from told start at)

  crash_so_far : (last : S) → LastsOver g s at_newlines run.taken sitting last from to
  crash_so_far last = record { from = λ keeps told start is each. (ended_lines run.taken, inl refl, run.lasts.from keeps told start is each) }

  -- nothing more was taken, since the source failed
  pub ran_cut : (last : S) → s.left last ≡ s.left source' → Causes g s statuses.ReadFault source last from to → RanLines g s at_newlines limit sitting source last from to statuses.ReadFault
  ran_cut last same causes = record {
    kinds = tt;
    bytes = run.taken;
    took = took_within (rw same run.takes) (omega (arith, run.fits)) (λ e. cc) (λ e. cc);
    replied = record { from = λ told start at. so_far tells_replies told at };
    read = record { from = λ told start at. so_far tells_reads told at };
    crash = crash_so_far last;
    shown = run.serves.shown;
    cause = causes.cause;
    source_later = causes.source_later;
    later = causes.later;
  }

  module _ (last_source : S) (piece : List ℕ) (next : Takes s.told (s.left source') piece (s.left last_source)) where
    takes : Takes s.told (s.left source) (run.taken ++ piece) (s.left last_source)
    takes = takes_both s.told (s.left source) (s.left source') (s.left last_source) run.taken piece run.takes next

    piece_lines : ended_lines run.taken ++ ended_in line piece ≡ ended_lines (run.taken ++ piece)
    piece_lines = ap (λ (l : Line). ended_lines run.taken ++ ended_in l piece) run.is_open ∙ sym (ended_append run.taken piece)

    module _ {n : ℕ} (many : length piece ≡ n) (within : n ≤ more) where
      module _ (is_outcome : g.told → g.honest → g.may_leave from (g.image from)) {last : D} (lasts : Lasts g (ended_in line piece) mid_sitting to last) where
        piece_lasts : Lasts g (ended_lines (run.taken ++ piece)) sitting from last
        piece_lasts = subst (λ (ls : List Line). Lasts g ls sitting from last) piece_lines (lasts_more run.serves run.lasts lasts)

        pub running_more : {last_sitting : Sitting} {next_line : Line} → next_line ≡ open_in line piece → Serves g (ended_in line piece) mid_sitting last_sitting to last
            → Running g s limit (more - n) next_line sitting last_sitting source last_source from last
        running_more {last_sitting} opens serves = record {
          taken = run.taken ++ piece;
          takes = takes;
          fits = omega (arith, run.fits, many, within, length-append run.taken piece);
          is_open = opens ∙ ap (λ (l : Line). open_in l piece) run.is_open ∙ sym (open_append run.taken piece);
          serves = subst (λ (ls : List Line). Serves g ls sitting last_sitting from last) piece_lines (serves_more run.serves serves);
          lasts = piece_lasts;
        }

        -- a line in the piece failed
        pub ran_broken : {status : Status} → Stops g status (ended_in line piece) mid_sitting to last → Rises g status to last → Causes g s status source last_source from last
            → RanLines g s at_newlines limit sitting source last_source from last status
        ran_broken {status} stops rises causes = record {
          kinds = of_lines g to last status (λ going. rises);
          bytes = run.taken ++ piece;
          took = took_within takes (omega (arith, run.fits, many, within, length-append run.taken piece)) (λ is. absurd (rises_done g to last status rises is)) (rises_too_long g to last status rises);
          replied = record { from = λ told start at. stopped tells_replies told at };
          read = record { from = λ told start at. stopped tells_reads told at };
          crash = record { from = λ keeps told start is each. (ended_lines (run.taken ++ piece), inl refl, piece_lasts.from keeps told start is each) };
          shown = λ told. shown_until at_newlines s.told (run.taken ++ piece) (s.left last_source) (ended_lines (run.taken ++ piece)) (inl refl) status
              (subst (λ (ls : List Line). ShowsUntil g status ls from last) piece_lines ((stops_more run.serves stops).shown told));
          cause = causes.cause;
          source_later = causes.source_later;
          later = causes.later;
        }
          where
            stopped : {account : Account D} → Tells g account → {start : State} → g.told → IsAt start sitting (g.image from) → EndedBy account at_newlines status s.told start (run.taken ++ piece) (s.left last_source) from last
            stopped tells {start} told at = stopped_by tells at_newlines s.told (run.taken ++ piece) (s.left last_source) (ended_lines (run.taken ++ piece)) (inl refl) status
                (subst (λ (ls : List Line). StoppedFrom g status start ls from last) piece_lines ((stops_more run.serves stops).from told start at))

    -- the end of the input was reached
    module _ (none : length piece ≡ 0) (at_end : IsAtEnd s.told (s.left last_source)) where
      takes_no_more : Takes s.told (s.left source) run.taken (s.left last_source)
      takes_no_more tells = takes tells ∙ ap (λ (bytes : List ℕ). bytes ++ s.left last_source) (ap (λ (bytes : List ℕ). run.taken ++ bytes) (no_bytes piece none) ∙ append-nil run.taken)

      end_lines : ended_lines run.taken ++ line_left line ≡ lines run.taken
      end_lines = ap (λ (ls : List Line). ended_lines run.taken ++ ls) (ap line_left run.is_open ∙ last_of_line (parts run.taken).rest)

      module _ {account : Account D} (tells : Tells g account) {last : D} {start : State} (told : g.told) (at : IsAt start sitting (g.image from)) where
        finished : {last_sitting : Sitting} → Serves g (line_left line) mid_sitting last_sitting to last → account.Done start (lines run.taken) from last
        finished {last_sitting} serves = tells.done
            ((subst (λ (ls : List Line). Serves g ls sitting last_sitting from last) end_lines (serves_more run.serves serves)).from told start at)

        broken : {status : Status} → Stops g status (line_left line) mid_sitting to last → EndedBy account at_newlines status s.told start run.taken (s.left last_source) from last
        broken {status} stops = stopped_by tells at_newlines s.told run.taken (s.left last_source) (lines run.taken) (inr (at_end, refl)) status
            (subst (λ (ls : List Line). StoppedFrom g status start ls from last) end_lines ((stops_more run.serves stops).from told start at))

        -- by the status of the last line
        ended : {last_sitting : Sitting} (status : Status) → (status ≡ statuses.Done → Serves g (line_left line) mid_sitting last_sitting to last)
            → ((status ≡ statuses.Done → ⊥) → Stops g status (line_left line) mid_sitting to last) → EndedBy account at_newlines status s.told start run.taken (s.left last_source) from last
        ended statuses.Done serves stops = finished (serves refl)
        ended statuses.Usage serves stops = broken (stops (λ e. cc))
        ended statuses.ReadFault serves stops = broken (stops (λ e. cc))
        ended statuses.WriteFault serves stops = broken (stops (λ e. cc))
        ended statuses.DiskFault serves stops = broken (stops (λ e. cc))
        ended (statuses.Store why) serves stops = broken (stops (λ e. cc))
        ended (statuses.Mismatch place dist low high) serves stops = broken (stops (λ e. cc))
        ended (statuses.Changed place) serves stops = broken (stops (λ e. cc))
        ended statuses.Memory serves stops = broken (stops (λ e. cc))
        ended statuses.TooLong serves stops = broken (stops (λ e. cc))

      -- what the lines show, by the status of the last one
      module _ {last : D} (told : g.told) where
        shown_stopped : {status : Status} → Stops g status (line_left line) mid_sitting to last → ShowsRun g at_newlines s.told run.taken (s.left last_source) status from last
        shown_stopped {status} stops = shown_until at_newlines s.told run.taken (s.left last_source) (lines run.taken) (inr (at_end, refl)) status
            (subst (λ (ls : List Line). ShowsUntil g status ls from last) end_lines ((stops_more run.serves stops).shown told))

        shown_ended : {last_sitting : Sitting} (status : Status) → (status ≡ statuses.Done → Serves g (line_left line) mid_sitting last_sitting to last)
            → ((status ≡ statuses.Done → ⊥) → Stops g status (line_left line) mid_sitting to last) → ShowsRun g at_newlines s.told run.taken (s.left last_source) status from last
        shown_ended statuses.Done serves stops = subst (λ (ls : List Line). ShowsLines g ls from last) end_lines ((serves_more run.serves (serves refl)).shown told)
        shown_ended statuses.Usage serves stops = shown_stopped (stops (λ e. cc))
        shown_ended statuses.ReadFault serves stops = shown_stopped (stops (λ e. cc))
        shown_ended statuses.WriteFault serves stops = shown_stopped (stops (λ e. cc))
        shown_ended statuses.DiskFault serves stops = shown_stopped (stops (λ e. cc))
        shown_ended (statuses.Store why) serves stops = shown_stopped (stops (λ e. cc))
        shown_ended (statuses.Mismatch place dist low high) serves stops = shown_stopped (stops (λ e. cc))
        shown_ended (statuses.Changed place) serves stops = shown_stopped (stops (λ e. cc))
        shown_ended statuses.Memory serves stops = shown_stopped (stops (λ e. cc))
        shown_ended statuses.TooLong serves stops = shown_stopped (stops (λ e. cc))

      pub ran_end : (is_outcome : g.told → g.honest → g.may_leave from (g.image from)) → {last_sitting : Sitting} {last : D} (status : Status) → (status ≡ statuses.Done → Serves g (line_left line) mid_sitting last_sitting to last)
          → ((status ≡ statuses.Done → ⊥) → Stops g status (line_left line) mid_sitting to last) → Lasts g (line_left line) mid_sitting to last
          → ((status ≡ statuses.Done → ⊥) → Rises g status to last) → Causes g s status source last_source from last → RanLines g s at_newlines limit sitting source last_source from last status
      ran_end is_outcome {last_sitting} {last} status serves stops lasts rises causes = record {
        kinds = of_lines g to last status rises;
        bytes = run.taken;
        took = took_within takes_no_more (omega (arith, run.fits)) (λ done. at_end) (λ is. rises_too_long g to last status (rises (λ done. let both : ◌≡◌ {A = Status} statuses.Done statuses.TooLong = sym done ∙ is in cc)) is);
        replied = record { from = λ told start at. ended tells_replies told at status serves stops };
        read = record { from = λ told start at. ended tells_reads told at status serves stops };
        crash = record { from = λ keeps told start is each. (lines run.taken, inr (at_end, refl), all.from keeps told start is each) };
        shown = λ told. shown_ended told status serves stops;
        cause = causes.cause;
        source_later = causes.source_later;
        later = causes.later;
      }
        where
          all : Lasts g (lines run.taken) sitting from last
          all = subst (λ (ls : List Line). Lasts g ls sitting from last) end_lines (lasts_more run.serves run.lasts lasts)

    -- one byte more than the limit was there
    module _ (full : more ≡ 0) (one : length piece ≡ 1) where
      pub ran_exceeded : Causes g s statuses.TooLong source last_source from to → RanLines g s at_newlines limit sitting source last_source from to statuses.TooLong
      ran_exceeded causes = record {
        kinds = tt;
        bytes = run.taken;
        took = record {
          more = piece;
          takes = takes;
          fits = omega (arith, run.fits);
          end = λ is. cc;
          most = omega (arith, one);
          beyond = (λ is. one, λ many. refl);
          full = λ many. omega (arith, run.fits, full);
        };
        replied = record { from = λ told start at. so_far tells_replies told at };
        read = record { from = λ told start at. so_far tells_reads told at };
        crash = crash_so_far last_source;
        shown = run.serves.shown;
        cause = causes.cause;
        source_later = causes.source_later;
        later = causes.later;
      }
