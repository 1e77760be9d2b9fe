-- What a line, a byte and a piece of the input do to lines that were served.
use Rattle.std.proofs.Common.{◌≡◌, ℕ, ◌+◌, ◌<◌, List, [], ◌∷◌, ◌++◌, Bool, true, false, Result, Ok, Err, IfErr, OnErr, OnOk, length, drop, get_or, eqb, if◌then◌else◌, refl, ap, sym, ◌∙◌, subst, append_assoc, append-nil, arith}
use Rattle.std.proofs.lemmas.List.{drop_more}
use Rattle.va_disk.specs.Causes.{Rose}
use Rattle.va_disk.specs.Frames.{OnlyReads}
use Rattle.va_disk.specs.declared.storage.Storage.{Ghosts}
use Rattle.va_disk.proofs.Moments.{nothing_leaves, weaker}
use Rattle.va_model.specs.Crashes.{RunLeaves}
use Rattle.va_model.specs.Lines.{Line}
use Rattle.va_model.proofs.Leaving.{left_more, left_one, left_whole}
use Rattle.va_serve.specs.Failing.{CountsStay, Later, Rises}
use Rattle.va_serve.specs.OpenLine.{ended_by, ended_in, open_after, open_in}
use Rattle.va_serve.specs.Progress.{FailReads, LineFails, Lasts, Serves, StepLasts, StepReads, StepSettles, Steps, Stops}
use Rattle.va_serve.specs.Session.{Sitting}
use Rattle.va_serve.specs.Showing.{GivesReply, ShowsEnd, ShowsLine}
use Rattle.va_serve.specs.declared.status.Status.{Status}
use Rattle.va_serve.specs.declared.status.Status.TheVariants as statuses
use Rattle.va_serve.proofs.Showing.{shows_both, until_behind, until_later, until_one}
use Rattle.va_serve.proofs.Doing.{from_nothing, from_one, from_more, stopped_from_more, stopped_from_one, stopped_from_later}

-- a newline ends the open line, which was handed over, and no other byte ends one
pub ended_line : (byte : ℕ) (line handed : Line) → handed ≡ line → byte ≡ 10 → handed ∷ [] ≡ ended_by byte line
ended_line byte line handed same is = rw is (ap (λ (l : Line). l ∷ []) same)

ended_none_at : (is : Bool) (line : Line) → is ≡ false → [] ≡ (if is then line ∷ [] else [])
ended_none_at true line e = cc
ended_none_at false line e = refl

pub ended_none : (byte : ℕ) (line : Line) → eqb byte 10 ≡ false → [] ≡ ended_by byte line
ended_none byte line other = ended_none_at (eqb byte 10) line other

module _ {D : Type 0} {g : Ghosts D} where
  pub serves_none : {lines : List Line} {sitting : Sitting} {old : D} → [] ≡ lines → Serves g lines sitting sitting old old
  serves_none {lines} {sitting} {old} none = subst (λ (ls : List Line). Serves g ls sitting sitting old old) none (record { from = λ told start at. from_nothing at; shown = λ told. refl })

  serves_line : {line : Line} {lines : List Line} {sitting sitting' : Sitting} {old new : D} → line ∷ [] ≡ lines → Steps g line sitting sitting' old new → StepReads g line sitting old new → StepSettles g line sitting sitting' old new
      → (g.told → ShowsLine g line old new × GivesReply g old new) → Serves g lines sitting sitting' old new
  serves_line {line} {lines} {sitting} {sitting'} {old} {new} are steps reads settles shows =
      subst (λ (ls : List Line). Serves g ls sitting sitting' old new) are (record {
        from = λ told start at. from_one (steps.from told start at) (reads.from told start at) (λ honest secure. settles.from honest told start at secure);
        shown = λ told. (let shown = shows told in (new, shown.0, shown.1, refl));
      })

  stops_line : {status : Status} {line : Line} {lines : List Line} {sitting : Sitting} {old new : D} → line ∷ [] ≡ lines → LineFails g status line sitting old new → FailReads g line sitting old new → (g.told → ShowsEnd g status line old new)
      → Stops g status lines sitting old new
  stops_line {status} {line} {lines} {sitting} {old} {new} are fails reads ends =
      subst (λ (ls : List Line). Stops g status ls sitting old new) are
      (record { from = λ told start at. stopped_from_one at.stands (fails.from told start at) (reads.from told start at); shown = λ told. until_one g (ends told) })

  pub lasts_nothing : {lines : List Line} {sitting : Sitting} {old : D} → Lasts g lines sitting old old
  lasts_nothing {lines} {sitting} {old} = record { from = λ honest told start is secure. nothing_leaves g.clock g.left_since old (RunLeaves start (g.given old) lines) }

  pub lasts_one : {line : Line} {lines : List Line} {sitting : Sitting} {old new : D} → line ∷ [] ≡ lines → StepLasts g line sitting old new → Lasts g lines sitting old new
  lasts_one {line} {lines} {sitting} {old} {new} are lasts =
      subst (λ (ls : List Line). Lasts g ls sitting old new) are
      (record { from = λ honest told start is secure. weaker g.clock g.left_since old new _ _ (λ image given left. left_one left) (lasts.from honest told start is secure) })

  pub lasts_later : {first all : List Line} {sitting : Sitting} {old new : D} (next : List Line) → all ≡ first ++ next → Lasts g first sitting old new → Lasts g all sitting old new
  lasts_later {first} {all} {sitting} {old} {new} next are lasts =
      record { from = λ honest told start is secure. left_whole g start (g.given old) old new next are (lasts.from honest told start is secure) }

  module _ {first : List Line} {sitting mid_sitting : Sitting} {old mid : D} (serves : Serves g first sitting mid_sitting old mid) where
    pub serves_more : {next : List Line} {sitting' : Sitting} {new : D} → Serves g next mid_sitting sitting' mid new → Serves g (first ++ next) sitting sitting' old new
    serves_more {next} rest = record {
      from = λ told start at.
          (let done = serves.from told start at in
          from_more done (rest.from told done.end done.at));
      shown = λ told. shows_both g first next old mid _ (serves.shown told) (rest.shown told);
    }

    pub stops_more : {status : Status} {next : List Line} {new : D} → Stops g status next mid_sitting mid new → Stops g status (first ++ next) sitting old new
    stops_more {next = next} rest = record {
      from = λ told start at.
          (let done = serves.from told start at in
          stopped_from_more done (rest.from told done.end done.at));
      shown = λ told. until_behind g first next old mid (serves.shown told) (rest.shown told);
    }

    pub lasts_more : {next : List Line} {new : D} → Lasts g first sitting old mid → Lasts g next mid_sitting mid new → Lasts g (first ++ next) sitting old new
    lasts_more so_far rest = record {
      from = λ honest told start at secure.
          (let done = serves.from told start at in
          left_more done.served (so_far.from honest told start at secure) (rest.from honest told done.end done.at (done.secures honest secure)));
    }

  pub stops_later : {status : Status} {first : List Line} {sitting : Sitting} {old new : D} (next : List Line) → Stops g status first sitting old new → Stops g status (first ++ next) sitting old new
  stops_later next stops = record { from = λ told start at. stopped_from_later next (stops.from told start at); shown = λ told. until_later g next (stops.shown told) }

-- by the outcome of the call that ran the line
pub serves_one : {D E : Type 0} (g : Ghosts D) (result : Result Unit E) (line : Line) {lines : List Line} (sitting sitting' : Sitting) (old new : D) → line ∷ [] ≡ lines → OnOk result (Steps g line sitting sitting' old new)
    → OnOk result (StepReads g line sitting old new) → OnOk result (StepSettles g line sitting sitting' old new) → OnOk result (g.told → ShowsLine g line old new × GivesReply g old new) → OnOk result (Serves g lines sitting sitting' old new)
serves_one g (Ok value) line sitting sitting' old new are steps reads settles shows = serves_line are steps reads settles shows
serves_one g (Err status) line sitting sitting' old new are steps reads settles shows = tt

pub stops_one : {D T : Type 0} (g : Ghosts D) (result : Result T Status) (line : Line) {lines : List Line} (sitting : Sitting) (old new : D) → line ∷ [] ≡ lines → IfErr result (λ status. LineFails g status line sitting old new)
    → OnErr result (FailReads g line sitting old new) → IfErr result (λ status. g.told → ShowsEnd g status line old new) → IfErr result (λ status. Stops g status lines sitting old new)
stops_one g (Ok value) line sitting old new are fails reads ends = tt
stops_one g (Err status) line sitting old new are fails reads ends = stops_line are fails reads ends

-- counts that don't fall
pub later_nothing : {D : Type 0} {g : Ghosts D} {state : D} → Later g state state
later_nothing = record { disk = omega arith; sink = omega arith }

pub later_both : {D : Type 0} {g : Ghosts D} {old mid new : D} → Later g old mid → Later g mid new → Later g old new
later_both first next = record { disk = omega (arith, first.disk, next.disk); sink = omega (arith, first.sink, next.sink) }

pub stay_nothing : {D : Type 0} {g : Ghosts D} {state : D} → CountsStay g state state
stay_nothing = record { disk = refl; sink = refl }

pub stay_both : {D : Type 0} {g : Ghosts D} {old mid new : D} → CountsStay g old mid → CountsStay g mid new → CountsStay g old new
stay_both first next = record { disk = next.disk ∙ first.disk; sink = next.sink ∙ first.sink }

pub stay_reading : {D : Type 0} {g : Ghosts D} {old new : D} → OnlyReads g old new → g.faults new ≡ g.faults old → CountsStay g old new
stay_reading frame same = record { disk = same; sink = frame.sink }

pub rose_since : {old mid new : ℕ} → mid ≡ old → Rose mid new → Rose old new
rose_since {old} {mid} {new} same rose = subst (λ (n : ℕ). Rose n new) same rose

-- what failed in a line behind lines in which nothing did
pub rises_behind : {D : Type 0} {g : Ghosts D} {old mid : D} (new : D) (status : Status) → CountsStay g old mid → Rises g status mid new → Rises g status old new
rises_behind new statuses.WriteFault stays rises = (rose_since stays.sink rises.0, rises.1 ∙ stays.disk)
rises_behind new statuses.DiskFault stays rises = (rose_since stays.disk rises.0, rises.1 ∙ stays.sink)
rises_behind new statuses.Done stays rises = absurd rises
rises_behind new statuses.Usage stays rises = absurd rises
rises_behind new statuses.ReadFault stays rises = absurd rises
rises_behind new (statuses.Store why) stays rises = absurd rises
rises_behind new (statuses.Mismatch place dist low high) stays rises = (stay_both stays rises.0, rises.1)
rises_behind new (statuses.Changed place) stays rises = (stay_both stays rises.0, rises.1)
rises_behind new statuses.Memory stays rises = absurd rises
rises_behind new statuses.TooLong stays rises = absurd rises

-- A part of a piece was taken: the lines that ended in it were served, and those of the rest are to come.
pub record Partly {D : Type 0} (g : Ghosts D) (first line : Line) (piece rest : List ℕ) (sitting sitting' : Sitting) (from to : D) : Type 0 where
  pub so_far : List Line
  pub ended : ended_in first piece ≡ so_far ++ ended_in line rest
  pub opens : open_in first piece ≡ open_in line rest
  pub serves : Serves g so_far sitting sitting' from to
  pub lasts : Lasts g so_far sitting from to

pub partly_start : {D : Type 0} {g : Ghosts D} {line : Line} {piece : List ℕ} {sitting : Sitting} {from : D} → Partly g line line piece piece sitting sitting from from
partly_start = record { so_far = []; ended = refl; opens = refl; serves = serves_none refl; lasts = lasts_nothing }

module _ {D : Type 0} {g : Ghosts D} {first line : Line} {piece : List ℕ} {sitting mid_sitting : Sitting} {from to : D} (i : ℕ) (part : Partly g first line piece (drop i piece) sitting mid_sitting from to) where
  module _ (inside : i < length piece) where
    abbrev pub byte : ℕ
    byte = get_or piece i 0

    here : drop i piece ≡ byte ∷ drop (i + 1) piece
    here = drop_more piece i 0 inside

    lines_here : ended_in first piece ≡ (part.so_far ++ ended_by byte line) ++ ended_in (open_after byte line) (drop (i + 1) piece)
    lines_here = part.ended ∙ ap (λ (bytes : List ℕ). part.so_far ++ ended_in line bytes) here ∙ sym (append_assoc part.so_far (ended_by byte line) (ended_in (open_after byte line) (drop (i + 1) piece)))

    pub partly_more : {last_sitting : Sitting} {last : D} {next : Line} → (g.told → g.honest → g.may_leave from (g.image from)) → next ≡ open_after byte line
        → Serves g (ended_by byte line) mid_sitting last_sitting to last → Lasts g (ended_by byte line) mid_sitting to last
        → Partly g first next piece (drop (i + 1) piece) sitting last_sitting from last
    partly_more is_outcome opens serves lasts = record {
      so_far = part.so_far ++ ended_by byte line;
      ended = rw opens lines_here;
      opens = rw opens (part.opens ∙ ap (λ (bytes : List ℕ). open_in line bytes) here);
      serves = serves_more part.serves serves;
      lasts = lasts_more part.serves part.lasts lasts;
    }

    pub partly_stops : {status : Status} {last : D} → Stops g status (ended_by byte line) mid_sitting to last → Stops g status (ended_in first piece) sitting from last
    partly_stops {status} {last} stops =
        subst (λ (ls : List Line). Stops g status ls sitting from last) (sym lines_here) (stops_later (ended_in (open_after byte line) (drop (i + 1) piece)) (stops_more part.serves stops))

    pub partly_lasts : {last : D} → (g.told → g.honest → g.may_leave from (g.image from)) → Lasts g (ended_by byte line) mid_sitting to last → Lasts g (ended_in first piece) sitting from last
    partly_lasts is_outcome lasts = lasts_later (ended_in (open_after byte line) (drop (i + 1) piece)) lines_here (lasts_more part.serves part.lasts lasts)

  module _ (all : drop i piece ≡ []) where
    lines_all : ended_in first piece ≡ part.so_far
    lines_all = part.ended ∙ ap (λ (bytes : List ℕ). part.so_far ++ ended_in line bytes) all ∙ append-nil part.so_far

    pub partly_opens : line ≡ open_in first piece
    partly_opens = sym (part.opens ∙ ap (λ (bytes : List ℕ). open_in line bytes) all)

    pub partly_serves : Serves g (ended_in first piece) sitting mid_sitting from to
    partly_serves = subst (λ (ls : List Line). Serves g ls sitting mid_sitting from to) (sym lines_all) part.serves

    pub partly_all_lasts : Lasts g (ended_in first piece) sitting from to
    partly_all_lasts = subst (λ (ls : List Line). Lasts g ls sitting from to) (sym lines_all) part.lasts
