-- What was done for lines, from one state and from each that the session may be at.
use Rattle.std.specs.Prelude.{List, [], ◌∷◌}
use Rattle.va_disk.specs.Crashes.{Leaves}
use Rattle.va_disk.specs.declared.storage.Storage.{Ghosts}
use Rattle.va_lang.specs.Reply.{Reply}
use Rattle.va_model.specs.Crashes.{RunLeaves, StepLeaves}
use Rattle.va_model.specs.Lines.{Line, long, text}
use Rattle.va_model.specs.Memory.{wants_memory}
use Rattle.va_model.specs.Runs.{GaveReply, ReadLine, ReadLines, Replied, Served, StoppedLines, StoppedReads, UnreadLine}
use Rattle.va_model.specs.State.{State}
use Rattle.va_model.specs.Step.{step}
use Rattle.va_serve.specs.Failing.{FailsBy}
use Rattle.va_serve.specs.Promises.{FindsOutside, MeetsChanged, asked_in}
use Rattle.va_serve.specs.Showing.{ShowsLines, ShowsUntil}
use Rattle.va_serve.specs.Session.{AreSecure, InEach, Securely, Sitting, IsAt}
use Rattle.va_serve.specs.declared.status.Status.{Status}
use Rattle.va_serve.specs.declared.status.Status.TheVariants as statuses

module _ {D : Type 0} (g : Ghosts D) where
  -- a line was run from this state, and its reply given
  pub record SteppedFrom (start : State) (line : Line) (sitting : Sitting) (old new : D) : Type 0 where
    pub reply : Reply
    pub end : State
    pub replied : Replied g start line reply old new end
    pub at : IsAt end sitting (g.image new)

  -- the vectors that were read for a line, by its reply
  pub record ReadFrom (start : State) (line : Line) (old new : D) : Type 0 where
    pub reply : Reply
    pub read : ReadLine g start line reply old new

  -- once the reply to a line was given, the outcomes are secure for the state that it leads to
  pub record SettledFrom (start : State) (line : Line) (sitting : Sitting) (old new : D) : Type 0 where
    pub reply : Reply
    pub gave : GaveReply g start line reply old new
    pub secure : AreSecure (step start line (wants_memory reply)).state sitting (g.may_leave new)

  -- In each state that the session may be at: a line is run,
  pub record Steps (line : Line) (sitting sitting' : Sitting) (old new : D) : Type 0 where
    pub from : InEach g sitting old (λ start. SteppedFrom start line sitting' old new)

  -- the reads of vectors are those of its reply,
  pub record StepReads (line : Line) (sitting : Sitting) (old new : D) : Type 0 where
    pub from : InEach g sitting old (λ start. ReadFrom start line old new)

  -- and a crash behind it leaves what it leads to;
  pub record StepSettles (line : Line) (sitting sitting' : Sitting) (old new : D) : Type 0 where
    pub from : Securely g sitting old (λ start. SettledFrom start line sitting' old new)

  -- or it fails,
  pub record LineFails (status : Status) (line : Line) (sitting : Sitting) (old new : D) : Type 0 where
    pub from : InEach g sitting old (λ start. FailsBy g status start line old new)

  -- with the first of its reads;
  pub record FailReads (line : Line) (sitting : Sitting) (old new : D) : Type 0 where
    pub from : InEach g sitting old (λ start. UnreadLine g start line old new)

  -- and the crash sentence holds over it.
  pub record StepLasts (line : Line) (sitting : Sitting) (old new : D) : Type 0 where
    pub from : Securely g sitting old (λ start. Leaves g.clock g.left_since old new (StepLeaves start line (g.given old)))

  -- What is at fault in the store where a line ends the run for it.
  abbrev pub LineShows : Status → Line → Sitting → Sitting → D → D → Type 0
  LineShows (statuses.Mismatch place dist low high) line sitting sitting' old new = FindsOutside g (asked_in line) sitting old new place dist low high
  LineShows (statuses.Changed place) line sitting sitting' old new = MeetsChanged g (asked_in line) sitting sitting' old new place
  LineShows statuses.Done line sitting sitting' old new = Unit {0}
  LineShows statuses.Usage line sitting sitting' old new = Unit {0}
  LineShows statuses.ReadFault line sitting sitting' old new = Unit {0}
  LineShows statuses.WriteFault line sitting sitting' old new = Unit {0}
  LineShows statuses.DiskFault line sitting sitting' old new = Unit {0}
  LineShows (statuses.Store why) line sitting sitting' old new = Unit {0}
  LineShows statuses.Memory line sitting sitting' old new = Unit {0}
  LineShows statuses.TooLong line sitting sitting' old new = Unit {0}

  -- where the outcomes were secure for the one state, they now are for the other
  abbrev pub Secures : State → State → Sitting → Sitting → D → D → Type 0
  Secures start end sitting sitting' old new = g.honest → AreSecure start sitting (g.may_leave old) → AreSecure end sitting' (g.may_leave new)

  -- Lines were run from this state, and their replies given: what is said of the state, of the reads and of crashes, over
  -- the same replies.
  pub record ServedFrom (start : State) (lines : List Line) (sitting sitting' : Sitting) (old new : D) : Type 0 where
    pub replies : List Reply
    pub end : State
    pub served : Served g start lines replies old new end
    pub read : ReadLines g start lines replies old new
    pub secures : Secures start end sitting sitting' old new
    pub at : IsAt end sitting' (g.image new)

  -- lines were run from this state until one failed with this status
  pub record StoppedFrom (status : Status) (start : State) (lines : List Line) (old new : D) : Type 0 where
    pub replies : List Reply
    pub stopped : StoppedLines g (FailsBy g status) start lines replies old new
    pub read : StoppedReads g start lines replies old new

  -- In each state that the session may be at: the lines are served, which shows on every disk that tells,
  pub record Serves (lines : List Line) (sitting sitting' : Sitting) (old new : D) : Type 0 where
    pub from : InEach g sitting old (λ start. ServedFrom start lines sitting sitting' old new)
    pub shown : g.told → ShowsLines g lines old new

  -- or one of them ends the run,
  pub record Stops (status : Status) (lines : List Line) (sitting : Sitting) (old new : D) : Type 0 where
    pub from : InEach g sitting old (λ start. StoppedFrom status start lines old new)
    pub shown : g.told → ShowsUntil g status lines old new

  -- and the crash sentence holds over them.
  pub record Lasts (lines : List Line) (sitting : Sitting) (old new : D) : Type 0 where
    pub from : Securely g sitting old (λ start. Leaves g.clock g.left_since old new (RunLeaves start (g.given old) lines))

-- the line that the end of the input ends: one that has a byte
abbrev pub line_left : Line → List Line
line_left long = long ∷ []
line_left (text []) = []
line_left (text (b ∷ bytes)) = text (b ∷ bytes) ∷ []
