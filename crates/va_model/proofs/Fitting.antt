-- Replies that fit their lines, and the reads for them, one list of lines after another.
use Rattle.std.proofs.Common.{◌≡◌, ℕ, List, [], ◌∷◌, ◌++◌, refl, sym}
use Rattle.va_lang.specs.Reply.{Reply}
use Rattle.va_model.specs.Least.{EachReadsLeast}
use Rattle.va_model.specs.Lines.{Line}
use Rattle.va_model.specs.Memory.{wants_memory}
use Rattle.va_model.specs.Runs.{after, AreReplies, LeaveState}
use Rattle.va_model.specs.State.{State}
use Rattle.va_model.specs.Step.{step}
use Rattle.va_model.specs.VectorReads.{ReadsFor}

pub fits_append : (start : State) (first next : List Line) (replies more : List Reply) → AreReplies start first replies → AreReplies (after start first replies) next more → AreReplies start (first ++ next) (replies ++ more)
fits_append start [] next [] more fits rest = rest
fits_append start [] next (reply ∷ replies) more fits rest = absurd fits
fits_append start (line ∷ first) next [] more fits rest = absurd fits
fits_append start (line ∷ first) next (reply ∷ replies) more fits rest =
    (fits.0, fits_append (step start line (wants_memory reply)).state first next replies more fits.1 rest)

pub after_append : (start : State) (first next : List Line) (replies more : List Reply) → AreReplies start first replies → after start (first ++ next) (replies ++ more) ≡ after (after start first replies) next more
after_append start [] next [] more fits = refl
after_append start [] next (reply ∷ replies) more fits = absurd fits
after_append start (line ∷ first) next [] more fits = absurd fits
after_append start (line ∷ first) next (reply ∷ replies) more fits = after_append (step start line (wants_memory reply)).state first next replies more fits.1

pub reads_append : (start : State) (first next : List Line) (replies more : List Reply) (old mid new : List (ℕ × ℕ)) → ReadsFor start first replies old mid → ReadsFor (after start first replies) next more mid new
    → ReadsFor start (first ++ next) (replies ++ more) old new
reads_append start [] next [] more old mid new same rest = rw (sym same) rest
reads_append start [] next (reply ∷ replies) more old mid new some rest = absurd some
reads_append start (line ∷ first) next [] more old mid new some rest = absurd some
reads_append start (line ∷ first) next (reply ∷ replies) more old mid new some rest =
    (some.0, some.1, reads_append (step start line (wants_memory reply)).state first next replies more some.0 mid new some.2 rest)

pub least_append : (start : State) (first next : List Line) (replies more : List Reply) → AreReplies start first replies → EachReadsLeast start first replies → EachReadsLeast (after start first replies) next more
    → EachReadsLeast start (first ++ next) (replies ++ more)
least_append start [] next [] more fits least rest = rest
least_append start [] next (reply ∷ replies) more fits least rest = absurd fits
least_append start (line ∷ first) next [] more fits least rest = absurd fits
least_append start (line ∷ first) next (reply ∷ replies) more fits least rest =
    (least.0, least_append (step start line (wants_memory reply)).state first next replies more fits.1 least.1 rest)

-- lines that leave the state: the first of them, and the rest
pub leave_first : (start : State) (first next : List Line) (replies more : List Reply) → AreReplies start first replies → LeaveState start (first ++ next) (replies ++ more) → LeaveState start first replies
leave_first start [] next [] more fits leave = tt
leave_first start [] next (reply ∷ replies) more fits leave = absurd fits
leave_first start (line ∷ first) next [] more fits leave = absurd fits
leave_first start (line ∷ first) next (reply ∷ replies) more fits leave = (leave.0, leave_first (step start line (wants_memory reply)).state first next replies more fits.1 leave.1)

pub leave_next : (start : State) (first next : List Line) (replies more : List Reply) → AreReplies start first replies → LeaveState start (first ++ next) (replies ++ more) → LeaveState (after start first replies) next more
leave_next start [] next [] more fits leave = leave
leave_next start [] next (reply ∷ replies) more fits leave = absurd fits
leave_next start (line ∷ first) next [] more fits leave = absurd fits
leave_next start (line ∷ first) next (reply ∷ replies) more fits leave = leave_next (step start line (wants_memory reply)).state first next replies more fits.1 leave.1
