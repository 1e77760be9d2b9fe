-- What a run of the script owes: lines that are run without giving their replies, and the reply with what they add up to.
use Rattle.std.specs.Prelude.{◌≡◌, ℕ, List, [], map, min}
use Rattle.va_disk.specs.Crashes.{Leaves}
use Rattle.va_disk.specs.declared.storage.Storage.{Ghosts}
use Rattle.va_lang.specs.Reply.{Reply, error}
use Rattle.va_lang.specs.declared.reply.Why.TheVariants.{Exists}
use Rattle.va_model.specs.Lines.{Line, line_of}
use Rattle.va_model.specs.Silent.{AreLittle, LosesLine, RanSilently, SilentlyLeaves, Starves, StoppedSilently, Sums, nearest_lines, plus, replies_to, sums_of, work_reply}
use Rattle.va_model.specs.State.{State, blank, holding}
use Rattle.va_script.specs.Script.{script}
use Rattle.va_serve.specs.Failing.{CountsStay, Rises}
use Rattle.va_serve.specs.Progress.{Secures}
use Rattle.va_serve.specs.Session.{InEach, IsAt, Securely, Sitting}
use Rattle.va_serve.specs.declared.status.Status.{Status}
use Rattle.va_serve.specs.declared.status.Status.TheVariants as statuses

-- a number stays at the most that 64 bits hold
abbrev pub capped_number : ℕ → ℕ
capped_number number = min number 18446744073709551615

abbrev pub capped : Sums → Sums
capped sums = record { fetched = capped_number sums.fetched; candidates = capped_number sums.candidates; distances = capped_number sums.distances }

-- the sums with more of them
abbrev pub adding : Sums → Sums → Sums
adding sums more = capped (plus sums more)

module _ {D : Type 0} (g : Ghosts D) where
  -- Lines were run silently from this state: what is said of the state, of the reads and of crashes.
  pub record SilentFrom (start : State) (lines : List Line) (sitting sitting' : Sitting) (old new : D) : Type 0 where
    pub end : State
    pub ran : RanSilently g start lines old new end
    pub secures : Secures g start end sitting sitting' old new
    pub at : IsAt end sitting' (g.image new)

  -- how a line fails, by the status
  abbrev pub FailsSilently : Status → State → Line → D → D → Type 0
  FailsSilently statuses.DiskFault start line old new = LosesLine g start line old new
  FailsSilently statuses.Memory start line old new = Starves g start line old new
  FailsSilently statuses.Done start line old new = ⊥
  FailsSilently statuses.Usage start line old new = ⊥
  FailsSilently statuses.ReadFault start line old new = ⊥
  FailsSilently statuses.WriteFault start line old new = ⊥
  FailsSilently (statuses.Store why) start line old new = ⊥
  FailsSilently (statuses.Mismatch place dist low high) start line old new = ⊥
  FailsSilently (statuses.Changed place) start line old new = ⊥
  FailsSilently statuses.TooLong start line old new = ⊥

  -- In each state that the session may be at: lines are run silently,
  pub record RunsSilently (lines : List Line) (sitting sitting' : Sitting) (old new : D) : Type 0 where
    pub from : InEach g sitting old (λ start. SilentFrom start lines sitting sitting' old new)

  -- with what their replies add up to, which is little for each search,
  pub record AddsUp (lines : List Line) (sitting : Sitting) (old : D) (before after : Sums) : Type 0 where
    pub from : InEach g sitting old (λ start. after ≡ adding before (sums_of (replies_to start lines)))
    pub few : InEach g sitting old (λ start. AreLittle (nearest_lines lines) (sums_of (replies_to start lines)))

  -- or one of them ends the run,
  pub record StopsSilently (status : Status) (lines : List Line) (sitting : Sitting) (old new : D) : Type 0 where
    pub from : InEach g sitting old (λ start. StoppedSilently g (FailsSilently status) start lines old new)

  -- and a crash leaves the image of some of them.
  pub record LastsSilently (lines : List Line) (sitting : Sitting) (old new : D) : Type 0 where
    pub from : Securely g sitting old (λ start. Leaves g.clock g.left_since old new (SilentlyLeaves start (g.given old) lines))

  -- why a run of lines ends before its end: what failed has its count, and where memory is wanting no call failed
  abbrev pub Hinders : Status → D → D → Type 0
  Hinders statuses.Memory old new = CountsStay g old new
  Hinders statuses.DiskFault old new = Rises g statuses.DiskFault old new
  Hinders (statuses.Mismatch place dist low high) old new = Rises g (statuses.Mismatch place dist low high) old new
  Hinders (statuses.Changed place) old new = Rises g (statuses.Changed place) old new
  Hinders statuses.Done old new = ⊥
  Hinders statuses.Usage old new = ⊥
  Hinders statuses.ReadFault old new = ⊥
  Hinders statuses.WriteFault old new = ⊥
  Hinders (statuses.Store why) old new = ⊥
  Hinders statuses.TooLong old new = ⊥

-- the lines of the script for n, which are run where there is no store
abbrev pub work_lines : State → ℕ → List Line
work_lines blank n = map line_of (script n)
work_lines (holding store) n = []

-- the one reply that is given: what the searches of the script add up to, or that there is a store
abbrev pub given_for_work : State → ℕ → Reply
given_for_work blank n = work_reply n (sums_of (replies_to blank (work_lines blank n)))
given_for_work (holding store) n = error Exists
