-- What a run of the script for a number owes, from its opening on.
use Rattle.std.specs.Prelude.{◌≡◌, ◌≢◌, ◌⊎◌, ℕ, List, [], ◌++◌}
use Rattle.va_disk.specs.Causes.{Rose}
use Rattle.va_disk.specs.Crashes.{Leaves}
use Rattle.va_disk.specs.Frames.{OnlyGives, SinceStart}
use Rattle.va_disk.specs.Told.{Gives, GivesPart, IsPrefix, IsProperPrefix}
use Rattle.va_disk.specs.declared.storage.Storage.{Ghosts}
use Rattle.va_lang.specs.Reply.{error, reply_line}
use Rattle.va_lang.specs.declared.reply.Why.TheVariants.{Exists}
use Rattle.va_layout.specs.Stands.{Kept, Opens}
use Rattle.va_model.specs.Silent.{RanSilently, StandsAlong, StoppedSilently, led_to}
use Rattle.va_model.specs.State.{State, StandsFor}
use Rattle.va_serve.specs.Failing.{CountsStay, Later, Rises}
use Rattle.va_serve.specs.Session.{InEach, OfEachStart, Securely, Sitting}
use Rattle.va_serve.specs.Unfed.{OpenedTo, RefusesFile}
use Rattle.va_serve.specs.Working.{FailsSilently, given_for_work, work_lines}
use Rattle.va_serve.specs.declared.status.Status.{Status}
use Rattle.va_serve.specs.declared.status.Status.TheVariants as statuses

-- A crash in a run of the script for n: the image is that of the state after some of its lines, and of the one reply a part was given;
-- a part with a byte only once all lines were run.
pub record WorkLeaves (n : ℕ) (start : State) (old image given : List ℕ) : Type 0 where
  pub stands : StandsAlong start (work_lines start n) image
  pub part : List ℕ
  pub begins : IsPrefix part (reply_line (given_for_work start n))
  pub given_is : given ≡ old ++ part
  pub done : part ≢ [] → StandsFor (led_to start (work_lines start n)) image

module _ {D : Type 0} (g : Ghosts D) where
  -- The lines of the script for n were run silently, and of the one reply this was given.
  pub record Works (IsPart : List ℕ → List ℕ → Type 0) (n : ℕ) (start : State) (old new : D) : Type 0 where
    pub mid : D
    pub end : State
    pub ran : RanSilently g start (work_lines start n) old mid end
    pub part : List ℕ
    pub is_part : IsPart part (reply_line (given_for_work start n))
    pub given : g.given new ≡ g.given mid ++ part
    pub image : g.image new ≡ g.image mid
    pub reads : g.reads new ≡ g.reads mid

  -- What was worked from a state, by the status. No other status comes of it.
  abbrev pub WorksTo : ℕ → Status → State → D → D → Type 0
  WorksTo n statuses.Done start old new = Works (λ part whole. part ≡ whole) n start old new
  WorksTo n statuses.WriteFault start old new = Works IsProperPrefix n start old new
  WorksTo n statuses.DiskFault start old new = StoppedSilently g (FailsSilently g statuses.DiskFault) start (work_lines start n) old new
  WorksTo n statuses.Memory start old new = StoppedSilently g (FailsSilently g statuses.Memory) start (work_lines start n) old new
  WorksTo n statuses.Usage start old new = ⊥
  WorksTo n statuses.ReadFault start old new = ⊥
  WorksTo n (statuses.Store why) start old new = ⊥
  WorksTo n (statuses.Mismatch place dist low high) start old new = ⊥
  WorksTo n (statuses.Changed place) start old new = ⊥
  WorksTo n statuses.TooLong start old new = ⊥

  -- the whole text was given, or a part of it where giving failed
  abbrev pub GivesText : Status → List ℕ → D → D → Type 0
  GivesText statuses.Done text old new = Gives g.told (g.given old) text (g.given new)
  GivesText statuses.WriteFault text old new = GivesPart g.told (g.given old) text (g.given new)
  GivesText statuses.Usage text old new = ⊥
  GivesText statuses.ReadFault text old new = ⊥
  GivesText statuses.DiskFault text old new = ⊥
  GivesText (statuses.Store why) text old new = ⊥
  GivesText (statuses.Mismatch place dist low high) text old new = ⊥
  GivesText (statuses.Changed place) text old new = ⊥
  GivesText statuses.Memory text old new = ⊥
  GivesText statuses.TooLong text old new = ⊥

  -- where there is a store that is told, and nothing else done
  pub record TellsStore (status : Status) (old new : D) : Type 0 where
    pub tells : GivesText status (reply_line (error Exists)) old new
    pub frame : OnlyGives g (reply_line (error Exists)) old new

  -- In each state that the session may be at: the script was worked,
  pub record WorksIn (n : ℕ) (status : Status) (sitting : Sitting) (old new : D) : Type 0 where
    pub from : InEach g sitting old (λ start. WorksTo n status start old new)

  -- a crash in it leaves the image of some of its lines,
  pub record WorkLasts (n : ℕ) (sitting : Sitting) (old new : D) : Type 0 where
    pub from : Securely g sitting old (λ start. Leaves g.clock g.left_since old new (WorkLeaves n start (g.given old)))

  -- and a crash behind it that of all of them.
  pub record WorkSettles (n : ℕ) (sitting : Sitting) (old new : D) : Type 0 where
    pub from : Securely g sitting old (λ start. (image : List ℕ) → g.may_leave new image → StandsFor (led_to start (work_lines start n)) image)

  -- The count of what failed rose, and the other stayed; where nothing failed both did. No other status comes behind the opening.
  abbrev pub WorkCaused : Status → D → D → Type 0
  WorkCaused statuses.Done old new = CountsStay g old new
  WorkCaused statuses.WriteFault old new = Rises g statuses.WriteFault old new
  WorkCaused statuses.DiskFault old new = Rises g statuses.DiskFault old new
  WorkCaused statuses.Memory old new = CountsStay g old new
  WorkCaused (statuses.Store why) old new = ⊥
  WorkCaused (statuses.Mismatch place dist low high) old new = Rises g (statuses.Mismatch place dist low high) old new
  WorkCaused (statuses.Changed place) old new = Rises g (statuses.Changed place) old new
  WorkCaused statuses.Usage old new = ⊥
  WorkCaused statuses.ReadFault old new = ⊥
  WorkCaused statuses.TooLong old new = ⊥

  -- the same of the whole run, which the file may end in its opening
  abbrev pub WorkRunCaused : Status → D → D → Type 0
  WorkRunCaused statuses.Done old new = CountsStay g old new
  WorkRunCaused statuses.WriteFault old new = Rises g statuses.WriteFault old new
  WorkRunCaused statuses.DiskFault old new = Rises g statuses.DiskFault old new
  WorkRunCaused statuses.Memory old new = CountsStay g old new
  WorkRunCaused (statuses.Store why) old new = CountsStay g old new
  WorkRunCaused (statuses.Mismatch place dist low high) old new = Rises g (statuses.Mismatch place dist low high) old new
  WorkRunCaused (statuses.Changed place) old new = Rises g (statuses.Changed place) old new
  WorkRunCaused statuses.Usage old new = ⊥
  WorkRunCaused statuses.ReadFault old new = ⊥
  WorkRunCaused statuses.TooLong old new = ⊥

  pub record RanWork (n : ℕ) (desk desk' : D) (status : Status) : Type 0 where
    -- From a file that is blank or stands: the script was worked, and its one reply given where the run is done.
    pub worked : OfEachStart g desk (λ start. OpenedTo g status desk desk' (λ mid. WorksTo n status start mid desk'))
    -- from any file that opens: that there is a store
    pub there : g.told → (kept : Kept) → Opens kept (g.image desk) → OpenedTo g status desk desk' (λ mid. TellsStore status mid desk')
    -- a crash at any moment leaves the image of some of the lines, and each outcome since the start is one that the start might leave,
    -- or such a one
    pub crash : g.honest → OfEachStart g desk (λ start. Leaves g.clock g.left_since desk desk' (WorkLeaves n start (g.given desk)))
    pub plainly : g.honest → OfEachStart g desk (λ start. SinceStart g desk desk' (WorkLeaves n start (g.given desk)))
    -- once it is done each outcome is that of all lines
    pub settled : status ≡ statuses.Done → g.honest → OfEachStart g desk (λ start. (image : List ℕ) → g.may_leave desk' image → StandsFor (led_to start (work_lines start n)) image)
    pub file : RefusesFile g desk desk' status
    -- a fault only where the object that failed counted it, no fault is passed over, and no count falls
    pub cause : WorkRunCaused status desk desk'
    pub later : Later g desk desk'
    -- where nothing fails, the run is done or finds no memory
    pub complete : OfEachStart g desk (λ start. ¬ Rose (g.sink_faults desk) (g.sink_faults desk') → ¬ Rose (g.faults desk) (g.faults desk') → (status ≡ statuses.Done) ⊎ (status ≡ statuses.Memory))
