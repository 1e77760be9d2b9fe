-- How a whole run ends: its opening, and the run over the lines behind it.
use Rattle.std.specs.Prelude.{◌≡◌, ◌≢◌, ◌⊎◌, ◌<◌, ◌≤◌, ℕ, List, length, min}
use Rattle.va_csv.specs.Lines.{lines_of}
use Rattle.va_disk.specs.Causes.{Rose}
use Rattle.va_disk.specs.Frames.{OnlyReads, SinceStart}
use Rattle.va_disk.specs.declared.storage.Storage.{Ghosts}
use Rattle.va_disk.specs.declared.source.Source.{Ghosts as Source}
use Rattle.va_model.specs.Crashes.{RunLeaves}
use Rattle.va_model.specs.Ends.{AreTaken, Cut, at_newlines, once_taken}
use Rattle.va_model.specs.Lines.{Line}
use Rattle.va_model.specs.State.{Begins, State}
use Rattle.va_serve.specs.Course.{Account, Caused, EndedBy, LeavesOver, Took, reading, replying}
use Rattle.va_serve.specs.Failing.{IsOfFile, Later, MayNotStart}
use Rattle.va_serve.specs.Importing.{IsCutShort}
use Rattle.va_serve.specs.Session.{OfEachStart}
use Rattle.va_serve.specs.Showing.{ShowsRun}
use Rattle.va_serve.specs.declared.status.Status.{Status}
use Rattle.va_serve.specs.declared.status.Status.TheVariants as statuses
use Rattle.va_store.specs.Image.{IsFault, front_of}
use Rattle.va_store.specs.declared.faults.OpenFault.{OpenFault}
use Rattle.va_store.specs.declared.faults.OpenFault.TheVariants as faults
use Rattle.va_store.specs.Openings.{ReadsUpTo}

-- the statuses of a run that did not come to its lines, the disk's faults aside
abbrev pub IsUnopened : Status → Type 0
IsUnopened statuses.Done = ⊥
IsUnopened statuses.Usage = Unit {0}
IsUnopened statuses.ReadFault = ⊥
IsUnopened statuses.WriteFault = ⊥
IsUnopened statuses.DiskFault = ⊥
IsUnopened (statuses.Store fault) = Unit {0}
IsUnopened (statuses.Mismatch place dist low high) = ⊥
IsUnopened (statuses.Changed place) = ⊥
IsUnopened statuses.Memory = Unit {0}
IsUnopened statuses.TooLong = ⊥

-- the statuses of a run on a file with this fault
abbrev pub IsRefusalOf : OpenFault → Status → Type 0
IsRefusalOf fault status = (status ≡ statuses.Store fault) ⊎ ((status ≡ statuses.DiskFault) ⊎ (status ≡ statuses.Memory))

-- The store was opened, which only read, and none of its vectors. What it left is where the run behind it began, of which
-- this holds.
pub record OpenedStore {D : Type 0} (g : Ghosts D) (desk : D) (Ran : D → Type 0) : Type 0 where
  pub mid : D
  pub frame : OnlyReads g desk mid
  pub front : ReadsUpTo (front_of (g.image desk)) (g.reads desk) (g.reads mid)
  pub ran : Ran mid

module _ {D S : Type 0} (g : Ghosts D) (s : Source S) where
  -- The desk was at most read: each outcome since then is one of then. Nothing was taken, but where memory is wanting.
  pub record Untouched (status : Status) (source source' : S) (desk desk' : D) : Type 0 where
    pub left : (status ≡ statuses.Memory → ⊥) → s.left source' ≡ s.left source
    pub frame : OnlyReads g desk desk'

  -- the run ended before its lines, and the opening read no vector
  pub record Unopened (status : Status) (source source' : S) (desk desk' : D) : Type 0 where
    pub untouched : Untouched status source source' desk desk'
    pub front : ReadsUpTo (front_of (g.image desk)) (g.reads desk) (g.reads desk')

  -- What an account says of a run that began in this state, by its status, over the lines of the bytes that were taken.
  abbrev pub RanTo : Account D → Cut → Status → State → List ℕ → S → S → D → D → Type 0
  RanTo account cut statuses.Done start bytes source source' desk desk' =
      OpenedStore g desk (λ mid. EndedBy account cut statuses.Done s.told start bytes (s.left source') mid desk')
  RanTo account cut statuses.Usage start bytes source source' desk desk' = Untouched statuses.Usage source source' desk desk'
  RanTo account cut statuses.ReadFault start bytes source source' desk desk' =
      OpenedStore g desk (λ mid. EndedBy account cut statuses.ReadFault s.told start bytes (s.left source') mid desk')
  RanTo account cut statuses.WriteFault start bytes source source' desk desk' =
      OpenedStore g desk (λ mid. EndedBy account cut statuses.WriteFault s.told start bytes (s.left source') mid desk')
  -- the disk failed in a line, or in the opening
  RanTo account cut statuses.DiskFault start bytes source source' desk desk' =
      OpenedStore g desk (λ mid. EndedBy account cut statuses.DiskFault s.told start bytes (s.left source') mid desk')
      ⊎ Unopened statuses.DiskFault source source' desk desk'
  RanTo account cut (statuses.Store fault) start bytes source source' desk desk' = ⊥
  RanTo account cut (statuses.Mismatch place dist low high) start bytes source source' desk desk' = ⊥
  RanTo account cut (statuses.Changed place) start bytes source source' desk desk' = ⊥
  RanTo account cut statuses.Memory start bytes source source' desk desk' = Unopened statuses.Memory source source' desk desk'
  RanTo account cut statuses.TooLong start bytes source source' desk desk' =
      OpenedStore g desk (λ mid. EndedBy account cut statuses.TooLong s.told start bytes (s.left source') mid desk')

  -- A file that isn't blank and has a fault is refused for it, where no call fails and memory isn't wanting. It is left
  -- alone, and none of its vectors is read.
  abbrev pub Faulty : S → S → D → D → Status → Type 0
  Faulty source source' desk desk' status =
      g.told → (fault : OpenFault) → IsFault (g.image desk) fault → fault ≢ faults.Blank → IsRefusalOf fault status × Unopened status source source' desk desk'

  -- a file that is no store is refused for its first fault, which nothing else is
  pub record JudgesFile (source source' : S) (desk desk' : D) (status : Status) : Type 0 where
    pub store : g.told → (fault : OpenFault) → status ≡ statuses.Store fault → IsFault (g.image desk) fault
    pub kinds : (fault : OpenFault) → status ≡ statuses.Store fault → IsOfFile (g.size desk) fault
    pub faulty : Faulty source source' desk desk' status

  -- Each outcome of a crash is one of the start, or what the crash sentence says over the lines of the bytes that were taken.
  abbrev pub PlainlyOver : Cut → State → List ℕ → S → D → D → Type 0
  PlainlyOver cut start bytes source' desk desk' =
      (all : List Line) × AreTaken cut s.told bytes (s.left source') all × SinceStart g desk desk' (RunLeaves start (g.given desk) all)

  -- What a run over the store of a desk owes, with a limit, from its opening on, as the bytes are cut into lines.
  pub record RanStore (cut : Cut) (limit : ℕ) (source source' : S) (desk desk' : D) (status : Status) : Type 0 where
    pub worded : status ≢ statuses.Usage
    -- how much was taken, whatever the disk tells
    pub bytes : List ℕ
    pub took : Took s.told status limit bytes (s.left source) (s.left source')
    -- From a file that is blank or stands: the bytes given are the replies to the lines, however they were cut into
    -- pieces, all of them where the run is done, and else as the table says.
    pub replied : OfEachStart g desk (λ start. RanTo (replying g) cut status start bytes source source' desk desk')
    -- And the vectors that were read are those of the replies that were given, in their order; opening reads none.
    pub read : OfEachStart g desk (λ start. RanTo (reading g) cut status start bytes source source' desk desk')
    -- A crash at any moment leaves what the replies that were given by then say.
    pub crash : g.honest → OfEachStart g desk (λ start. LeavesOver g cut s.told start bytes (s.left source') desk desk')
    -- On every disk that tells its bytes the run ended in the opening, or its lines show: a mismatch exactly where the distance of
    -- a vector that was read lies outside the bounds of its stored cell, and bytes that change in no line but one that writes.
    pub shown : g.told → (MayNotStart (g.size desk) status × Unopened status source source' desk desk')
        ⊎ OpenedStore g desk (λ mid. ShowsRun g cut s.told bytes (s.left source') status mid desk')
    pub file : JudgesFile source source' desk desk' status
    -- a run that doesn't come to its lines leaves all as it was, and reads no vector
    pub untouched : IsUnopened status → Untouched status source source' desk desk'
    pub unread : IsUnopened status → g.told → ReadsUpTo (front_of (g.image desk)) (g.reads desk) (g.reads desk')
    -- a fault only where the object that failed counted it, no fault is passed over, and no count falls
    pub cause : Caused g s status source source' desk desk'
    pub source_later : s.faults source ≤ s.faults source'
    pub later : Later g desk desk'

  -- What a run over the input of a source owes, as its bytes are cut into lines.
  pub record RanInput (cut : Cut) (limit : ℕ) (source source' : S) (desk desk' : D) (status : Status) : Type 0 where
    pub ran : RanStore cut limit source source' desk desk' status
    -- a longer input is never done
    pub beyond : s.told → limit < length (s.left source) → status ≢ statuses.Done
    -- where nothing fails and the input isn't too long, the run is done or finds no memory at its start
    pub complete : s.told → g.told → (start : State) → Begins start (g.image desk) → length (s.left source) ≤ limit
        → ¬ Rose (s.faults source) (s.faults source') → ¬ Rose (g.sink_faults desk) (g.sink_faults desk') → ¬ Rose (g.faults desk) (g.faults desk')
        → (status ≡ statuses.Done) ⊎ (status ≡ statuses.Memory)
    -- each outcome of a crash since the start is one that the start might leave, or one that the crash sentence says
    pub plainly : g.honest → OfEachStart g desk (λ start. PlainlyOver cut start ran.bytes source' desk desk')

  -- What a plain run owes: its lines end at newlines, and nothing was taken where memory is wanting.
  pub record RanPlain (limit : ℕ) (source source' : S) (desk desk' : D) (status : Status) : Type 0 where
    pub input : RanInput at_newlines limit source source' desk desk' status
    pub sparing : status ≡ statuses.Memory → s.left source' ≡ s.left source

  -- What a run over CSV owes: its lines are those that insert the records of the whole text. Where the text couldn't be
  -- taken whole none of them was run.
  pub record RanCsv (limit : ℕ) (source source' : S) (desk desk' : D) (status : Status) : Type 0 where
    pub input : RanInput (once_taken lines_of) (min limit 67108864) source source' desk desk' status
    pub unrun : IsCutShort status → OnlyReads g desk desk'
