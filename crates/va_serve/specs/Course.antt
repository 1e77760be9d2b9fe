-- How a run over an input ends, by its status.
use Rattle.std.specs.Prelude.{◌≡◌, ◌↔◌, ◌≤◌, ◌++◌, ℕ, List, length}
use Rattle.va_disk.specs.Causes.{Rose}
use Rattle.va_disk.specs.Crashes.{Leaves}
use Rattle.va_disk.specs.Told.{IsAtEnd, Takes}
use Rattle.va_disk.specs.declared.storage.Storage.{Ghosts}
use Rattle.va_disk.specs.declared.source.Source.{Ghosts as Source}
use Rattle.va_lang.specs.Reply.{Reply}
use Rattle.va_model.specs.Crashes.{RunLeaves}
use Rattle.va_model.specs.Ends.{AreTaken, Cut}
use Rattle.va_model.specs.Lines.{Line}
use Rattle.va_model.specs.Runs.{ReadLines, Served, StoppedLines, StoppedReads}
use Rattle.va_model.specs.State.{State}
use Rattle.va_search.specs.Cells.{IsOutside}
use Rattle.va_serve.specs.Failing.{CountsStay, FailsBy, Later, Rises}
use Rattle.va_serve.specs.Session.{InEach, Securely, Sitting}
use Rattle.va_serve.specs.Showing.{ShowsRun}
use Rattle.va_serve.specs.declared.status.Status.{Status}
use Rattle.va_serve.specs.declared.status.Status.TheVariants as statuses

-- These bytes of an input were taken, at most as many as the limit: all of it where the run is done. One more was taken
-- exactly where it is too long, behind as many as the limit.
pub record Took (source : Type 0) (status : Status) (limit : ℕ) (bytes input left : List ℕ) : Type 0 where
  pub more : List ℕ
  pub takes : Takes source input (bytes ++ more) left
  pub fits : length bytes ≤ limit
  pub end : status ≡ statuses.Done → IsAtEnd source left
  pub most : length more ≤ 1
  pub beyond : (status ≡ statuses.TooLong) ↔ (length more ≡ 1)
  pub full : length more ≡ 1 → length bytes ≡ limit

-- the statuses of a run that came to its lines
abbrev pub IsOfLines : Status → Type 0
IsOfLines statuses.Done = Unit {0}
IsOfLines statuses.Usage = ⊥
IsOfLines statuses.ReadFault = Unit {0}
IsOfLines statuses.WriteFault = Unit {0}
IsOfLines statuses.DiskFault = Unit {0}
IsOfLines (statuses.Store why) = ⊥
IsOfLines (statuses.Mismatch place dist low high) = Unit {0}
IsOfLines (statuses.Changed place) = Unit {0}
IsOfLines statuses.Memory = ⊥
IsOfLines statuses.TooLong = Unit {0}

-- What is said of lines that were run, and of lines of which one failed with a status.
pub record Account (D : Type 0) : Type 1 where
  pub Done : State → List Line → D → D → Type 0
  pub Until : Status → State → List Line → D → D → Type 0

module _ {D : Type 0} (g : Ghosts D) where
  -- the lines have these replies
  pub record RepliedTo (start : State) (lines : List Line) (old new : D) : Type 0 where
    pub replies : List Reply
    pub end : State
    pub served : Served g start lines replies old new end

  pub record RepliedUntil (status : Status) (start : State) (lines : List Line) (old new : D) : Type 0 where
    pub replies : List Reply
    pub stopped : StoppedLines g (FailsBy g status) start lines replies old new

  -- which vectors were read for the lines, by the replies that were given
  pub record ReadFor (start : State) (lines : List Line) (old new : D) : Type 0 where
    pub replies : List Reply
    pub read : ReadLines g start lines replies old new

  pub record ReadUntil (start : State) (lines : List Line) (old new : D) : Type 0 where
    pub replies : List Reply
    pub read : StoppedReads g start lines replies old new

  -- the account of the replies and the state, and that of the reads
  abbrev pub replying : Account D
  replying = record { Done = RepliedTo; Until = RepliedUntil }

  abbrev pub reading : Account D
  reading = record { Done = ReadFor; Until = λ status. ReadUntil }

-- What an account says of a run over the lines of the bytes that were taken, by its status.
abbrev pub EndedBy : {D : Type 0} → Account D → Cut → Status → Type 0 → State → List ℕ → List ℕ → D → D → Type 0
EndedBy account cut statuses.Done source start bytes left old new = account.Done start (cut.whole bytes) old new
EndedBy account cut statuses.Usage source start bytes left old new = ⊥
EndedBy account cut statuses.ReadFault source start bytes left old new = account.Done start (cut.ended bytes) old new
EndedBy account cut statuses.WriteFault source start bytes left old new =
    (all : List Line) × AreTaken cut source bytes left all × account.Until statuses.WriteFault start all old new
EndedBy account cut statuses.DiskFault source start bytes left old new =
    (all : List Line) × AreTaken cut source bytes left all × account.Until statuses.DiskFault start all old new
EndedBy account cut (statuses.Store why) source start bytes left old new = ⊥
EndedBy account cut (statuses.Mismatch place dist low high) source start bytes left old new = ⊥
EndedBy account cut (statuses.Changed place) source start bytes left old new = ⊥
EndedBy account cut statuses.Memory source start bytes left old new = ⊥
EndedBy account cut statuses.TooLong source start bytes left old new = account.Done start (cut.ended bytes) old new

-- the crash sentence over these lines
abbrev pub LeavesOver : {D : Type 0} → Ghosts D → Cut → Type 0 → State → List ℕ → List ℕ → D → D → Type 0
LeavesOver g cut source start bytes left old new =
    (all : List Line) × AreTaken cut source bytes left all × Leaves g.clock g.left_since old new (RunLeaves start (g.given old) all)

module _ {D S : Type 0} (g : Ghosts D) (s : Source S) where
  -- no call failed: each count stayed
  pub record AllStay (source source' : S) (desk desk' : D) : Type 0 where
    pub input : s.faults source' ≡ s.faults source
    pub output : CountsStay g desk desk'

  -- A fault of the source, the sink or the disk only where its count rose, and no other fault: the other counts stayed. A mismatch
  -- only where the distance lies outside the bounds, and a changed code never on a desk that tells its bytes.
  abbrev pub Caused : Status → S → S → D → D → Type 0
  Caused statuses.Done source source' desk desk' = AllStay source source' desk desk'
  Caused statuses.Usage source source' desk desk' = AllStay source source' desk desk'
  Caused statuses.ReadFault source source' desk desk' = Rose (s.faults source) (s.faults source') × CountsStay g desk desk'
  Caused statuses.WriteFault source source' desk desk' = (s.faults source' ≡ s.faults source) × Rises g statuses.WriteFault desk desk'
  Caused statuses.DiskFault source source' desk desk' = (s.faults source' ≡ s.faults source) × Rises g statuses.DiskFault desk desk'
  Caused (statuses.Store why) source source' desk desk' = AllStay source source' desk desk'
  Caused (statuses.Mismatch place dist low high) source source' desk desk' = AllStay source source' desk desk' × IsOutside dist low high
  Caused (statuses.Changed place) source source' desk desk' = AllStay source source' desk desk' × (g.told → ⊥)
  Caused statuses.Memory source source' desk desk' = AllStay source source' desk desk'
  Caused statuses.TooLong source source' desk desk' = AllStay source source' desk desk'

  module _ (cut : Cut) (bytes : List ℕ) (sitting : Sitting) (source' : S) (desk desk' : D) where
    -- In each state that the session may be at: what an account says,
    pub record RunEnds (account : Account D) (status : Status) : Type 0 where
      pub from : InEach g sitting desk (λ start. EndedBy account cut status s.told start bytes (s.left source') desk desk')

    -- and what a crash in it leaves.
    pub record LastsOver : Type 0 where
      pub from : Securely g sitting desk (λ start. LeavesOver g cut s.told start bytes (s.left source') desk desk')

  -- What a run over the lines of a source owes, as its bytes are cut into them.
  pub record RanLines (cut : Cut) (limit : ℕ) (sitting : Sitting) (source source' : S) (desk desk' : D) (status : Status) : Type 0 where
    pub kinds : IsOfLines status
    pub bytes : List ℕ
    pub took : Took s.told status limit bytes (s.left source) (s.left source')
    pub replied : RunEnds cut bytes sitting source' desk desk' (replying g) status
    pub read : RunEnds cut bytes sitting source' desk desk' (reading g) status
    pub crash : LastsOver cut bytes sitting source' desk desk'
    pub shown : g.told → ShowsRun g cut s.told bytes (s.left source') status desk desk'
    pub cause : Caused status source source' desk desk'
    pub source_later : s.faults source ≤ s.faults source'
    pub later : Later g desk desk'
