-- Why a line ends a run, and what was done for it.
use Rattle.std.specs.Prelude.{◌≡◌, ◌⊎◌, ◌<◌, ◌≤◌, ℕ, Bool, true, false, List}
use Rattle.va_disk.specs.Causes.{Rose}
use Rattle.va_disk.specs.declared.storage.Storage.{Ghosts}
use Rattle.va_layout.specs.declared.header.HeadFault.TheVariants as heads
use Rattle.va_model.specs.Lines.{Line}
use Rattle.va_model.specs.Runs.{Unsent, Unrun}
use Rattle.va_model.specs.State.{State}
use Rattle.va_search.specs.Cells.{IsOutside}
use Rattle.va_store.specs.Image.{IsFault}
use Rattle.va_store.specs.declared.faults.OpenFault.{OpenFault}
use Rattle.va_store.specs.declared.faults.OpenFault.TheVariants as faults
use Rattle.va_serve.specs.declared.status.Status.{Status}
use Rattle.va_serve.specs.declared.status.Status.TheVariants as statuses

-- Giving failed in the reply, or the disk failed and nothing of the reply was given. No other status ends a run in a line from
-- a state that the disk stands for.
abbrev pub FailsBy : {D : Type 0} → Ghosts D → Status → State → Line → D → D → Type 0
FailsBy g statuses.WriteFault start line old new = Unsent g start line old new
FailsBy g statuses.DiskFault start line old new = Unrun g start line old new
FailsBy g statuses.Done start line old new = ⊥
FailsBy g statuses.Usage start line old new = ⊥
FailsBy g statuses.ReadFault start line old new = ⊥
FailsBy g (statuses.Store why) start line old new = ⊥
FailsBy g (statuses.Mismatch place dist low high) start line old new = ⊥
FailsBy g (statuses.Changed place) start line old new = ⊥
FailsBy g statuses.Memory start line old new = ⊥
FailsBy g statuses.TooLong start line old new = ⊥

-- no call of a desk failed: its counts stayed
pub record CountsStay {D : Type 0} (g : Ghosts D) (old new : D) : Type 0 where
  pub disk : g.faults new ≡ g.faults old
  pub sink : g.sink_faults new ≡ g.sink_faults old

-- The count of the object that failed in a line rose, and the other count stayed. Where a distance lies outside its bounds, or a
-- code has changed, which it never has on a disk that tells its bytes, no call failed.
abbrev pub Rises : {D : Type 0} → Ghosts D → Status → D → D → Type 0
Rises g statuses.WriteFault old new = Rose (g.sink_faults old) (g.sink_faults new) × (g.faults new ≡ g.faults old)
Rises g statuses.DiskFault old new = Rose (g.faults old) (g.faults new) × (g.sink_faults new ≡ g.sink_faults old)
Rises g statuses.Done old new = ⊥
Rises g statuses.Usage old new = ⊥
Rises g statuses.ReadFault old new = ⊥
Rises g (statuses.Store why) old new = ⊥
Rises g (statuses.Mismatch place dist low high) old new = CountsStay g old new × IsOutside dist low high
Rises g (statuses.Changed place) old new = CountsStay g old new × (g.told → ⊥)
Rises g statuses.Memory old new = ⊥
Rises g statuses.TooLong old new = ⊥

-- no count of a desk falls
pub record Later {D : Type 0} (g : Ghosts D) (old new : D) : Type 0 where
  pub disk : g.faults old ≤ g.faults new
  pub sink : g.sink_faults old ≤ g.sink_faults new

-- why a session doesn't start: this is the first fault of the image, which isn't blank, or a call failed, or memory was wanting
abbrev pub StartFails : List ℕ → Status → Type 0
StartFails image statuses.DiskFault = Unit {0}
StartFails image statuses.Memory = Unit {0}
StartFails image (statuses.Store why) = IsFault image why × (why ≡ faults.Blank → ⊥)
StartFails image (statuses.Mismatch place dist low high) = ⊥
StartFails image (statuses.Changed place) = ⊥
StartFails image statuses.Done = ⊥
StartFails image statuses.Usage = ⊥
StartFails image statuses.ReadFault = ⊥
StartFails image statuses.WriteFault = ⊥
StartFails image statuses.TooLong = ⊥

-- a call failed, or memory was wanting
abbrev pub IsNoFault : Status → Type 0
IsNoFault status = (status ≡ statuses.DiskFault) ⊎ (status ≡ statuses.Memory)

-- the image has no fault, or that of being blank
abbrev pub IsBlankOrFaultless : List ℕ → Type 0
IsBlankOrFaultless image = (why : OpenFault) → IsFault image why → why ≡ faults.Blank

-- a fault of a file of this length: it is no store, and isn't blank
abbrev pub IsOfFile : ℕ → OpenFault → Type 0
IsOfFile size faults.Blank = ⊥
IsOfFile size (faults.Header heads.Blank) = ⊥
IsOfFile size (faults.Header heads.Magic) = Unit {0}
IsOfFile size (faults.Header (heads.Shape fault)) = Unit {0}
IsOfFile size (faults.Length need have) = (have ≡ size) × (have < need)
IsOfFile size (faults.Marks dim) = Unit {0}
IsOfFile size (faults.SameId earlier later) = Unit {0}
IsOfFile size (faults.Code place) = Unit {0}
IsOfFile size faults.Disk = ⊥
IsOfFile size faults.Memory = ⊥

-- the file is told to be blank
abbrev pub is_blank : OpenFault → Bool
is_blank faults.Blank = true
is_blank (faults.Header heads.Blank) = true
is_blank (faults.Header heads.Magic) = false
is_blank (faults.Header (heads.Shape fault)) = false
is_blank (faults.Length need have) = false
is_blank (faults.Marks dim) = false
is_blank (faults.SameId earlier later) = false
is_blank (faults.Code place) = false
is_blank faults.Disk = false
is_blank faults.Memory = false

-- with which status a session doesn't start for this fault
abbrev pub status_of : OpenFault → Status
status_of faults.Blank = statuses.Store faults.Blank
status_of (faults.Header fault) = statuses.Store (faults.Header fault)
status_of (faults.Length need have) = statuses.Store (faults.Length need have)
status_of (faults.Marks dim) = statuses.Store (faults.Marks dim)
status_of (faults.SameId earlier later) = statuses.Store (faults.SameId earlier later)
status_of (faults.Code place) = statuses.Store (faults.Code place)
status_of faults.Disk = statuses.DiskFault
status_of faults.Memory = statuses.Memory

-- the statuses with which a session doesn't start on a file of this length
abbrev pub MayNotStart : ℕ → Status → Type 0
MayNotStart size statuses.DiskFault = Unit {0}
MayNotStart size statuses.Memory = Unit {0}
MayNotStart size (statuses.Store why) = IsOfFile size why
MayNotStart size (statuses.Mismatch place dist low high) = ⊥
MayNotStart size (statuses.Changed place) = ⊥
MayNotStart size statuses.Done = ⊥
MayNotStart size statuses.Usage = ⊥
MayNotStart size statuses.ReadFault = ⊥
MayNotStart size statuses.WriteFault = ⊥
MayNotStart size statuses.TooLong = ⊥
