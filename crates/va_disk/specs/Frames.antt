-- What a call leaves of a disk, where g is all that contracts see of it.
use Rattle.std.specs.Prelude.{◌≡◌, ◌≤◌, ◌++◌, [], ◌∷◌, ℕ, List, Result, OnOk, OnErr, IsErrOf}
use Rattle.va_disk.specs.Causes.{Rose}
use Rattle.va_disk.specs.Crashes.{Elapses, Leaves, Only, OnlyStartOr}
use Rattle.va_disk.specs.Told.{GivesPrefix}
use Rattle.va_disk.specs.declared.storage.Storage.{Ghosts}

-- Time goes on by one call.
abbrev pub Goes : {D : Type 0} → Ghosts D → D → D → Type 0
Goes g old new = g.honest → Elapses (g.clock old) (g.clock new) (g.left_since old) (g.left_since new) (g.may_leave new) (g.given new)

-- Nothing is written or given, and at no moment may a crash leave what it could not have left at the start.
pub record OnlyReads {D : Type 0} (g : Ghosts D) (old new : D) : Type 0 where
  pub image : g.image new ≡ g.image old
  pub size : g.size new ≡ g.size old
  pub given : g.given new ≡ g.given old
  pub sink : g.sink_faults new ≡ g.sink_faults old
  pub later : g.faults old ≤ g.faults new
  pub crash : g.honest → (c : List ℕ) → g.may_leave new c → g.may_leave old c
  pub moments : g.honest → Leaves g.clock g.left_since old new (λ c given. ⊥)

-- Nothing is read or given. At each moment a crash leaves what it might have left at the start, or what has P.
pub record OnlyWrites {D : Type 0} (g : Ghosts D) (old new : D) (P : List ℕ → Type 0) : Type 0 where
  pub reads : g.reads new ≡ g.reads old
  pub given : g.given new ≡ g.given old
  pub sink : g.sink_faults new ≡ g.sink_faults old
  pub later : g.faults old ≤ g.faults new
  pub moments : g.honest → Leaves g.clock g.left_since old new (λ c given. P c × (given ≡ g.given old))

-- Nothing is read or written, and a prefix of the text is given at each moment.
pub record OnlyGives {D : Type 0} (g : Ghosts D) (text : List ℕ) (old new : D) : Type 0 where
  pub image : g.image new ≡ g.image old
  pub size : g.size new ≡ g.size old
  pub reads : g.reads new ≡ g.reads old
  pub faults : g.faults new ≡ g.faults old
  pub later : g.sink_faults old ≤ g.sink_faults new
  pub crash : g.honest → (c : List ℕ) → g.may_leave new c → g.may_leave old c
  pub moments : g.honest → g.told → Leaves g.clock g.left_since old new (λ c given. g.may_leave old c × GivesPrefix g.told (g.given old) text given)

-- one read, which counts where it succeeded
pub record ReadsOnce {D T E : Type 0} (g : Ghosts D) (old new : D) (at n : ℕ) (result : Result T E) : Type 0 where
  pub ok : OnOk result (g.told → g.reads new ≡ g.reads old ++ (at, n) ∷ [])
  pub err : OnErr result (g.reads new ≡ g.reads old)

-- No fault is passed over and none is made up: the count stayed where the call succeeded, and rose where it failed.
pub record CountsFaults {T E : Type 0} (before now : ℕ) (result : Result T E) : Type 0 where
  pub stayed : OnOk result (now ≡ before)
  pub rose : OnErr result (Rose before now)

abbrev pub DiskFails : {D T E : Type 0} → Ghosts D → D → D → Result T E → Type 0
DiskFails g old new result = CountsFaults (g.faults old) (g.faults new) result

abbrev pub SinkFails : {D T E : Type 0} → Ghosts D → D → D → Result T E → Type 0
SinkFails g old new result = CountsFaults (g.sink_faults old) (g.sink_faults new) result

-- The same of a call with several errors: this one says that the disk failed, and no other answer passes a fault over.
pub record DiskFailsAs {D T E : Type 0} (g : Ghosts D) (fault : E) (old new : D) (result : Result T E) : Type 0 where
  pub rose : IsErrOf result fault → Rose (g.faults old) (g.faults new)
  pub stayed : (IsErrOf result fault → ⊥) → g.faults new ≡ g.faults old

-- a crash now leaves what a read gives
abbrev pub IsStable : {D : Type 0} → Ghosts D → D → Type 0
IsStable g disk = g.honest → g.told → Only (g.image disk) (g.may_leave disk)

-- the same moments in plain words, where the start is the start of a run
abbrev pub SinceStart : {D : Type 0} → Ghosts D → D → D → (List ℕ → List ℕ → Type 0) → Type 0
SinceStart g old new P = OnlyStartOr (g.may_leave old) (g.given old) (g.left_since new (g.clock old)) P
