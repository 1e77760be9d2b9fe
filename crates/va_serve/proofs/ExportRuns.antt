-- A run that exports, from its opening on.
use Rattle.std.proofs.Common.{◌⊎◌, ◌≡◌, inl, inr, List, [], append-nil, ℕ, Result, Err, length, refl, sym, ◌∙◌, subst}
use Rattle.va_disk.specs.Causes.{Rose}
use Rattle.va_disk.specs.Crashes.{Leaves}
use Rattle.va_disk.specs.Frames.{DiskFailsAs, OnlyReads}
use Rattle.va_disk.specs.Told.{GivesPrefix}
use Rattle.va_disk.specs.declared.storage.Storage.{Ghosts}
use Rattle.va_disk.proofs.Frames.{reads_nothing}
use Rattle.va_disk.proofs.Moments.{only_start_or, then_leaves, weaker}
use Rattle.va_layout.specs.Stands.{Kept, Opens}
use Rattle.va_model.specs.Exporting.{ExportLeaves, ReadsAndGives, exported_ids, rows_in}
use Rattle.va_model.specs.State.{State}
use Rattle.va_model.proofs.GivingRows.{frame_reads, frames_both}
use Rattle.va_serve.specs.ExportRun.{ExportRunCaused, GivesFirstExported, RanExport}
use Rattle.va_serve.specs.Unfed.{OnlyOpens, OpenedTo}
use Rattle.va_serve.specs.Exporting.{ExportCaused, GivesFirstRows}
use Rattle.va_serve.specs.Failing.{CountsStay, IsNoFault, MayNotStart, StartFails}
use Rattle.va_serve.specs.Session.{FitsSession, IsKeptOf, Sitting}
use Rattle.va_serve.specs.Whole.{OpenedStore}
use Rattle.va_serve.specs.declared.status.Status.{Status}
use Rattle.va_serve.specs.declared.status.Status.TheVariants as statuses
use Rattle.va_serve.proofs.Progressing.{later_nothing, rises_behind, stay_both, stay_nothing, stay_reading}
use Rattle.va_serve.proofs.Showing.{kept_of}
use Rattle.va_store.specs.declared.faults.OpenFault.{OpenFault}
use Rattle.va_store.proofs.Found.{faultless}

-- by the status with which the export ended
pub opened_to : {D : Type 0} (g : Ghosts D) (old mid new : D) (status : Status) (Ran : D → Type 0) → ExportCaused g status mid new → OpenedStore g old Ran → OpenedTo g status old new Ran
opened_to g old mid new statuses.Done Ran cause opened = opened
opened_to g old mid new statuses.WriteFault Ran cause opened = opened
opened_to g old mid new statuses.DiskFault Ran cause opened = inl opened
opened_to g old mid new statuses.Memory Ran cause opened = inl opened
opened_to g old mid new statuses.Usage Ran cause opened = absurd cause
opened_to g old mid new statuses.ReadFault Ran cause opened = absurd cause
opened_to g old mid new (statuses.Store why) Ran cause opened = absurd cause
opened_to g old mid new (statuses.Mismatch place dist low high) Ran cause opened = absurd cause
opened_to g old mid new (statuses.Changed place) Ran cause opened = absurd cause
opened_to g old mid new statuses.TooLong Ran cause opened = absurd cause

-- by that with which the opening failed
pub unopened_to : {D : Type 0} (g : Ghosts D) (old new : D) (status : Status) (Ran : D → Type 0) → IsNoFault status → OnlyOpens g old new → OpenedTo g status old new Ran
unopened_to g old new status Ran (inl is) only = rw is (inr only)
unopened_to g old new status Ran (inr is) only = rw is (inr only)

-- a file that opens isn't refused
pub no_fault : (image : List ℕ) (kept : Kept) → Opens kept image → (status : Status) → StartFails image status → IsNoFault status
no_fault image kept opens statuses.DiskFault fails = inl refl
no_fault image kept opens statuses.Memory fails = inr refl
no_fault image kept opens (statuses.Store why) fails = absurd (faultless kept image opens why fails.0)
no_fault image kept opens (statuses.Mismatch place dist low high) fails = absurd fails
no_fault image kept opens (statuses.Changed place) fails = absurd fails
no_fault image kept opens statuses.Done fails = absurd fails
no_fault image kept opens statuses.Usage fails = absurd fails
no_fault image kept opens statuses.ReadFault fails = absurd fails
no_fault image kept opens statuses.WriteFault fails = absurd fails
no_fault image kept opens statuses.TooLong fails = absurd fails

-- the cause of a run whose opening ended it
pub run_unopened : {D T : Type 0} (g : Ghosts D) (old new : D) (size : ℕ) (status : Status) → MayNotStart size status → OnlyReads g old new → (result : Result T Status) → result ≡ Err status
    → DiskFailsAs g statuses.DiskFault old new result → ExportRunCaused g status old new
run_unopened g old new size statuses.DiskFault may frame result is fails = (fails.rose is, frame.sink)
run_unopened {D} {T} g old new size statuses.Memory may frame result is fails =
    stay_reading frame (fails.stayed (λ e. let both : ◌≡◌ {A = Result T Status} (Err statuses.Memory) (Err statuses.DiskFault) = sym is ∙ e in cc))
run_unopened {D} {T} g old new size (statuses.Store why) may frame result is fails =
    stay_reading frame (fails.stayed (λ e. let both : ◌≡◌ {A = Result T Status} (Err (statuses.Store why)) (Err statuses.DiskFault) = sym is ∙ e in cc))
run_unopened g old new size (statuses.Mismatch place dist low high) may frame result is fails = absurd may
run_unopened g old new size (statuses.Changed place) may frame result is fails = absurd may
run_unopened g old new size statuses.Done may frame result is fails = absurd may
run_unopened g old new size statuses.Usage may frame result is fails = absurd may
run_unopened g old new size statuses.ReadFault may frame result is fails = absurd may
run_unopened g old new size statuses.WriteFault may frame result is fails = absurd may
run_unopened g old new size statuses.TooLong may frame result is fails = absurd may

-- the cause of one that went on
pub run_behind : {D : Type 0} (g : Ghosts D) (old mid new : D) (status : Status) → CountsStay g old mid → ExportCaused g status mid new → ExportRunCaused g status old new
run_behind g old mid new statuses.Done stays cause = stay_both stays cause
run_behind g old mid new statuses.WriteFault stays cause = rises_behind new statuses.WriteFault stays cause
run_behind g old mid new statuses.DiskFault stays cause = rises_behind new statuses.DiskFault stays cause
run_behind g old mid new statuses.Memory stays cause = stay_both stays cause
run_behind g old mid new statuses.Usage stays cause = absurd cause
run_behind g old mid new statuses.ReadFault stays cause = absurd cause
run_behind g old mid new (statuses.Store why) stays cause = absurd cause
run_behind g old mid new (statuses.Mismatch place dist low high) stays cause = absurd cause
run_behind g old mid new (statuses.Changed place) stays cause = absurd cause
run_behind g old mid new statuses.TooLong stays cause = absurd cause

pub caused_store : {D : Type 0} (g : Ghosts D) (old new : D) (status : Status) (fault : OpenFault) → ExportCaused g status old new → status ≡ statuses.Store fault → ⊥
caused_store g old new status fault cause is = rw is at cause

module _ {D : Type 0} {g : Ghosts D} {old mid : D} (frame : OnlyReads g old mid) where
  pub crash_opened : (start : State) → g.honest → Leaves g.clock g.left_since old mid (ExportLeaves start (g.given old))
  crash_opened start honest = weaker g.clock g.left_since old mid _ _ (λ image given no. absurd no) (frame.moments honest)

  pub crash_behind : {new : D} (start : State) → g.honest → Leaves g.clock g.left_since mid new (ExportLeaves start (g.given mid)) → Leaves g.clock g.left_since old new (ExportLeaves start (g.given old))
  crash_behind {new} start honest rest = then_leaves g.clock g.left_since old mid new _ (crash_opened start honest)
      (subst (λ (given : List ℕ). Leaves g.clock g.left_since mid new (ExportLeaves start given)) frame.given rest)

  -- The store that was opened is that of what the file opens as.
  module _ (sitting : Sitting) (fits : FitsSession g sitting mid) (long : g.told → length (g.image mid) ≡ g.size mid) where
    pub kept_opened : g.told → (kept : Kept) → Opens kept (g.image old) → IsKeptOf sitting.store kept × Opens kept (g.image mid)
    kept_opened told kept opens =
        let there : Opens kept (g.image mid) = subst (Opens kept) (sym frame.image) opens in
        (kept_of sitting.store fits told (long told) kept there, there)

    pub frame_opened : {new : D} → ReadsAndGives g mid new (GivesFirstRows g sitting.store exported_ids mid) → ReadsAndGives g old new (GivesFirstExported g old)
    frame_opened next = frames_both (frame_reads {P = GivesFirstExported g old} frame) next (λ given has. has) leads
      where
        leads : (given : List ℕ) → GivesFirstRows g sitting.store exported_ids mid given → GivesFirstExported g old given
        leads given has told kept opens =
            let there = kept_opened told kept opens in
            subst (λ (l : List ℕ). GivesPrefix g.told l (rows_in kept (exported_ids kept)) given) frame.given (has told kept there.0 there.1)

-- where nothing failed, the run is done or found no memory
pub export_completes : {D : Type 0} (g : Ghosts D) (old new : D) (status : Status) (Ran : D → Type 0) → OpenedTo g status old new Ran → ExportRunCaused g status old new
    → (Rose (g.sink_faults old) (g.sink_faults new) → ⊥) → (Rose (g.faults old) (g.faults new) → ⊥) → (status ≡ statuses.Done) ⊎ (status ≡ statuses.Memory)
export_completes g old new statuses.Done Ran opened cause no_sink no_disk = inl refl
export_completes g old new statuses.WriteFault Ran opened cause no_sink no_disk = absurd (no_sink cause.0)
export_completes g old new statuses.DiskFault Ran opened cause no_sink no_disk = absurd (no_disk cause.0)
export_completes g old new statuses.Memory Ran opened cause no_sink no_disk = inr refl
export_completes g old new statuses.Usage Ran opened cause no_sink no_disk = absurd cause
export_completes g old new statuses.ReadFault Ran opened cause no_sink no_disk = absurd cause
export_completes g old new (statuses.Store why) Ran opened cause no_sink no_disk = absurd opened
export_completes g old new (statuses.Mismatch place dist low high) Ran opened cause no_sink no_disk = absurd cause
export_completes g old new (statuses.Changed place) Ran opened cause no_sink no_disk = absurd cause
export_completes g old new statuses.TooLong Ran opened cause no_sink no_disk = absurd cause

-- there was no memory before the opening
module _ {D : Type 0} (g : Ghosts D) (desk : D) where
  untouched : OnlyOpens g desk desk
  untouched = record { frame = reads_nothing; front = record { added = []; is = sym (append-nil (g.reads desk)); within = tt } }

  pub unexported : ((state : D) (image given : List ℕ) → g.honest → g.left_since state (g.clock state) image given → g.may_leave state image × (given ≡ g.given state)) → RanExport g desk desk statuses.Memory
  unexported only_now = record {
    exported = λ told start begins. inr untouched;
    rows = λ told kept opens. inr untouched;
    crash = λ honest told start begins. crash_opened {g = g} reads_nothing start honest;
    plainly = λ honest told start begins. only_start_or g.clock g.left_since g.may_leave g.given (λ state image given left. only_now state image given honest left) desk desk _ (crash_opened {g = g} reads_nothing start honest);
    frame = frame_reads reads_nothing;
    file = record {
      store = λ told fault is. cc;
      kinds = λ fault is. cc;
      refused = λ fault is. reads_nothing;
      faulty = λ told fault has not_blank. (inr (inr refl), untouched);
    };
    cause = stay_nothing;
    later = later_nothing;
    complete = λ told start begins no_sink no_disk. inr refl;
  }
