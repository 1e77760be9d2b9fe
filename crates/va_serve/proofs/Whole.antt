-- A run from its opening on.
use Rattle.std.proofs.Common.{◌≡◌, ◌⊎◌, inl, inr, ℕ, ◌+◌, ◌≤◌, ◌<◌, List, [], ◌++◌, Option, None, Some, Result, Err, ap, length, refl, sym, ◌∙◌, subst, arith, length-append}
use Rattle.va_disk.specs.Causes.{Rose}
use Rattle.va_disk.specs.Crashes.{Leaves, Only}
use Rattle.va_disk.specs.Frames.{DiskFailsAs, OnlyReads}
use Rattle.va_disk.specs.declared.storage.Storage.{Ghosts}
use Rattle.va_disk.specs.declared.source.Source.{Ghosts as Source}
use Rattle.va_disk.proofs.Giving.{takes_nothing}
use Rattle.va_disk.proofs.Moments.{nothing_leaves, only_start_or, then_leaves, weaker}
use Rattle.va_model.specs.Crashes.{RunLeaves}
use Rattle.va_model.specs.Ends.{Cut}
use Rattle.va_model.specs.Lines.{Line}
use Rattle.va_model.specs.State.{State, StandsFor}
use Rattle.va_serve.specs.Course.{Account, AllStay, Caused, EndedBy, IsOfLines, LeavesOver, Took, replying}
use Rattle.va_serve.specs.Failing.{CountsStay, IsBlankOrFaultless, Later, MayNotStart, StartFails}
use Rattle.va_serve.specs.Whole.{IsUnopened, PlainlyOver, RanInput, RanStore, RanTo, IsRefusalOf, Unopened}
use Rattle.va_serve.specs.declared.status.Status.{Status}
use Rattle.va_serve.specs.declared.status.Status.TheVariants as statuses
use Rattle.va_serve.proofs.Progressing.{rises_behind, stay_both, stay_nothing, stay_reading}
use Rattle.va_serve.proofs.Taking.{took_within}
use Rattle.va_serve.specs.Session.{AreSecure, FitsSession, FitsStore, Selects, Sitting}
use Rattle.va_store.specs.Known.{Known}
use Rattle.va_store.specs.Image.{IsFault, front_of}
use Rattle.va_store.proofs.Faulted.{one_fault}
use Rattle.va_store.specs.Openings.{ReadsUpTo}
use Rattle.va_store.specs.declared.faults.OpenFault.{OpenFault}
use Rattle.va_store.specs.declared.faults.OpenFault.TheVariants as faults

-- nothing of the input was taken
pub nothing_taken : (source : Type 0) (status : Status) (limit : ℕ) (input : List ℕ) → (status ≡ statuses.Done → ⊥) → (status ≡ statuses.TooLong → ⊥) → Took source status limit [] input input
nothing_taken source status limit input going other = took_within (takes_nothing source input) (omega arith) (λ is. absurd (going is)) other

pub may_not_start_done : (size : ℕ) (status : Status) → MayNotStart size status → status ≡ statuses.Done → ⊥
may_not_start_done size status may is = rw is at may

pub may_not_start_too_long : (size : ℕ) (status : Status) → MayNotStart size status → status ≡ statuses.TooLong → ⊥
may_not_start_too_long size status may is = rw is at may

pub may_not_start_usage : (size : ℕ) (status : Status) → MayNotStart size status → status ≡ statuses.Usage → ⊥
may_not_start_usage size status may is = rw is at may

pub of_lines_usage : (status : Status) → IsOfLines status → status ≡ statuses.Usage → ⊥
of_lines_usage status of_lines is = rw is at of_lines

pub of_lines_store : (status : Status) (fault : OpenFault) → IsOfLines status → status ≡ statuses.Store fault → ⊥
of_lines_store status fault of_lines is = rw is at of_lines

pub of_lines_memory : (status : Status) → IsOfLines status → status ≡ statuses.Memory → ⊥
of_lines_memory status of_lines is = rw is at of_lines

pub of_lines_opened : (status : Status) → IsOfLines status → IsUnopened status → ⊥
of_lines_opened statuses.Done of_lines unopened = unopened
of_lines_opened statuses.Usage of_lines unopened = of_lines
of_lines_opened statuses.ReadFault of_lines unopened = unopened
of_lines_opened statuses.WriteFault of_lines unopened = unopened
of_lines_opened statuses.DiskFault of_lines unopened = unopened
of_lines_opened (statuses.Store why) of_lines unopened = of_lines
of_lines_opened (statuses.Mismatch place dist low high) of_lines unopened = unopened
of_lines_opened (statuses.Changed place) of_lines unopened = unopened
of_lines_opened statuses.Memory of_lines unopened = of_lines
of_lines_opened statuses.TooLong of_lines unopened = unopened

pub faultless_opened : (image : List ℕ) (fault : OpenFault) → IsBlankOrFaultless image → IsFault image fault → (fault ≡ faults.Blank → ⊥) → ⊥
faultless_opened image fault opens has not_blank = not_blank (opens fault has)

pub start_refuses : (image : List ℕ) (fault : OpenFault) (status : Status) → StartFails image status → IsFault image fault → IsRefusalOf fault status
start_refuses image fault statuses.DiskFault fails has = inr (inl refl)
start_refuses image fault statuses.Memory fails has = inr (inr refl)
start_refuses image fault (statuses.Store why) fails has = inl (ap (λ (w : OpenFault). statuses.Store w) (one_fault image fails.0 has))
start_refuses image fault (statuses.Mismatch place dist low high) fails has = absurd fails
start_refuses image fault (statuses.Changed place) fails has = absurd fails
start_refuses image fault statuses.Done fails has = absurd fails
start_refuses image fault statuses.Usage fails has = absurd fails
start_refuses image fault statuses.ReadFault fails has = absurd fails
start_refuses image fault statuses.WriteFault fails has = absurd fails
start_refuses image fault statuses.TooLong fails has = absurd fails

-- a cause behind the opening is one of the whole run
pub caused_behind : {D S : Type 0} {g : Ghosts D} (s : Source S) {old mid : D} (new : D) (source source' : S) → CountsStay g old mid → (status : Status) → Caused g s status source source' mid new → Caused g s status source source' old new
caused_behind s new source source' stays statuses.Done caused = record { input = caused.input; output = stay_both stays caused.output }
caused_behind s new source source' stays statuses.Usage caused = record { input = caused.input; output = stay_both stays caused.output }
caused_behind s new source source' stays statuses.ReadFault caused = (caused.0, stay_both stays caused.1)
caused_behind s new source source' stays statuses.WriteFault caused = (caused.0, rises_behind _ statuses.WriteFault stays caused.1)
caused_behind s new source source' stays statuses.DiskFault caused = (caused.0, rises_behind _ statuses.DiskFault stays caused.1)
caused_behind s new source source' stays (statuses.Store why) caused = record { input = caused.input; output = stay_both stays caused.output }
caused_behind s new source source' stays (statuses.Mismatch place dist low high) caused = (record { input = caused.0.input; output = stay_both stays caused.0.output }, caused.1)
caused_behind s new source source' stays (statuses.Changed place) caused = (record { input = caused.0.input; output = stay_both stays caused.0.output }, caused.1)
caused_behind s new source source' stays statuses.Memory caused = record { input = caused.input; output = stay_both stays caused.output }
caused_behind s new source source' stays statuses.TooLong caused = record { input = caused.input; output = stay_both stays caused.output }

-- the cause of a run that ended in its opening
pub caused_start : {D S T : Type 0} (g : Ghosts D) (s : Source S) {old new : D} (source : S) (size : ℕ) (status : Status) → MayNotStart size status → OnlyReads g old new
    → (result : Result T Status) → result ≡ Err status → DiskFailsAs g statuses.DiskFault old new result → Caused g s status source source old new
caused_start g s source size statuses.DiskFault may frame result is fails = (refl, (fails.rose is, frame.sink))
caused_start {D} {S} {T} g s source size statuses.Memory may frame result is fails =
    record { input = refl; output = stay_reading frame (fails.stayed (λ e. let both : ◌≡◌ {A = Result T Status} (Err statuses.Memory) (Err statuses.DiskFault) = sym is ∙ e in cc)) }
caused_start {D} {S} {T} g s source size (statuses.Store why) may frame result is fails =
    record { input = refl; output = stay_reading frame (fails.stayed (λ e. let both : ◌≡◌ {A = Result T Status} (Err (statuses.Store why)) (Err statuses.DiskFault) = sym is ∙ e in cc)) }
caused_start {D} {S} {T} g s source size (statuses.Mismatch place dist low high) may frame result is fails = absurd may
caused_start {D} {S} {T} g s source size (statuses.Changed place) may frame result is fails = absurd may
caused_start g s source size statuses.Done may frame result is fails = absurd may
caused_start g s source size statuses.Usage may frame result is fails = absurd may
caused_start g s source size statuses.ReadFault may frame result is fails = absurd may
caused_start g s source size statuses.WriteFault may frame result is fails = absurd may
caused_start g s source size statuses.TooLong may frame result is fails = absurd may

pub all_stay : {D S : Type 0} {g : Ghosts D} {s : Source S} {source : S} {desk : D} → AllStay g s source source desk desk
all_stay = record { input = refl; output = stay_nothing }

pub later_behind : {D : Type 0} {g : Ghosts D} {old mid new : D} → OnlyReads g old mid → Later g mid new → Later g old new
later_behind frame later = record { disk = omega (arith, frame.later, later.disk); sink = omega (arith, frame.sink, later.sink) }

pub later_reading : {D : Type 0} {g : Ghosts D} {old new : D} → OnlyReads g old new → Later g old new
later_reading frame = record { disk = frame.later; sink = omega (arith, frame.sink) }

module _ {D : Type 0} (g : Ghosts D) (cut : Cut) (source : Type 0) (start : State) (left : List ℕ) where
  pub unmoved : [] ≡ cut.ended [] → (desk : D) → LeavesOver g cut source start [] left desk desk
  unmoved none desk = ([], inl none, nothing_leaves g.clock g.left_since desk (RunLeaves start (g.given desk) []))

  module _ {old mid : D} (frame : OnlyReads g old mid) (keeps : g.honest) where
    -- no line of these bytes is known yet
    pub only_opened : (bytes : List ℕ) → [] ≡ cut.ended bytes → LeavesOver g cut source start bytes left old mid
    only_opened bytes none = ([], inl none, weaker g.clock g.left_since old mid _ _ (λ image given no. absurd no) (frame.moments keeps))

    pub behind_opening : (bytes : List ℕ) (new : D) → LeavesOver g cut source start bytes left mid new → LeavesOver g cut source start bytes left old new
    behind_opening bytes new rest = (
      rest.0,
      rest.1,
      then_leaves g.clock g.left_since old mid new (RunLeaves start (g.given old) rest.0) (weaker g.clock g.left_since old mid _ _ (λ image given no. absurd no) (frame.moments keeps))
          (subst (λ (given : List ℕ). weakly new rest.0 given) frame.given rest.2),
    )
      where
        weakly : D → List Line → List ℕ → Type 0
        weakly to all given = Leaves g.clock g.left_since mid to (RunLeaves start given all)

-- a disk that fits a store selects its region
selects_region : (told : Type 0) (store : Option Known) (size : ℕ) (image : List ℕ) → FitsStore told store size image → told → Selects store image
selects_region told None size image fits tells = tt
selects_region told (Some held) size image fits tells = (fits.0.known_in tells fits.1).selected

-- the outcomes of a disk that was opened are secure
pub secure_at : {D : Type 0} (g : Ghosts D) (start : State) (sitting : Sitting) (old new : D) → StandsFor start (g.image old) → g.image new ≡ g.image old → FitsSession g sitting new → g.told → Only (g.image old) (g.may_leave new)
    → AreSecure start sitting (g.may_leave new)
secure_at g start sitting old new stands same fits told only image left = (
  subst (λ (i : List ℕ). StandsFor start i) (sym (only image left)) stands,
  subst (λ (i : List ℕ). Selects sitting.store i) (same ∙ sym (only image left)) (selects_region g.told sitting.store (g.size new) (g.image new) fits told),
)

module _ {D S : Type 0} (g : Ghosts D) (s : Source S) (cut : Cut) (start : State) (source source' : S) (old new : D) where
  module _ (account : Account D) where
    -- a run behind its opening
    pub ran_behind : {mid : D} (bytes : List ℕ) → OnlyReads g old mid → ReadsUpTo (front_of (g.image old)) (g.reads old) (g.reads mid) → (status : Status)
        → EndedBy account cut status s.told start bytes (s.left source') mid new → RanTo g s account cut status start bytes source source' old new
    ran_behind {mid} bytes frame front statuses.Done ended = record { mid = mid; frame = frame; front = front; ran = ended }
    ran_behind {mid} bytes frame front statuses.ReadFault ended = record { mid = mid; frame = frame; front = front; ran = ended }
    ran_behind {mid} bytes frame front statuses.TooLong ended = record { mid = mid; frame = frame; front = front; ran = ended }
    ran_behind {mid} bytes frame front statuses.WriteFault ended = record { mid = mid; frame = frame; front = front; ran = ended }
    ran_behind {mid} bytes frame front statuses.DiskFault ended = inl (record { mid = mid; frame = frame; front = front; ran = ended })
    ran_behind {mid} bytes frame front statuses.Usage ended = absurd ended
    ran_behind {mid} bytes frame front statuses.Memory ended = absurd ended
    ran_behind {mid} bytes frame front (statuses.Store why) ended = absurd ended
    ran_behind {mid} bytes frame front (statuses.Mismatch place dist low high) ended = absurd ended
    ran_behind {mid} bytes frame front (statuses.Changed place) ended = absurd ended

    -- a run that ended in its opening
    pub ran_unopened : (status : Status) → Unopened g s status source source' old new → (status ≡ statuses.DiskFault) ⊎ (status ≡ statuses.Memory) → RanTo g s account cut status start [] source source' old new
    ran_unopened status unopened (inl is) = rw is (inr (rw is at unopened))
    ran_unopened status unopened (inr is) = rw is (rw is at unopened)

  pub plainly_over : (bytes : List ℕ) → ((state : D) (image given : List ℕ) → g.left_since state (g.clock state) image given → g.may_leave state image × (given ≡ g.given state))
      → LeavesOver g cut s.told start bytes (s.left source') old new → PlainlyOver g s cut start bytes source' old new
  plainly_over bytes only_now lasts = (lasts.0, lasts.1, only_start_or g.clock g.left_since g.may_leave g.given only_now old new (RunLeaves start (g.given old) lasts.0) lasts.2)

  -- where nothing failed and the input wasn't too long, the run is done or found no memory
  pub completes : (bytes : List ℕ) (account : Account D) (status : Status) → (status ≡ statuses.TooLong → ⊥) → RanTo g s account cut status start bytes source source' old new → Caused g s status source source' old new → (status ≡ statuses.Usage → ⊥)
      → (Rose (s.faults source) (s.faults source') → ⊥) → (Rose (g.sink_faults old) (g.sink_faults new) → ⊥) → (Rose (g.faults old) (g.faults new) → ⊥)
      → (status ≡ statuses.Done) ⊎ (status ≡ statuses.Memory)
  completes bytes account statuses.Done short ran caused no_usage no_read no_write no_disk = inl refl
  completes bytes account statuses.Memory short ran caused no_usage no_read no_write no_disk = inr refl
  completes bytes account statuses.ReadFault short ran caused no_usage no_read no_write no_disk = absurd (no_read caused.0)
  completes bytes account statuses.WriteFault short ran caused no_usage no_read no_write no_disk = absurd (no_write caused.1.0)
  completes bytes account statuses.DiskFault short ran caused no_usage no_read no_write no_disk = absurd (no_disk caused.1.0)
  completes bytes account statuses.Usage short ran caused no_usage no_read no_write no_disk = absurd (no_usage refl)
  completes bytes account statuses.TooLong short ran caused no_usage no_read no_write no_disk = absurd (short refl)
  completes bytes account (statuses.Store why) short ran caused no_usage no_read no_write no_disk = absurd ran
  completes bytes account (statuses.Mismatch place dist low high) short ran caused no_usage no_read no_write no_disk = absurd ran
  completes bytes account (statuses.Changed place) short ran caused no_usage no_read no_write no_disk = absurd ran

module _ {source : Type 0} {status : Status} {limit : ℕ} {bytes input left : List ℕ} (took : Took source status limit bytes input left) (tells : source) where
  whole : length input ≡ length bytes + length took.more + length left
  whole = omega (arith, ap length (took.takes tells), length-append (bytes ++ took.more) left, length-append bytes took.more)

  -- an input that is no longer than the limit isn't too long
  pub short_enough : length input ≤ limit → status ≡ statuses.TooLong → ⊥
  short_enough short is = let one : length took.more ≡ 1 = took.beyond.0 is in absurd (omega (arith, whole, one, took.full one, short))

  -- a run that is done took all of the input, which is no longer than the limit
  pub beyond_limit : limit < length input → status ≡ statuses.Done → ⊥
  beyond_limit more is =
      let none : left ≡ [] = took.end is tells in
      let not_beyond : (length took.more ≡ 1) → ⊥ = λ many. (let too_long = took.beyond.1 many in clash status is too_long) in
      absurd (not_beyond (omega (arith, whole, ap length none, more, took.most, took.fits)))
    where
      clash : (st : Status) → st ≡ statuses.Done → st ≡ statuses.TooLong → ⊥
      clash st done long = let both : ◌≡◌ {A = Status} statuses.Done statuses.TooLong = sym done ∙ long in cc

-- What is owed of a run over an input, from what the run over its store owes.
module _ {D S : Type 0} (g : Ghosts D) (s : Source S) {cut : Cut} {limit : ℕ} {source source' : S} {old new : D} {status : Status} (ran : RanStore g s cut limit source source' old new status) where
  pub ran_input : ((state : D) (image given : List ℕ) → g.honest → g.left_since state (g.clock state) image given → g.may_leave state image × (given ≡ g.given state)) → RanInput g s cut limit source source' old new status
  ran_input only_now = record {
    ran = ran;
    beyond = λ tells. beyond_limit ran.took tells;
    complete = λ tells told start begins within. completes g s cut start source source' old new ran.bytes (replying g) status (short_enough ran.took tells within) (ran.replied told start begins) ran.cause ran.worded;
    plainly = λ keeps told start begins. plainly_over g s cut start source source' old new ran.bytes (λ state image given left. only_now state image given keeps left) (ran.crash keeps told start begins);
  }
