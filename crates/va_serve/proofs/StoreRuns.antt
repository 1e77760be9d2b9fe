-- What is owed of a run over the store of a desk, from what its opening and the run behind it owe.
use Rattle.std.proofs.Common.{◌≡◌, ◌≢◌, inl, inr, ℕ, List, [], refl, sym, append-nil, arith}
use Rattle.va_disk.specs.Frames.{OnlyReads}
use Rattle.va_disk.specs.declared.storage.Storage.{Ghosts}
use Rattle.va_disk.specs.declared.source.Source.{Ghosts as Source}
use Rattle.va_disk.proofs.Frames.{reads_nothing}
use Rattle.va_model.specs.Ends.{Cut}
use Rattle.va_serve.specs.Course.{Caused, RanLines, reading, replying}
use Rattle.va_serve.specs.Failing.{CountsStay, IsBlankOrFaultless, IsNoFault, IsOfFile, MayNotStart, StartFails}
use Rattle.va_serve.specs.Importing.{Idles}
use Rattle.va_serve.specs.Session.{AreSecure, IsAt, OfEachStart, Sitting}
use Rattle.va_serve.specs.Whole.{JudgesFile, RanStore, Unopened}
use Rattle.va_serve.specs.declared.status.Status.{Status}
use Rattle.va_serve.specs.declared.status.Status.TheVariants as statuses
use Rattle.va_serve.proofs.Whole.{all_stay, behind_opening, caused_behind, faultless_opened, later_behind, later_reading, may_not_start_done, may_not_start_too_long, may_not_start_usage, nothing_taken, of_lines_opened, of_lines_store, of_lines_usage, only_opened, ran_behind, ran_unopened, start_refuses, unmoved}
use Rattle.va_store.specs.Image.{IsFault, front_of}
use Rattle.va_store.specs.Openings.{ReadsUpTo}
use Rattle.va_store.specs.declared.faults.OpenFault.{OpenFault}

-- a session was started on a desk, and sits so
pub record Starts {D : Type 0} (g : Ghosts D) (sitting : Sitting) (desk mid : D) : Type 0 where
  pub frame : OnlyReads g desk mid
  pub reads : g.told → ReadsUpTo (front_of (g.image desk)) (g.reads desk) (g.reads mid)
  pub started : OfEachStart g desk (λ state. IsAt state sitting (g.image mid))
  pub secure : g.honest → OfEachStart g desk (λ state. AreSecure state sitting (g.may_leave mid))
  pub opens : g.told → IsBlankOrFaultless (g.image desk)
  pub stays : CountsStay g desk mid

-- none was, with this status
pub record StartsNot {D : Type 0} (g : Ghosts D) (status : Status) (desk desk' : D) : Type 0 where
  pub frame : OnlyReads g desk desk'
  pub reads : g.told → ReadsUpTo (front_of (g.image desk)) (g.reads desk) (g.reads desk')
  pub kinds : MayNotStart (g.size desk) status
  pub refused : g.told → StartFails (g.image desk) status
  pub stands : OfEachStart g desk (λ state. IsNoFault status)

pub faulted : (image : List ℕ) (fault : OpenFault) (status : Status) → StartFails image status → status ≡ statuses.Store fault → IsFault image fault
faulted image fault status fails is = (rw is at fails).0

pub of_file : (size : ℕ) (fault : OpenFault) (status : Status) → MayNotStart size status → status ≡ statuses.Store fault → IsOfFile size fault
of_file size fault status may is = rw is at may

module _ {D S : Type 0} (g : Ghosts D) (s : Source S) (cut : Cut) (limit : ℕ) where
  module _ (source : S) (desk : D) where
    untaken : (status : Status) → Unopened g s status source source desk desk
    untaken status = record { untouched = record { left = λ other. refl; frame = reads_nothing }; front = record { added = []; is = sym (append-nil _); within = tt } }

    unjudged : JudgesFile g s source source desk desk statuses.Memory
    unjudged = record {
      store = λ told fault is. cc;
      kinds = λ fault is. cc;
      faulty = λ told fault has not_blank. (inr (inr refl), untaken statuses.Memory);
    }

    -- there was no memory before the opening
    pub unstarted : [] ≡ cut.ended [] → RanStore g s cut limit source source desk desk statuses.Memory
    unstarted none = record {
      worded = λ e. cc;
      bytes = [];
      took = nothing_taken _ _ _ _ (λ e. cc) (λ e. cc);
      replied = λ told start begins. untaken statuses.Memory;
      read = λ told start begins. untaken statuses.Memory;
      crash = λ keeps told start begins. unmoved g cut s.told start _ none desk;
      shown = λ told. inl (tt, untaken statuses.Memory);
      file = unjudged;
      untouched = λ any. (untaken statuses.Memory).untouched;
      unread = λ any told. (untaken statuses.Memory).front;
      cause = all_stay;
      source_later = omega arith;
      later = later_reading reads_nothing;
    }

  -- the session wasn't started
  module _ (source : S) {desk desk' : D} (status : Status) (fails : StartsNot g status desk desk') where
    unopened : g.told → Unopened g s status source source desk desk'
    unopened told = record { untouched = record { left = λ other. refl; frame = fails.frame }; front = fails.reads told }

    pub judged : JudgesFile g s source source desk desk' status
    judged = record {
      store = λ told fault is. faulted (g.image desk) fault status (fails.refused told) is;
      kinds = λ fault is. of_file (g.size desk) fault status fails.kinds is;
      faulty = λ told fault has not_blank. (start_refuses _ fault status (fails.refused told) has, unopened told);
    }

    pub not_started : [] ≡ cut.ended [] → Caused g s status source source desk desk' → RanStore g s cut limit source source desk desk' status
    not_started none caused = record {
      worded = may_not_start_usage _ status fails.kinds;
      bytes = [];
      took = nothing_taken _ _ _ _ (may_not_start_done _ status fails.kinds) (may_not_start_too_long _ status fails.kinds);
      replied = λ told start begins. ran_unopened g s cut start source source desk desk' (replying g) status (unopened told) (fails.stands told start begins);
      read = λ told start begins. ran_unopened g s cut start source source desk desk' (reading g) status (unopened told) (fails.stands told start begins);
      crash = λ keeps told start begins. only_opened g cut s.told start _ fails.frame keeps [] none;
      shown = λ told. inl (fails.kinds, unopened told);
      file = judged;
      untouched = λ any. record { left = λ other. refl; frame = fails.frame };
      unread = λ any told. fails.reads told;
      cause = caused;
      source_later = omega arith;
      later = later_reading fails.frame;
    }

  module _ (source source' : S) (sitting : Sitting) {desk mid : D} (starts : Starts g sitting desk mid) where
    -- a file that was opened has no fault
    pub no_fault : {desk' : D} (status : Status) → ((fault : OpenFault) → status ≡ statuses.Store fault → ⊥) → JudgesFile g s source source' desk desk' status
    no_fault status other = record {
      store = λ told fault is. absurd (other fault is);
      kinds = λ fault is. absurd (other fault is);
      faulty = λ told fault has not_blank. absurd (faultless_opened _ fault (starts.opens told) has not_blank);
    }

    -- the session was started, and the lines behind it were run
    pub ran_started : {desk' : D} (status : Status) → RanLines g s cut limit sitting source source' mid desk' status → RanStore g s cut limit source source' desk desk' status
    ran_started {desk'} status run = record {
      worded = of_lines_usage status run.kinds;
      bytes = run.bytes;
      took = run.took;
      replied = λ told start begins. ran_behind g s cut start source source' desk desk' (replying g) run.bytes starts.frame (starts.reads told) status (run.replied.from told start (starts.started told start begins));
      read = λ told start begins. ran_behind g s cut start source source' desk desk' (reading g) run.bytes starts.frame (starts.reads told) status (run.read.from told start (starts.started told start begins));
      crash = λ keeps told start begins. behind_opening g cut s.told start _ starts.frame keeps run.bytes desk'
          (run.crash.from keeps told start (starts.started told start begins) (starts.secure keeps told start begins));
      shown = λ told. inr (record { mid = mid; frame = starts.frame; front = starts.reads told; ran = run.shown told });
      file = no_fault status (λ fault is. of_lines_store status fault run.kinds is);
      untouched = λ unopened. absurd (of_lines_opened status run.kinds unopened);
      unread = λ unopened told. absurd (of_lines_opened status run.kinds unopened);
      cause = caused_behind s desk' source source' starts.stays status run.cause;
      source_later = run.source_later;
      later = later_behind starts.frame run.later;
    }

    -- the session was started, and there was no memory for the input
    module _ {desk' : D} (idles : Idles s limit source source' mid desk') where
      read_only : OnlyReads g desk desk'
      read_only = rw idles.idle (starts.frame)

      in_front : g.told → ReadsUpTo (front_of (g.image desk)) (g.reads desk) (g.reads desk')
      in_front told = rw idles.idle (starts.reads told)

      same : CountsStay g desk desk'
      same = rw idles.idle (starts.stays)

      left_over : g.told → Unopened g s statuses.Memory source source' desk desk'
      left_over told = record { untouched = record { left = λ other. absurd (other refl); frame = read_only }; front = in_front told }

      pub idle_started : [] ≡ cut.ended idles.bytes → RanStore g s cut limit source source' desk desk' statuses.Memory
      idle_started none = record {
        worded = λ e. cc;
        bytes = idles.bytes;
        took = idles.took;
        replied = λ told start begins. left_over told;
        read = λ told start begins. left_over told;
        crash = λ keeps told start begins. only_opened g cut s.told start _ read_only keeps idles.bytes none;
        shown = λ told. inl (tt, left_over told);
        file = no_fault statuses.Memory (λ fault is. cc);
        untouched = λ any. record { left = λ other. absurd (other refl); frame = read_only };
        unread = λ any told. in_front told;
        cause = record { input = idles.faults; output = same };
        source_later = omega (arith, idles.faults);
        later = later_reading read_only;
      }

    -- The session was started, and lines were run that are known once the whole input was taken; or there was no memory for it.
    module _ {desk' : D} (none : (bytes : List ℕ) → [] ≡ cut.ended bytes) where
      pub whole_started : (status : Status) → (status ≢ statuses.Memory → RanLines g s cut limit sitting source source' mid desk' status) → (status ≡ statuses.Memory → Idles s limit source source' mid desk') → RanStore g s cut limit source source' desk desk' status
      whole_started statuses.Memory ran idle = let idles = idle refl in idle_started idles (none idles.bytes)
      whole_started statuses.Done ran idle = ran_started statuses.Done (ran (λ is. cc))
      whole_started statuses.Usage ran idle = ran_started statuses.Usage (ran (λ is. cc))
      whole_started statuses.ReadFault ran idle = ran_started statuses.ReadFault (ran (λ is. cc))
      whole_started statuses.WriteFault ran idle = ran_started statuses.WriteFault (ran (λ is. cc))
      whole_started statuses.DiskFault ran idle = ran_started statuses.DiskFault (ran (λ is. cc))
      whole_started (statuses.Store why) ran idle = ran_started (statuses.Store why) (ran (λ is. cc))
      whole_started (statuses.Mismatch place dist low high) ran idle = ran_started (statuses.Mismatch place dist low high) (ran (λ is. cc))
      whole_started (statuses.Changed place) ran idle = ran_started (statuses.Changed place) (ran (λ is. cc))
      whole_started statuses.TooLong ran idle = ran_started statuses.TooLong (ran (λ is. cc))
