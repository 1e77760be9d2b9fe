-- A run of the script behind the opening: its lines, and then the one reply.
use Rattle.std.proofs.Common.{◌≡◌, ◌⊎◌, inl, inr, ℕ, ◌≤◌, true, false, List, [], ◌++◌, Option, None, Some, append-nil, arith, refl, sym, ap, subst, ◌∙◌, map}
use Rattle.va_cursor.specs.Cursors.{Cursor}
use Rattle.va_disk.specs.Crashes.{Leaves}
use Rattle.va_disk.specs.Causes.{Rose}
use Rattle.va_disk.specs.Frames.{OnlyGives, OnlyReads}
use Rattle.va_disk.specs.Told.{IsPrefix, IsProperPrefix}
use Rattle.va_disk.specs.declared.storage.Storage.{Ghosts}
use Rattle.va_disk.proofs.Frames.{reads_nothing}
use Rattle.va_disk.proofs.Moments.{only_start_or, then_leaves, weaker}
use Rattle.va_lang.specs.Reply.{error, reply_line}
use Rattle.va_lang.specs.declared.reply.Why.TheVariants.{Exists}
use Rattle.va_model.specs.Lines.{Line, line_of}
use Rattle.va_model.specs.Silent.{AreLittle, RanSilently, StandsAlong, StoppedSilently, Sums, led_to, nearest_lines, no_sums, replies_to, sums_of, work_reply}
use Rattle.va_model.specs.State.{State, StandsFor, blank, holding}
use Rattle.va_model.proofs.Silences.{along_end, same_sums}
use Rattle.va_model.proofs.Sums.{little_fits}
use Rattle.va_script.specs.Script.{script}
use Rattle.va_layout.specs.Stands.{Kept}
use Rattle.va_serve.specs.ExportRun.{ExportRunCaused}
use Rattle.va_serve.specs.Failing.{CountsStay}
use Rattle.va_serve.specs.Session.{InEach, IsAt, IsKeptOf, IsStore, Sitting, is_there}
use Rattle.va_serve.specs.Unfed.{OnlyOpens, OpenedTo}
use Rattle.va_serve.specs.Whole.{OpenedStore}
use Rattle.va_serve.specs.WorkRun.{RanWork, GivesText, TellsStore, WorkCaused, WorkLasts, WorkLeaves, WorkRunCaused, WorkSettles, WorksIn, WorksTo}
use Rattle.va_serve.proofs.Progressing.{later_nothing, rises_behind, stay_both, stay_nothing}
use Rattle.va_store.specs.declared.faults.OpenFault.{OpenFault}
use Rattle.va_serve.specs.Working.{AddsUp, FailsSilently, Hinders, LastsSilently, RunsSilently, StopsSilently, adding, given_for_work, work_lines}
use Rattle.va_serve.specs.declared.status.Status.{Status}
use Rattle.va_serve.specs.declared.status.Status.TheVariants as statuses
use Rattle.va_serve.proofs.FewSearches.{few_searches}
use Rattle.va_store.specs.Known.{Known}

-- which lines are run, and which reply is given, by whether there is a store
module _ (n : ℕ) where
  pub lines_blank : (start : State) (store : Option Known) (cursors : List (Option Cursor)) → IsStore start store cursors → is_there store ≡ false → work_lines start n ≡ map line_of (script n)
  lines_blank blank store cursors is none = refl
  lines_blank (holding kept) None cursors is none = absurd is
  lines_blank (holding kept) (Some held) cursors is none = absurd (cc)

  pub reply_blank : (start : State) (store : Option Known) (cursors : List (Option Cursor)) → IsStore start store cursors → is_there store ≡ false → given_for_work start n ≡ work_reply n (sums_of (replies_to start (map line_of (script n))))
  reply_blank blank store cursors is none = refl
  reply_blank (holding kept) None cursors is none = absurd is
  reply_blank (holding kept) (Some held) cursors is none = absurd (cc)

  pub lines_holding : (start : State) (store : Option Known) (cursors : List (Option Cursor)) → IsStore start store cursors → is_there store ≡ true → work_lines start n ≡ []
  lines_holding (holding kept) store cursors is some = refl
  lines_holding blank None cursors is some = absurd (cc)
  lines_holding blank (Some held) cursors is some = absurd is

  pub reply_holding : (start : State) (store : Option Known) (cursors : List (Option Cursor)) → IsStore start store cursors → is_there store ≡ true → given_for_work start n ≡ error Exists
  reply_holding (holding kept) store cursors is some = refl
  reply_holding blank None cursors is some = absurd (cc)
  reply_holding blank (Some held) cursors is some = absurd is

-- sums of so few searches stay below the most
pub exactly : (searches : ℕ) (sums : Sums) → searches ≤ 32 → AreLittle searches sums → adding no_sums sums ≡ sums
exactly searches sums few little =
    let fits = little_fits searches sums few little in
    same_sums (adding no_sums sums) sums (omega (arith, fits.fetched)) (omega (arith, fits.candidates)) (omega (arith, fits.distances))

module _ {D : Type 0} (g : Ghosts D) (n : ℕ) {sitting : Sitting} {old mid : D} where
  -- in each state that the session may be at these lines are run
  module _ (lines : List Line) (are : InEach g sitting old (λ start. work_lines start n ≡ lines)) where
    module _ (lasts : LastsSilently g lines sitting old mid) where
      pub stop_lasts : WorkLasts g n sitting old mid
      stop_lasts = record {
        from = λ keeps told start at secure. weaker g.clock g.left_since old mid _ _
            (λ image given left. record {
              stands = subst (λ (ls : List Line). StandsAlong start ls image) (sym (are told start at)) left.stands;
              part = [];
              begins = record { rest = reply_line (given_for_work start n); is = refl };
              given_is = left.given_is ∙ sym (append-nil (g.given old));
              done = λ some. absurd (some refl);
            }) (lasts.from keeps told start at secure);
      }

    -- a line failed
    pub work_stops : (status : Status) → StopsSilently g status lines sitting old mid → Hinders g status old mid → WorksIn g n status sitting old mid
    work_stops statuses.DiskFault stops hinders = record {
      from = λ told start at. subst (λ (ls : List Line). StoppedSilently g (FailsSilently g statuses.DiskFault) start ls old mid) (sym (are told start at)) (stops.from told start at);
    }
    work_stops statuses.Memory stops hinders = record {
      from = λ told start at. subst (λ (ls : List Line). StoppedSilently g (FailsSilently g statuses.Memory) start ls old mid) (sym (are told start at)) (stops.from told start at);
    }
    work_stops (statuses.Mismatch place dist low high) stops hinders = record { from = λ told start at. absurd ((stops.from told start at).fails) }
    work_stops (statuses.Changed place) stops hinders = record { from = λ told start at. absurd ((stops.from told start at).fails) }
    work_stops statuses.Done stops hinders = absurd hinders
    work_stops statuses.Usage stops hinders = absurd hinders
    work_stops statuses.ReadFault stops hinders = absurd hinders
    work_stops statuses.WriteFault stops hinders = absurd hinders
    work_stops (statuses.Store why) stops hinders = absurd hinders
    work_stops statuses.TooLong stops hinders = absurd hinders

    -- all lines were run, and this text was given
    module _ {sitting' : Sitting} (runs : RunsSilently g lines sitting sitting' old mid) {new : D} (text : List ℕ) (says : InEach g sitting old (λ start. reply_line (given_for_work start n) ≡ text)) (frame : OnlyGives g text mid new) where
      ran_lines : (told : g.told) (start : State) (at : IsAt start sitting (g.image old)) → RanSilently g start (work_lines start n) old mid (runs.from told start at).end
      ran_lines told start at =
          let run = runs.from told start at in
          subst (λ (ls : List Line). RanSilently g start ls old mid run.end) (sym (are told start at)) run.ran

      pub work_tells : (status : Status) → GivesText g status text mid new → WorksIn g n status sitting old new
      work_tells statuses.Done tells = record {
        from = λ told start at. record {
          mid = mid;
          end = (runs.from told start at).end;
          ran = ran_lines told start at;
          part = text;
          is_part = sym (says told start at);
          given = tells told;
          image = frame.image;
          reads = frame.reads;
        };
      }
      work_tells statuses.WriteFault tells = record {
        from = λ told start at. record {
          mid = mid;
          end = (runs.from told start at).end;
          ran = ran_lines told start at;
          part = tells.part;
          is_part = subst (IsProperPrefix tells.part) (sym (says told start at)) tells.begins;
          given = tells.given told;
          image = frame.image;
          reads = frame.reads;
        };
      }
      work_tells statuses.Usage tells = absurd tells
      work_tells statuses.ReadFault tells = absurd tells
      work_tells statuses.DiskFault tells = absurd tells
      work_tells (statuses.Store why) tells = absurd tells
      work_tells (statuses.Mismatch place dist low high) tells = absurd tells
      work_tells (statuses.Changed place) tells = absurd tells
      work_tells statuses.Memory tells = absurd tells
      work_tells statuses.TooLong tells = absurd tells

      led : (told : g.told) (start : State) (at : IsAt start sitting (g.image old)) (image : List ℕ) → StandsFor (runs.from told start at).end image → StandsFor (led_to start (work_lines start n)) image
      led told start at image stands = subst (λ (s : State). StandsFor s image) (ran_lines told start at).state stands

      pub work_settles : WorkSettles g n sitting old new
      work_settles = record {
        from = λ keeps told start at secure image leaves. led told start at image ((runs.from told start at).secures keeps secure image (frame.crash keeps image leaves)).0;
      }

      pub work_lasts : LastsSilently g lines sitting old mid → WorkLasts g n sitting old new
      work_lasts lasts = record {
        from = λ keeps told start at secure.
            (let run = runs.from told start at in
            then_leaves g.clock g.left_since old mid new _
            ((stop_lasts lasts).from keeps told start at secure)
            (weaker g.clock g.left_since mid new _ _
            (λ image given left.
            (let stands = led told start at image (run.secures keeps secure image left.0).0 in
            record {
              stands = along_end start (work_lines start n) image stands;
              part = left.1.part;
              begins = subst (IsPrefix left.1.part) (sym (says told start at)) left.1.begins;
              given_is = left.1.given told ∙ ap (λ (l : List ℕ). l ++ left.1.part) run.ran.given;
              done = λ some. stands;
            }))
            (frame.moments keeps told)));
      }

-- what is told where there was no store
pub says_sums : {D : Type 0} (g : Ghosts D) (n : ℕ) {sitting : Sitting} {old : D} {totals : Sums} → is_there sitting.store ≡ false → AddsUp g (map line_of (script n)) sitting old no_sums totals → InEach g sitting old (λ start. reply_line (given_for_work start n) ≡ reply_line (work_reply n totals))
says_sums g n {sitting} {old} {totals} none adds told start at =
    let told_sums : Sums = sums_of (replies_to start (map line_of (script n))) in
    let exact : totals ≡ told_sums = adds.from told start at ∙ exactly (nearest_lines (map line_of (script n))) told_sums (few_searches n) (adds.few told start at) in
    ap reply_line (reply_blank n start sitting.store sitting.cursors at.is none ∙ ap (λ (sums : Sums). work_reply n sums) (sym exact))

-- what the opening found, if the file opens
pub kept_there : (store : Option Known) (kept : Kept) → IsKeptOf store kept → is_there store ≡ true
kept_there None kept is = absurd is
kept_there (Some held) kept is = refl

module _ {D : Type 0} (g : Ghosts D) (n : ℕ) (old new : D) where
  -- what was worked behind the opening, by the status
  pub work_opened : (start : State) (status : Status) → OpenedStore g old (λ mid. WorksTo g n status start mid new) → OpenedTo g status old new (λ mid. WorksTo g n status start mid new)
  work_opened start statuses.Done opened = opened
  work_opened start statuses.Usage opened = absurd opened.ran
  work_opened start statuses.ReadFault opened = absurd opened.ran
  work_opened start statuses.WriteFault opened = opened
  work_opened start statuses.DiskFault opened = inl opened
  work_opened start (statuses.Store why) opened = absurd opened.ran
  work_opened start (statuses.Mismatch place dist low high) opened = absurd opened.ran
  work_opened start (statuses.Changed place) opened = absurd opened.ran
  work_opened start statuses.Memory opened = inl opened
  work_opened start statuses.TooLong opened = absurd opened.ran

  pub store_opened : (status : Status) → OpenedStore g old (λ mid. TellsStore g status mid new) → OpenedTo g status old new (λ mid. TellsStore g status mid new)
  store_opened statuses.Done opened = opened
  store_opened statuses.Usage opened = absurd opened.ran.tells
  store_opened statuses.ReadFault opened = absurd opened.ran.tells
  store_opened statuses.WriteFault opened = opened
  store_opened statuses.DiskFault opened = absurd opened.ran.tells
  store_opened (statuses.Store why) opened = absurd opened.ran.tells
  store_opened (statuses.Mismatch place dist low high) opened = absurd opened.ran.tells
  store_opened (statuses.Changed place) opened = absurd opened.ran.tells
  store_opened statuses.Memory opened = absurd opened.ran.tells
  store_opened statuses.TooLong opened = absurd opened.ran.tells

  -- the cause of a run that went on behind the opening
  pub work_caused : (mid : D) (status : Status) → CountsStay g old mid → WorkCaused g status mid new → WorkRunCaused g status old new
  work_caused mid statuses.Done stays cause = stay_both stays cause
  work_caused mid statuses.Usage stays cause = absurd cause
  work_caused mid statuses.ReadFault stays cause = absurd cause
  work_caused mid statuses.WriteFault stays cause = rises_behind new statuses.WriteFault stays cause
  work_caused mid statuses.DiskFault stays cause = rises_behind new statuses.DiskFault stays cause
  work_caused mid (statuses.Store why) stays cause = absurd cause
  work_caused mid (statuses.Mismatch place dist low high) stays cause = rises_behind new (statuses.Mismatch place dist low high) stays cause
  work_caused mid (statuses.Changed place) stays cause = rises_behind new (statuses.Changed place) stays cause
  work_caused mid statuses.Memory stays cause = stay_both stays cause
  work_caused mid statuses.TooLong stays cause = absurd cause

  pub work_no_store : (mid : D) (status : Status) (fault : OpenFault) → WorkCaused g status mid new → status ≡ statuses.Store fault → ⊥
  work_no_store mid status fault cause is = rw is at cause

  -- the cause of a run that the opening ended
  pub work_uncaused : (status : Status) → ExportRunCaused g status old new → WorkRunCaused g status old new
  work_uncaused statuses.Done cause = cause
  work_uncaused statuses.Usage cause = absurd cause
  work_uncaused statuses.ReadFault cause = absurd cause
  work_uncaused statuses.WriteFault cause = cause
  work_uncaused statuses.DiskFault cause = cause
  work_uncaused (statuses.Store why) cause = cause
  work_uncaused (statuses.Mismatch place dist low high) cause = absurd cause
  work_uncaused (statuses.Changed place) cause = absurd cause
  work_uncaused statuses.Memory cause = cause
  work_uncaused statuses.TooLong cause = absurd cause

  -- where nothing failed, the run is done or found no memory
  pub work_completes : (status : Status) (Ran : D → Type 0) → OpenedTo g status old new Ran → WorkRunCaused g status old new → (Rose (g.sink_faults old) (g.sink_faults new) → ⊥) → (Rose (g.faults old) (g.faults new) → ⊥)
      → (status ≡ statuses.Done) ⊎ (status ≡ statuses.Memory)
  work_completes statuses.Done Ran opened cause no_sink no_disk = inl refl
  work_completes statuses.Usage Ran opened cause no_sink no_disk = absurd cause
  work_completes statuses.ReadFault Ran opened cause no_sink no_disk = absurd cause
  work_completes statuses.WriteFault Ran opened cause no_sink no_disk = absurd (no_sink cause.0)
  work_completes statuses.DiskFault Ran opened cause no_sink no_disk = absurd (no_disk cause.0)
  work_completes (statuses.Store why) Ran opened cause no_sink no_disk = absurd opened
  work_completes (statuses.Mismatch place dist low high) Ran opened cause no_sink no_disk = absurd opened
  work_completes (statuses.Changed place) Ran opened cause no_sink no_disk = absurd opened
  work_completes statuses.Memory Ran opened cause no_sink no_disk = inr refl
  work_completes statuses.TooLong Ran opened cause no_sink no_disk = absurd cause

-- a crash in a run whose opening only read
module _ {D : Type 0} {g : Ghosts D} {old mid : D} (frame : OnlyReads g old mid) (P : List ℕ → List ℕ → List ℕ → Type 0) (honest : g.honest) where
  pub left_opened : Leaves g.clock g.left_since old mid (P (g.given old))
  left_opened = weaker g.clock g.left_since old mid _ _ (λ image given no. absurd no) (frame.moments honest)

  pub left_behind : {new : D} → Leaves g.clock g.left_since mid new (P (g.given mid)) → Leaves g.clock g.left_since old new (P (g.given old))
  left_behind {new} rest = then_leaves g.clock g.left_since old mid new _ left_opened (subst (λ (given : List ℕ). Leaves g.clock g.left_since mid new (P given)) frame.given rest)

-- there was no memory before the opening
module _ {D : Type 0} (g : Ghosts D) (n : ℕ) (desk : D) where
  unopened : OnlyOpens g desk desk
  unopened = record { frame = reads_nothing; front = record { added = []; is = sym (append-nil (g.reads desk)); within = tt } }

  pub unworked : ((state : D) (image given : List ℕ) → g.honest → g.left_since state (g.clock state) image given → g.may_leave state image × (given ≡ g.given state)) → RanWork g n desk desk statuses.Memory
  unworked only_now = record {
    worked = λ told start begins. inr unopened;
    there = λ told kept opens. inr unopened;
    crash = λ honest told start begins. left_opened {g = g} reads_nothing (WorkLeaves n start) honest;
    plainly = λ honest told start begins. only_start_or g.clock g.left_since g.may_leave g.given (λ state image given left. only_now state image given honest left) desk desk _ (left_opened {g = g} reads_nothing (WorkLeaves n start) honest);
    settled = λ done. absurd (cc);
    file = record {
      store = λ told fault is. cc;
      kinds = λ fault is. cc;
      refused = λ fault is. reads_nothing;
      faulty = λ told fault has not_blank. (inr (inr refl), unopened);
    };
    cause = stay_nothing;
    later = later_nothing;
    complete = λ told start begins no_sink no_disk. inr refl;
  }

-- the usage is told of words alone
pub work_no_usage : {D : Type 0} (g : Ghosts D) (old new : D) (status : Status) → WorkRunCaused g status old new → status ≡ statuses.Usage → ⊥
work_no_usage g old new status cause is = rw is at cause

pub export_no_usage : {D : Type 0} (g : Ghosts D) (old new : D) (status : Status) → ExportRunCaused g status old new → status ≡ statuses.Usage → ⊥
export_no_usage g old new status cause is = rw is at cause
