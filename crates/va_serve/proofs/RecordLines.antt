-- A run over the records of a text: what is taken before it, and one line after another.
use Rattle.std.proofs.Common.{◌≡◌, inl, inr, ℕ, ◌+◌, ◌<◌, ◌≤◌, List, [], ◌∷◌, ◌++◌, length, map, take, drop, get_or, refl, sym, ap, subst, ◌∙◌, arith, append-nil, length-append}
use Rattle.std.proofs.lemmas.List.{map-append, take_all, take_more, take-append-drop}
use Rattle.va_csv.specs.Lines.{lines_of}
use Rattle.va_disk.specs.Causes.{Rose}
use Rattle.va_disk.specs.Told.{IsAtEnd, Takes}
use Rattle.va_disk.specs.declared.storage.Storage.{Ghosts}
use Rattle.va_disk.specs.declared.source.Source.{Ghosts as Source}
use Rattle.va_disk.proofs.Giving.{takes_both}
use Rattle.va_model.specs.Ends.{once_taken}
use Rattle.va_model.specs.Lines.{Line, line_of}
use Rattle.va_serve.specs.Course.{RanLines}
use Rattle.va_serve.specs.Failing.{CountsStay, Later, Rises}
use Rattle.va_serve.specs.Importing.{Idles, IsCut, TakesAll}
use Rattle.va_serve.specs.Progress.{Lasts, Serves, Stops}
use Rattle.va_serve.specs.Session.{Sitting}
use Rattle.va_serve.specs.declared.status.Status.{Status}
use Rattle.va_serve.specs.declared.status.Status.TheVariants as statuses
use Rattle.va_serve.proofs.Progressing.{lasts_later, lasts_more, lasts_nothing, later_nothing, rose_since, serves_more, serves_none, stay_nothing, stops_later, stops_more}
use Rattle.va_serve.proofs.Taking.{caused_line, of_lines, rises_too_long, shown_until, stopped_by, tells_reads, tells_replies, took_within, no_bytes}

-- the lines of the first records
abbrev first_lines : List (List ℕ) → ℕ → List Line
first_lines records count = map line_of (take count records)

-- the lines of the first records were served
pub record Ran {D : Type 0} (g : Ghosts D) (records : List (List ℕ)) (count : ℕ) (sitting sitting' : Sitting) (old new : D) : Type 0 where
  pub serves : Serves g (first_lines records count) sitting sitting' old new
  pub lasts : Lasts g (first_lines records count) sitting old new

next_line : (records : List (List ℕ)) (count : ℕ) (line d : List ℕ) → count < length records → line ≡ get_or records count d → first_lines records count ++ line_of line ∷ [] ≡ first_lines records (count + 1)
next_line records count line d within is =
    ap (λ (t : List ℕ). first_lines records count ++ line_of t ∷ []) is
    ∙ sym (map-append line_of (take count records) (get_or records count d ∷ []))
    ∙ ap (map line_of) (sym (take_more records count d within))

whole_lines : (records : List (List ℕ)) (count : ℕ) → first_lines records count ++ map line_of (drop count records) ≡ map line_of records
whole_lines records count = sym (map-append line_of (take count records) (drop count records)) ∙ ap (map line_of) (take-append-drop count records)

pub ran_none : {D : Type 0} {g : Ghosts D} {records : List (List ℕ)} {sitting : Sitting} {desk : D} → Ran g records 0 sitting sitting desk desk
ran_none = record { serves = serves_none refl; lasts = lasts_nothing }

module _ {D : Type 0} {g : Ghosts D} {records : List (List ℕ)} {count : ℕ} {sitting mid_sitting : Sitting} {old mid : D} (ran : Ran g records count sitting mid_sitting old mid) (within : count < length records) (line d : List ℕ) (is : line ≡ get_or records count d) where
  now_lasts : {new : D} → Lasts g (line_of line ∷ []) mid_sitting mid new → Lasts g (first_lines records (count + 1)) sitting old new
  now_lasts {new} lasts = subst (λ (ls : List Line). Lasts g ls sitting old new) (next_line records count line d within is) (lasts_more ran.serves ran.lasts lasts)

  pub ran_more : {sitting' : Sitting} {new : D} → Serves g (line_of line ∷ []) mid_sitting sitting' mid new → Lasts g (line_of line ∷ []) mid_sitting mid new → Ran g records (count + 1) sitting sitting' old new
  ran_more {sitting'} {new} serves lasts = record {
    serves = subst (λ (ls : List Line). Serves g ls sitting sitting' old new) (next_line records count line d within is) (serves_more ran.serves serves);
    lasts = now_lasts lasts;
  }

  pub ran_stops : {status : Status} {new : D} → Stops g status (line_of line ∷ []) mid_sitting mid new → Stops g status (map line_of records) sitting old new
  ran_stops {status} {new} stops = subst (λ (ls : List Line). Stops g status ls sitting old new) (whole_lines records (count + 1))
      (stops_later (map line_of (drop (count + 1) records)) (subst (λ (ls : List Line). Stops g status ls sitting old new) (next_line records count line d within is) (stops_more ran.serves stops)))

  pub ran_lasts : {new : D} → Lasts g (line_of line ∷ []) mid_sitting mid new → Lasts g (map line_of records) sitting old new
  ran_lasts lasts = lasts_later (map line_of (drop (count + 1) records)) (sym (whole_lines records (count + 1))) (now_lasts lasts)

pub record RanAll {D : Type 0} (g : Ghosts D) (records : List (List ℕ)) (sitting sitting' : Sitting) (old new : D) : Type 0 where
  pub serves : Serves g (map line_of records) sitting sitting' old new
  pub lasts : Lasts g (map line_of records) sitting old new

pub ran_all : {D : Type 0} {g : Ghosts D} {records : List (List ℕ)} {count : ℕ} {sitting sitting' : Sitting} {old new : D} → Ran g records count sitting sitting' old new → length records ≤ count → RanAll g records sitting sitting' old new
ran_all {g = g} {records} {count} {sitting} {sitting'} {old} {new} ran all =
    let whole : first_lines records count ≡ map line_of records = ap (map line_of) (take_all count records all) in
    record {
      serves = subst (λ (ls : List Line). Serves g ls sitting sitting' old new) whole ran.serves;
      lasts = subst (λ (ls : List Line). Lasts g ls sitting old new) whole ran.lasts;
    }

-- so many bytes were taken, and no call failed
module _ {S : Type 0} (s : Source S) (limit : ℕ) (bytes : List ℕ) (source mid last : S) (takes : Takes s.told (s.left source) bytes (s.left mid)) (quiet : s.faults mid ≡ s.faults source) where
  pub cut_fault : length bytes ≤ limit → s.left last ≡ s.left mid → Rose (s.faults mid) (s.faults last) → s.faults mid ≤ s.faults last → IsCut s limit statuses.ReadFault source last
  cut_fault fits same rose later = record { bytes = bytes; took = took_within (rw same takes) fits (λ e. cc) (λ e. cc); why = rose_since quiet rose; later = omega (arith, quiet, later) }

  module _ (piece : List ℕ) (next : Takes s.told (s.left mid) piece (s.left last)) (stayed : s.faults last ≡ s.faults mid) where
    more_taken : Takes s.told (s.left source) (bytes ++ piece) (s.left last)
    more_taken = takes_both s.told (s.left source) (s.left mid) (s.left last) bytes piece takes next

    pub cut_memory : length bytes + length piece ≤ limit → IsCut s limit statuses.Memory source last
    cut_memory fits = record {
      bytes = bytes ++ piece;
      took = took_within more_taken (omega (arith, fits, length-append bytes piece)) (λ e. cc) (λ e. cc);
      why = stayed ∙ quiet;
      later = omega (arith, stayed, quiet);
    }

    pub cut_too_long : length bytes ≡ limit → length piece ≡ 1 → IsCut s limit statuses.TooLong source last
    cut_too_long full one = record {
      bytes = bytes;
      took = record {
        more = piece;
        takes = more_taken;
        fits = omega (arith, full);
        end = λ is. cc;
        most = omega (arith, one);
        beyond = (λ is. one, λ many. refl);
        full = λ many. full;
      };
      why = stayed ∙ quiet;
      later = omega (arith, stayed, quiet);
    }

    pub taken_all : length piece ≡ 0 → IsAtEnd s.told (s.left last) → length bytes ≤ limit → TakesAll s limit bytes source last
    taken_all none at_end fits = record {
      takes = λ tells. more_taken tells ∙ ap (λ (l : List ℕ). l ++ s.left last) (ap (λ (l : List ℕ). bytes ++ l) (no_bytes piece none) ∙ append-nil bytes);
      fits = fits;
      at_end = at_end;
      faults = stayed ∙ quiet;
    }

nothing_served : {D : Type 0} (g : Ghosts D) (sitting : Sitting) (desk : D) → Serves g [] sitting sitting desk desk
nothing_served g sitting desk = serves_none refl

module _ {D S : Type 0} (g : Ghosts D) (s : Source S) (limit : ℕ) (sitting : Sitting) (source source' : S) (desk : D) where
  abbrev nothing : Serves g [] sitting sitting desk desk
  nothing = nothing_served g sitting desk

  -- the input wasn't taken to its end, and so no line was run
  pub cut_short : (status : Status) → IsCut s limit status source source' → (status ≡ statuses.Memory → ⊥) → RanLines g s (once_taken lines_of) limit sitting source source' desk desk status
  cut_short statuses.ReadFault cut other = record {
    kinds = tt;
    bytes = cut.bytes;
    took = cut.took;
    replied = record { from = λ told start at. tells_replies.done (nothing.from told start at) };
    read = record { from = λ told start at. tells_reads.done (nothing.from told start at) };
    crash = record { from = λ keeps told start is each. ([], inl refl, (lasts_nothing {g = g} {sitting = sitting} {old = desk}).from keeps told start is each) };
    shown = nothing.shown;
    cause = (cut.why, stay_nothing);
    source_later = cut.later;
    later = later_nothing;
  }
  cut_short statuses.TooLong cut other = record {
    kinds = tt;
    bytes = cut.bytes;
    took = cut.took;
    replied = record { from = λ told start at. tells_replies.done (nothing.from told start at) };
    read = record { from = λ told start at. tells_reads.done (nothing.from told start at) };
    crash = record { from = λ keeps told start is each. ([], inl refl, (lasts_nothing {g = g} {sitting = sitting} {old = desk}).from keeps told start is each) };
    shown = nothing.shown;
    cause = record { input = cut.why; output = stay_nothing };
    source_later = cut.later;
    later = later_nothing;
  }
  cut_short statuses.Memory cut other = absurd (other refl)
  cut_short statuses.Done cut other = absurd cut.why
  cut_short statuses.Usage cut other = absurd cut.why
  cut_short statuses.WriteFault cut other = absurd cut.why
  cut_short statuses.DiskFault cut other = absurd cut.why
  cut_short (statuses.Store why) cut other = absurd cut.why
  cut_short (statuses.Mismatch place dist low high) cut other = absurd cut.why
  cut_short (statuses.Changed place) cut other = absurd cut.why

  pub cut_idles : (status : Status) → IsCut s limit status source source' → status ≡ statuses.Memory → Idles s limit source source' desk desk
  cut_idles statuses.Memory cut is = record { bytes = cut.bytes; took = cut.took; faults = cut.why; idle = refl }
  cut_idles statuses.ReadFault cut is = absurd (cc)
  cut_idles statuses.TooLong cut is = absurd (cc)
  cut_idles statuses.Done cut is = absurd cut.why
  cut_idles statuses.Usage cut is = absurd cut.why
  cut_idles statuses.WriteFault cut is = absurd cut.why
  cut_idles statuses.DiskFault cut is = absurd cut.why
  cut_idles (statuses.Store why) cut is = absurd cut.why
  cut_idles (statuses.Mismatch place dist low high) cut is = absurd cut.why
  cut_idles (statuses.Changed place) cut is = absurd cut.why

  module _ (bytes : List ℕ) (all : TakesAll s limit bytes source source') where
    pub unread_idles : Idles s limit source source' desk desk
    unread_idles = record { bytes = bytes; took = took_within all.takes all.fits (λ e. cc) (λ e. cc); faults = all.faults; idle = refl }

    module _ (records : List (List ℕ)) (are : records ≡ lines_of bytes) (new : D) where
      lines_are : map line_of records ≡ map line_of (lines_of bytes)
      lines_are = ap (map line_of) are

      lasts_whole : Lasts g (map line_of records) sitting desk new → Lasts g (map line_of (lines_of bytes)) sitting desk new
      lasts_whole lasts = subst (λ (ls : List Line). Lasts g ls sitting desk new) lines_are lasts

      pub ran_records : {sitting' : Sitting} → Serves g (map line_of records) sitting sitting' desk new → Lasts g (map line_of records) sitting desk new → CountsStay g desk new → Later g desk new
          → RanLines g s (once_taken lines_of) limit sitting source source' desk new statuses.Done
      ran_records {sitting'} serves lasts stays later =
          let served : Serves g (map line_of (lines_of bytes)) sitting sitting' desk new = subst (λ (ls : List Line). Serves g ls sitting sitting' desk new) lines_are serves in
          let left : Lasts g (map line_of (lines_of bytes)) sitting desk new = lasts_whole lasts in
          record {
            kinds = tt;
            bytes = bytes;
            took = took_within all.takes all.fits (λ e. all.at_end) (λ e. cc);
            replied = record { from = λ told start at. tells_replies.done (served.from told start at) };
            read = record { from = λ told start at. tells_reads.done (served.from told start at) };
            crash = record { from = λ keeps told start is each. (map line_of (lines_of bytes), inr (all.at_end, refl), left.from keeps told start is each) };
            shown = served.shown;
            cause = record { input = all.faults; output = stays };
            source_later = omega (arith, all.faults);
            later = later;
          }

      pub broke_records : (status : Status) → Stops g status (map line_of records) sitting desk new → Lasts g (map line_of records) sitting desk new → Rises g status desk new → Later g desk new
          → RanLines g s (once_taken lines_of) limit sitting source source' desk new status
      broke_records status stops lasts rises later =
          let stopped : Stops g status (map line_of (lines_of bytes)) sitting desk new = subst (λ (ls : List Line). Stops g status ls sitting desk new) lines_are stops in
          let left : Lasts g (map line_of (lines_of bytes)) sitting desk new = lasts_whole lasts in
          record {
            kinds = of_lines g desk new status (λ other. rises);
            bytes = bytes;
            took = took_within all.takes all.fits (λ e. all.at_end) (rises_too_long g desk new status rises);
            replied = record { from = λ told start at. stopped_by tells_replies (once_taken lines_of) s.told bytes (s.left source') (map line_of (lines_of bytes)) (inr (all.at_end, refl)) status (stopped.from told start at) };
            read = record { from = λ told start at. stopped_by tells_reads (once_taken lines_of) s.told bytes (s.left source') (map line_of (lines_of bytes)) (inr (all.at_end, refl)) status (stopped.from told start at) };
            crash = record { from = λ keeps told start is each. (map line_of (lines_of bytes), inr (all.at_end, refl), left.from keeps told start is each) };
            shown = λ told. shown_until (once_taken lines_of) s.told bytes (s.left source') (map line_of (lines_of bytes)) (inr (all.at_end, refl)) status (stopped.shown told);
            cause = caused_line g s source source' {from = desk} {to = desk} status all.faults stay_nothing (λ is. absurd (rises_done_not status rises is)) (λ other. rises);
            source_later = omega (arith, all.faults);
            later = later;
          }
        where
          rises_done_not : (st : Status) → Rises g st desk new → st ≡ statuses.Done → ⊥
          rises_done_not st rising is = rw is at rising
