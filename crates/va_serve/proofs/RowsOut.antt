-- The records of a store are given one after another.
use Rattle.std.proofs.Common.{◌≡◌, ℕ, zero, suc, ◌+◌, ◌≤◌, List, [], ◌∷◌, ◌++◌, length, take, drop, get_or, Option, None, Some, Result, Ok, Err, OnOk, IfErr, refl, sym, ap, ◌∙◌, subst, arith, append-nil}
use Rattle.std.proofs.lemmas.List.{take-append-drop, take_all}
use Rattle.va_core.specs.Above.{live_above}
use Rattle.va_core.specs.Places.{Item, place_of, vector_of}
use Rattle.va_core.specs.Shape.{Shape}
use Rattle.va_csv.specs.Lines.{row_of}
use Rattle.va_cursor.specs.Cursors.{Cursor}
use Rattle.va_disk.specs.Crashes.{Leaves}
use Rattle.va_disk.specs.Frames.{OnlyGives, OnlyReads}
use Rattle.va_disk.specs.Told.{Gives, GivesPart, GivesPrefix, IsProperPrefix}
use Rattle.va_disk.specs.declared.storage.Storage.{Ghosts}
use Rattle.va_disk.proofs.Frames.{reads_nothing}
use Rattle.va_disk.proofs.Moments.{nothing_leaves}
use Rattle.va_disk.proofs.Giving.{gives_prefix_after, gives_prefix_first}
use Rattle.va_layout.specs.Layout.{vector_at}
use Rattle.va_layout.specs.Stands.{Kept, Opens}
use Rattle.va_model.specs.Exporting.{ExportLeaves, GivesRows, ReadsAndGives, exported_ids, read_in, row_in, rows_in}
use Rattle.va_model.specs.State.{State, Store, blank, holding}
use Rattle.va_model.proofs.GivingRows.{export_leaves, exports_all, exports_first, exports_none, frame_gives, frame_reads, frame_weaker, frames_both, no_row_is_empty, rows_both, rows_none, rows_then, stops_before, stops_behind}
use Rattle.va_requant.proofs.Advancing.{FollowNext, drop_next}
use Rattle.va_serve.specs.Exporting.{ExportCaused, ExportLasts, Exports, ExportsTo, GivesFirstRows, OfEachKept, RowsTo, StopsBy}
use Rattle.va_serve.specs.Failing.{CountsStay, Later}
use Rattle.va_serve.specs.Session.{AreSecure, FitsSession, IsAt, no_store, over_store, with_store}
use Rattle.va_serve.specs.declared.status.Status.{Status}
use Rattle.va_serve.specs.declared.status.Status.TheVariants as statuses
use Rattle.va_serve.proofs.Progressing.{later_both, later_nothing, rises_behind, stay_both, stay_nothing}
use Rattle.va_serve.proofs.Stored.{place_is}
use Rattle.va_store.specs.Ids.{IsNextLive}
use Rattle.va_store.specs.Known.{IsOf, Keeps, Known, place_of_id}
use Rattle.va_store.specs.ShelfReads.{read_of_id}

-- The record of an id and the read of its vector, by the place that the store knows.
row_is : (held : Known) (kept : Kept) (id : ℕ) (vector : List ℕ) → IsOf held kept → get_or kept.places (place_of_id id held.ids) None ≡ Some (record { id = id; vector = vector }) → row_in kept id ≡ row_of id vector
row_is held kept id vector is found =
    let item : get_or kept.places (place_of id kept.places) None ≡ Some (record { id = id; vector = vector }) = ap (λ (p : ℕ). get_or kept.places p None) (sym (place_is held kept id is)) ∙ found in
    ap (λ (o : Option Item). row_of id (vector_of o)) item

read_is : (held : Known) (kept : Kept) (id : ℕ) → IsOf held kept → read_of_id held id ≡ read_in kept id
read_is held kept id is = ap (λ (p : ℕ). (vector_at held.shape p, held.shape.dims)) (place_is held kept id is) ∙ ap (λ (shape : Shape). (vector_at shape (place_of id kept.places), shape.dims)) is.shape

-- the vector of an id was read
pub record ReadsRow {D : Type 0} (g : Ghosts D) (held : Known) (id : ℕ) (vector : List ℕ) (old mid : D) : Type 0 where
  pub frame : OnlyReads g old mid
  pub keeps : Keeps g held old (place_of_id id held.ids) (record { id = id; vector = vector })
  pub read : g.told → g.reads mid ≡ g.reads old ++ read_of_id held id ∷ []

module _ {D : Type 0} {g : Ghosts D} {held : Known} {id : ℕ} {old mid : D} where
  -- One record: its vector wasn't read, or there was no memory for it.
  pub row_unread : OnlyReads g old mid → g.reads mid ≡ g.reads old → OfEachKept g (Some held) old (λ kept. StopsBy g statuses.DiskFault kept (id ∷ []) old mid)
  row_unread frame same told kept is opens = record {
    before = [];
    id = id;
    later = [];
    are = refl;
    part = [];
    is_part = refl;
    given = frame.given ∙ sym (append-nil (g.given old));
    read = same ∙ sym (append-nil (g.reads old));
  }

  module _ {vector : List ℕ} (row : ReadsRow g held id vector old mid) where
    read_there : g.told → (kept : Kept) → IsOf held kept → g.reads mid ≡ g.reads old ++ read_in kept id ∷ []
    read_there told kept is = row.read told ∙ ap (λ (read : ℕ × ℕ). g.reads old ++ read ∷ []) (read_is held kept id is)

    pub row_unmade : OfEachKept g (Some held) old (λ kept. StopsBy g statuses.Memory kept (id ∷ []) old mid)
    row_unmade told kept is opens = record {
      before = [];
      id = id;
      later = [];
      are = refl;
      part = [];
      is_part = refl;
      given = row.frame.given ∙ sym (append-nil (g.given old));
      read = read_there told kept is;
    }

    -- Its text was given, or a part of it.
    module _ {new : D} {text : List ℕ} (made : text ≡ row_of id vector) (frame : OnlyGives g text mid new) where
      text_is : g.told → (kept : Kept) → IsOf held kept → Opens kept (g.image old) → text ≡ row_in kept id
      text_is told kept is opens = made ∙ sym (row_is held kept id vector is (row.keeps told kept is opens))

      pub row_given : Gives g.told (g.given mid) text (g.given new) → OfEachKept g (Some held) old (λ kept. GivesRows g kept (id ∷ []) old new)
      row_given given told kept is opens = record {
        given = given told ∙ ap (λ (l : List ℕ). l ++ text) row.frame.given ∙ ap (λ (l : List ℕ). g.given old ++ l) (text_is told kept is opens ∙ sym (append-nil (row_in kept id)));
        read = frame.reads ∙ read_there told kept is;
      }

      pub row_cut : GivesPart g.told (g.given mid) text (g.given new) → OfEachKept g (Some held) old (λ kept. StopsBy g statuses.WriteFault kept (id ∷ []) old new)
      row_cut part told kept is opens = record {
        before = [];
        id = id;
        later = [];
        are = refl;
        part = part.part;
        is_part = subst (λ (l : List ℕ). IsProperPrefix part.part l) (text_is told kept is opens) part.begins;
        given = part.given told ∙ ap (λ (l : List ℕ). l ++ part.part) row.frame.given;
        read = frame.reads ∙ read_there told kept is;
      }

      pub row_frame : ReadsAndGives g old new (GivesFirstRows g (Some held) (λ kept. id ∷ []) old)
      row_frame = frames_both (frame_reads row.frame) (frame_gives frame leads) (λ given has. has) (λ given has. has)
        where
          leads : (given : List ℕ) → GivesPrefix g.told (g.given mid) text given → GivesFirstRows g (Some held) (λ kept. id ∷ []) old given
          leads given has told kept is opens =
              subst (λ (l : List ℕ). GivesPrefix g.told l (rows_in kept (id ∷ [])) given) row.frame.given
              (subst (λ (l : List ℕ). GivesPrefix g.told (g.given mid) l given) (text_is told kept is opens ∙ sym (append-nil (row_in kept id))) has)

      -- By the outcome of the giving.
      pub row_given_if : {T E : Type 0} (result : Result T E) → OnOk result (Gives g.told (g.given mid) text (g.given new)) → OnOk result (OfEachKept g (Some held) old (λ kept. GivesRows g kept (id ∷ []) old new))
      row_given_if (Ok value) given = row_given given
      row_given_if (Err fault) given = tt

      pub row_cut_if : {T : Type 0} (result : Result T Status) → IfErr result (λ status. (status ≡ statuses.WriteFault) × GivesPart g.told (g.given mid) text (g.given new))
          → IfErr result (λ status. OfEachKept g (Some held) old (λ kept. StopsBy g status kept (id ∷ []) old new))
      row_cut_if (Ok value) part = tt
      row_cut_if (Err status) part = subst (λ (s : Status). OfEachKept g (Some held) old (λ kept. StopsBy g s kept (id ∷ []) old new)) (sym part.0) (row_cut part.1)

-- Records behind records.
stopped_behind : {D : Type 0} {g : Ghosts D} {kept : Kept} {a : List ℕ} {old mid : D} (b : List ℕ) (new : D) (status : Status) → GivesRows g kept a old mid → StopsBy g status kept b mid new → StopsBy g status kept (a ++ b) old new
stopped_behind b new statuses.WriteFault rows stops = stops_behind rows stops
stopped_behind b new statuses.DiskFault rows stops = stops_behind rows stops
stopped_behind b new statuses.Memory rows stops = stops_behind rows stops
stopped_behind b new statuses.Done rows stops = absurd stops
stopped_behind b new statuses.Usage rows stops = absurd stops
stopped_behind b new statuses.ReadFault rows stops = absurd stops
stopped_behind b new (statuses.Store why) rows stops = absurd stops
stopped_behind b new (statuses.Mismatch place dist low high) rows stops = absurd stops
stopped_behind b new (statuses.Changed place) rows stops = absurd stops
stopped_behind b new statuses.TooLong rows stops = absurd stops

stopped_before : {D : Type 0} (g : Ghosts D) (kept : Kept) (a b : List ℕ) (old new : D) (status : Status) → StopsBy g status kept a old new → StopsBy g status kept (a ++ b) old new
stopped_before g kept a b old new statuses.WriteFault stops = stops_before b stops
stopped_before g kept a b old new statuses.DiskFault stops = stops_before b stops
stopped_before g kept a b old new statuses.Memory stops = stops_before b stops
stopped_before g kept a b old new statuses.Done stops = absurd stops
stopped_before g kept a b old new statuses.Usage stops = absurd stops
stopped_before g kept a b old new statuses.ReadFault stops = absurd stops
stopped_before g kept a b old new (statuses.Store why) stops = absurd stops
stopped_before g kept a b old new (statuses.Mismatch place dist low high) stops = absurd stops
stopped_before g kept a b old new (statuses.Changed place) stops = absurd stops
stopped_before g kept a b old new statuses.TooLong stops = absurd stops

caused_behind : {D : Type 0} {g : Ghosts D} {old mid : D} (new : D) (status : Status) → CountsStay g old mid → ExportCaused g status mid new → ExportCaused g status old new
caused_behind new statuses.Done stays cause = stay_both stays cause
caused_behind new statuses.WriteFault stays cause = rises_behind new statuses.WriteFault stays cause
caused_behind new statuses.DiskFault stays cause = rises_behind new statuses.DiskFault stays cause
caused_behind new statuses.Memory stays cause = stay_both stays cause
caused_behind new statuses.Usage stays cause = absurd cause
caused_behind new statuses.ReadFault stays cause = absurd cause
caused_behind new (statuses.Store why) stays cause = absurd cause
caused_behind new (statuses.Mismatch place dist low high) stays cause = absurd cause
caused_behind new (statuses.Changed place) stays cause = absurd cause
caused_behind new statuses.TooLong stays cause = absurd cause

-- what was given of the first ids is a first part of what is given of more
given_more : {D : Type 0} (g : Ghosts D) (held : Known) (a b : List ℕ) (old : D) (given : List ℕ) → GivesFirstRows g (Some held) (λ kept. a) old given → GivesFirstRows g (Some held) (λ kept. a ++ b) old given
given_more g held a b old given has told kept is opens =
    subst (λ (l : List ℕ). GivesPrefix g.told (g.given old) l given) (sym (rows_both kept a b))
    (gives_prefix_first g.told (g.given old) given given (rows_in kept a) (rows_in kept b) (has told kept is opens))

module _ {D : Type 0} {g : Ghosts D} (held : Known) (a : List ℕ) {old mid : D} where
  pub frame_more : (b : List ℕ) → ReadsAndGives g old mid (GivesFirstRows g (Some held) (λ kept. a) old) → ReadsAndGives g old mid (GivesFirstRows g (Some held) (λ kept. a ++ b) old)
  frame_more b frame = frame_weaker frame (λ given has. given_more g held a b old given has)

  module _ (b : List ℕ) (rows : OfEachKept g (Some held) old (λ kept. GivesRows g kept a old mid)) (frame : ReadsAndGives g old mid (GivesFirstRows g (Some held) (λ kept. a) old)) where
    pub frame_then : {new : D} → ReadsAndGives g mid new (GivesFirstRows g (Some held) (λ kept. b) mid) → ReadsAndGives g old new (GivesFirstRows g (Some held) (λ kept. a ++ b) old)
    frame_then {new} next = frames_both frame next (λ given has. given_more g held a b old given has) behind
      where
        behind : (given : List ℕ) → GivesFirstRows g (Some held) (λ kept. b) mid given → GivesFirstRows g (Some held) (λ kept. a ++ b) old given
        behind given has told kept is opens =
            subst (λ (l : List ℕ). GivesPrefix g.told (g.given old) l given) (sym (rows_both kept a b))
            (gives_prefix_after g.told (g.given old) (g.given mid) given (rows_in kept a) (rows_in kept b) (λ tells. (rows told kept is opens).given) (has told kept is (subst (Opens kept) (sym frame.image) opens)))

    pub each_then : (new : D) → OfEachKept g (Some held) mid (λ kept. GivesRows g kept b mid new) → OfEachKept g (Some held) old (λ kept. GivesRows g kept (a ++ b) old new)
    each_then new next told kept is opens = rows_then (rows told kept is opens) (next told kept is (subst (Opens kept) (sym frame.image) opens))

    pub each_stops : (new : D) (status : Status) → OfEachKept g (Some held) mid (λ kept. StopsBy g status kept b mid new) → OfEachKept g (Some held) old (λ kept. StopsBy g status kept (a ++ b) old new)
    each_stops new status next told kept is opens = stopped_behind b new status (rows told kept is opens) (next told kept is (subst (Opens kept) (sym frame.image) opens))

-- a disk that was only read still fits
pub fits_still : {D : Type 0} {g : Ghosts D} {old new : D} {P : List ℕ → Type 0} (held : Known) → FitsSession g (over_store held) old → ReadsAndGives g old new P → FitsSession g (over_store held) new
fits_still held fits frame = rw (frame.size, frame.image) fits

take_next : (n : ℕ) (l : List ℕ) {x : ℕ} {r : List ℕ} → drop n l ≡ x ∷ r → take (suc n) l ≡ take n l ++ x ∷ []
take_next zero [] e = cc
take_next zero (y ∷ l) {x} {r} e = (let same : y ≡ x = cc in ap (λ (z : ℕ). z ∷ []) same)
take_next (suc n) [] e = cc
take_next (suc n) (y ∷ l) e = ap (λ (t : List ℕ). y ∷ t) (take_next n l e)

-- This many records were given, of which that of this id was the last.
pub record GivesUpTo {D : Type 0} (g : Ghosts D) (first : Known) (start : D) (count : ℕ) (last : Option ℕ) (store : Known) (desk : D) (vector : List ℕ) : Type 0 where
  pub same : store ≡ first
  pub fits : FitsSession g (over_store first) desk
  pub left : live_above last first.ids ≡ drop count (live_above None first.ids)
  pub rows : OfEachKept g (Some first) start (λ kept. GivesRows g kept (take count (live_above None first.ids)) start desk)
  pub frame : ReadsAndGives g start desk (GivesFirstRows g (Some first) (λ kept. take count (live_above None first.ids)) start)
  pub stay : CountsStay g start desk
  pub later : Later g start desk
  pub long : length vector ≡ first.shape.dims

pub gives_up_to_none : {D : Type 0} {g : Ghosts D} {first : Known} {start : D} {vector : List ℕ} → FitsSession g (over_store first) start → length vector ≡ first.shape.dims → GivesUpTo g first start 0 None first start vector
gives_up_to_none {D} {g} {first} {start} fits long = record {
  same = refl;
  fits = fits;
  left = refl;
  rows = λ told kept is opens. rows_none kept start;
  frame = frame_reads reads_nothing;
  stay = stay_nothing;
  later = later_nothing;
  long = long;
}

-- the record of an id was tried
pub record TriesRow {D : Type 0} (g : Ghosts D) (store : Known) (id : ℕ) (desk after : D) : Type 0 where
  pub frame : ReadsAndGives g desk after (GivesFirstRows g (Some store) (λ kept. id ∷ []) desk)
  pub later : Later g desk after

module _ {D : Type 0} {g : Ghosts D} {first store : Known} {start desk after : D} {count id : ℕ} {last : Option ℕ} {vector : List ℕ}
    (law : FollowNext first.ids) (so_far : GivesUpTo g first start count last store desk vector) (is_next : IsNextLive last store.ids (Some id)) (tried : TriesRow g store id desk after) where
  abbrev all : List ℕ
  all = live_above None first.ids

  waits : drop count all ≡ id ∷ live_above (Some id) first.ids
  waits = sym so_far.left ∙ law last id (subst (λ (k : Known). IsNextLive last k.ids (Some id)) so_far.same is_next)

  one : count + 1 ≡ suc count
  one = omega arith

  next_all : take (count + 1) all ≡ take count all ++ id ∷ []
  next_all = ap (λ (n : ℕ). take n all) one ∙ take_next count all waits

  tries : TriesRow g first id desk after
  tries = subst (λ (k : Known). TriesRow g k id desk after) so_far.same tried

  frame_next : ReadsAndGives g start after (GivesFirstRows g (Some first) (λ kept. take (count + 1) all) start)
  frame_next = subst (λ (ids : List ℕ). ReadsAndGives g start after (GivesFirstRows g (Some first) (λ kept. ids) start)) (sym next_all)
      (frame_then first (take count all) (id ∷ []) so_far.rows so_far.frame tries.frame)

  -- it was given,
  pub gives_up_to_next : {new : Known} {out : List ℕ} → OfEachKept g (Some store) desk (λ kept. GivesRows g kept (id ∷ []) desk after) → CountsStay g desk after → new ≡ store → length out ≡ length vector
      → GivesUpTo g first start (count + 1) (Some id) new after out
  gives_up_to_next {new} {out} rows stay same long = record {
    same = same ∙ so_far.same;
    fits = fits_still first so_far.fits tries.frame;
    left = sym (drop_next count all waits) ∙ ap (λ (n : ℕ). drop n all) (sym one);
    rows = subst (λ (ids : List ℕ). OfEachKept g (Some first) start (λ kept. GivesRows g kept ids start after)) (sym next_all)
        (each_then first (take count all) (id ∷ []) so_far.rows so_far.frame after (subst (λ (k : Known). OfEachKept g (Some k) desk (λ kept. GivesRows g kept (id ∷ []) desk after)) so_far.same rows));
    frame = frame_next;
    stay = stay_both so_far.stay stay;
    later = later_both so_far.later tries.later;
    long = long ∙ so_far.long;
  }

  -- or it stopped the others.
  there : take (count + 1) all ++ drop (count + 1) all ≡ all
  there = take-append-drop (count + 1) all

  pub all_stop : (status : Status) → OfEachKept g (Some store) desk (λ kept. StopsBy g status kept (id ∷ []) desk after) → OfEachKept g (Some first) start (λ kept. StopsBy g status kept all start after)
  all_stop status stops = subst (λ (ids : List ℕ). OfEachKept g (Some first) start (λ kept. StopsBy g status kept ids start after)) there (λ told kept is opens.
      stopped_before g kept (take (count + 1) all) (drop (count + 1) all) start after status
      (subst (λ (ids : List ℕ). StopsBy g status kept ids start after) (sym next_all)
      (each_stops first (take count all) (id ∷ []) so_far.rows so_far.frame after status (subst (λ (k : Known). OfEachKept g (Some k) desk (λ kept. StopsBy g status kept (id ∷ []) desk after)) so_far.same stops) told kept is opens)))

  pub all_frame : ReadsAndGives g start after (GivesFirstRows g (Some first) (λ kept. all) start)
  all_frame = subst (λ (ids : List ℕ). ReadsAndGives g start after (GivesFirstRows g (Some first) (λ kept. ids) start)) there
      (frame_more first (take (count + 1) all) (drop (count + 1) all) frame_next)

  pub all_caused : (status : Status) → ExportCaused g status desk after → ExportCaused g status start after
  all_caused status cause = caused_behind after status so_far.stay cause

  pub all_later : Later g start after
  all_later = later_both so_far.later tries.later

-- all of them were given
module _ {D : Type 0} {g : Ghosts D} {first store : Known} {start desk : D} {count : ℕ} {last : Option ℕ} {vector : List ℕ} (so_far : GivesUpTo g first start count last store desk vector) (full : length (live_above None first.ids) ≤ count) where
  whole : take count (live_above None first.ids) ≡ live_above None first.ids
  whole = take_all count (live_above None first.ids) full

  pub all_rows : OfEachKept g (Some first) start (λ kept. GivesRows g kept (live_above None first.ids) start desk)
  all_rows = subst (λ (ids : List ℕ). OfEachKept g (Some first) start (λ kept. GivesRows g kept ids start desk)) whole so_far.rows

  pub all_given : ReadsAndGives g start desk (GivesFirstRows g (Some first) (λ kept. live_above None first.ids) start)
  all_given = subst (λ (ids : List ℕ). ReadsAndGives g start desk (GivesFirstRows g (Some first) (λ kept. ids) start)) whole so_far.frame

-- By the status, and in the words of the state.
pub rows_by : {D : Type 0} (g : Ghosts D) (kept : Kept) (ids : List ℕ) (old new : D) (status : Status) → StopsBy g status kept ids old new → RowsTo g status kept ids old new
rows_by g kept ids old new statuses.WriteFault stops = stops
rows_by g kept ids old new statuses.DiskFault stops = stops
rows_by g kept ids old new statuses.Memory stops = stops
rows_by g kept ids old new statuses.Done stops = absurd stops
rows_by g kept ids old new statuses.Usage stops = absurd stops
rows_by g kept ids old new statuses.ReadFault stops = absurd stops
rows_by g kept ids old new (statuses.Store why) stops = absurd stops
rows_by g kept ids old new (statuses.Mismatch place dist low high) stops = absurd stops
rows_by g kept ids old new (statuses.Changed place) stops = absurd stops
rows_by g kept ids old new statuses.TooLong stops = absurd stops

nothing_of : (kept : Kept) (part : List ℕ) (id : ℕ) → part ≡ [] → IsProperPrefix part (row_in kept id)
nothing_of kept part id none = subst (λ (l : List ℕ). IsProperPrefix l (row_in kept id)) (sym none) (no_row_is_empty kept id)

exports_by : {D : Type 0} (g : Ghosts D) (store : Store) (old new : D) (status : Status) → RowsTo g status store.kept (exported_ids store.kept) old new → ExportsTo g status (holding store) old new
exports_by g store old new statuses.Done rows = exports_all rows
exports_by g store old new statuses.WriteFault rows = exports_first (λ part id is. is) (λ id. []) (λ id. refl) rows
exports_by g store old new statuses.DiskFault rows = exports_first (λ part id is. nothing_of store.kept part id is) (λ id. id ∷ []) (λ id. refl) rows
exports_by g store old new statuses.Memory rows = exports_first (λ part id is. nothing_of store.kept part id is) (λ id. []) (λ id. refl) rows
exports_by g store old new statuses.Usage rows = absurd rows
exports_by g store old new statuses.ReadFault rows = absurd rows
exports_by g store old new (statuses.Store why) rows = absurd rows
exports_by g store old new (statuses.Mismatch place dist low high) rows = absurd rows
exports_by g store old new (statuses.Changed place) rows = absurd rows
exports_by g store old new statuses.TooLong rows = absurd rows

ids_are : (held : Known) (kept : Kept) → IsOf held kept → live_above None held.ids ≡ exported_ids kept
ids_are held kept is = ap (λ (ids : List (Option ℕ)). live_above None ids) is.ids

module _ {D : Type 0} (g : Ghosts D) (held : Known) (old new : D) where
  pub rows_kept : (status : Status) → OfEachKept g (Some held) old (λ kept. RowsTo g status kept (live_above None held.ids) old new)
      → OfEachKept g (Some held) old (λ kept. RowsTo g status kept (exported_ids kept) old new)
  rows_kept status rows told kept is opens = subst (λ (ids : List ℕ). RowsTo g status kept ids old new) (ids_are held kept is) (rows told kept is opens)

  pub frame_kept : ReadsAndGives g old new (GivesFirstRows g (Some held) (λ kept. live_above None held.ids) old) → ReadsAndGives g old new (GivesFirstRows g (Some held) exported_ids old)
  frame_kept frame = frame_weaker frame leads
    where
      leads : (given : List ℕ) → GivesFirstRows g (Some held) (λ kept. live_above None held.ids) old given → GivesFirstRows g (Some held) exported_ids old given
      leads given has told kept is opens = subst (λ (ids : List ℕ). GivesPrefix g.told (g.given old) (rows_in kept ids) given) (ids_are held kept is) (has told kept is opens)

  module _ (cursors : List (Option Cursor)) where
    pub exports_kept : (status : Status) → OfEachKept g (Some held) old (λ kept. RowsTo g status kept (exported_ids kept) old new) → Exports g status (with_store cursors held) old new
    exports_kept status rows = record { from = of_start }
      where
        of_start : g.told → (start : State) → IsAt start (with_store cursors held) (g.image old) → ExportsTo g status start old new
        of_start told blank at = absurd at.is
        of_start told (holding store) at = exports_by g store old new status (rows told store.kept at.is.kept at.stands.opens)

    pub lasts_kept : ReadsAndGives g old new (GivesFirstRows g (Some held) exported_ids old) → ExportLasts g (with_store cursors held) old new
    lasts_kept frame = record { from = of_start }
      where
        of_start : g.honest → g.told → (start : State) → IsAt start (with_store cursors held) (g.image old) → AreSecure start (with_store cursors held) (g.may_leave old)
            → Leaves g.clock g.left_since old new (ExportLeaves start (g.given old))
        of_start honest told blank at secure = absurd at.is
        of_start honest told (holding store) at secure = export_leaves frame honest told (λ c left. (secure c left).0) (λ given has. has told store.kept at.is.kept at.stands.opens)

-- Without a store there is nothing to export.
module _ {D : Type 0} {g : Ghosts D} (desk : D) where
  pub exports_nothing : Exports g statuses.Done no_store desk desk
  exports_nothing = record { from = of_start }
    where
      of_start : g.told → (start : State) → IsAt start no_store (g.image desk) → ExportsTo g statuses.Done start desk desk
      of_start told blank at = exports_none desk
      of_start told (holding store) at = absurd at.is

  pub lasts_nothing : ExportLasts g no_store desk desk
  lasts_nothing = record { from = λ honest told start at secure. nothing_leaves g.clock g.left_since desk (ExportLeaves start (g.given desk)) }

  pub frame_nothing : {P : List ℕ → Type 0} → ReadsAndGives g desk desk P
  frame_nothing = frame_reads reads_nothing
