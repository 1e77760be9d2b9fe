-- Records that are given one after another.
use Rattle.std.proofs.Common.{◌≡◌, ℕ, ◌<◌, List, [], ◌∷◌, ◌++◌, length, map, get_or, decimal, None, refl, sym, ap, ◌∙◌, subst, arith, append_assoc, append-nil, length-append}
use Rattle.std.proofs.lemmas.Grind.{flat_map-append}
use Rattle.std.proofs.lemmas.List.{map-append}
use Rattle.std.specs.List.{join_with_byte}
use Rattle.va_core.specs.Places.{place_of, vector_of}
use Rattle.va_disk.specs.Crashes.{Leaves}
use Rattle.va_disk.specs.Frames.{OnlyGives, OnlyReads}
use Rattle.va_disk.specs.Told.{GivesPrefix, IsProperPrefix}
use Rattle.va_disk.specs.declared.storage.Storage.{Ghosts}
use Rattle.va_disk.proofs.Giving.{proper_after, proper_first}
use Rattle.va_disk.proofs.Moments.{then_leaves, weaker}
use Rattle.va_layout.specs.Stands.{Kept}
use Rattle.va_model.specs.Exporting.{ExportLeaves, ExportsAll, ExportsFirst, GivesRows, ReadsAndGives, StopsInRow, exported, exported_ids, reads_in, row_in, rows_in}
use Rattle.va_model.specs.State.{State, StandsFor, Store, blank, holding}

-- a record has a byte: its newline
ends_with_byte : (text : List ℕ) → 0 < length (text ++ 10 ∷ [])
ends_with_byte text = omega (arith, length-append text (10 ∷ []))

pub no_row_is_empty : (kept : Kept) (id : ℕ) → IsProperPrefix [] (row_in kept id)
no_row_is_empty kept id = record {
  missing = row_in kept id;
  lacks = ends_with_byte (join_with_byte 44 (map decimal (id ∷ vector_of (get_or kept.places (place_of id kept.places) None))));
  is = refl;
}

pub rows_both : (kept : Kept) (a b : List ℕ) → rows_in kept (a ++ b) ≡ rows_in kept a ++ rows_in kept b
rows_both kept a b = flat_map-append (row_in kept) a b

pub reads_both : (kept : Kept) (a b : List ℕ) → reads_in kept (a ++ b) ≡ reads_in kept a ++ reads_in kept b
reads_both kept a b = map-append _ a b

module _ {D : Type 0} {g : Ghosts D} where
  -- of no ids nothing is given
  pub rows_none : (kept : Kept) (state : D) → GivesRows g kept [] state state
  rows_none kept state = record { given = sym (append-nil (g.given state)); read = sym (append-nil (g.reads state)) }

  pub rows_then : {kept : Kept} {a b : List ℕ} {old mid new : D} → GivesRows g kept a old mid → GivesRows g kept b mid new → GivesRows g kept (a ++ b) old new
  rows_then {kept} {a} {b} {old} {mid} {new} first next = record {
    given = next.given ∙ ap (λ (l : List ℕ). l ++ rows_in kept b) first.given ∙ append_assoc (g.given old) (rows_in kept a) (rows_in kept b)
        ∙ ap (λ (l : List ℕ). g.given old ++ l) (sym (rows_both kept a b));
    read = next.read ∙ ap (λ (l : List (ℕ × ℕ)). l ++ reads_in kept b) first.read ∙ append_assoc (g.reads old) (reads_in kept a) (reads_in kept b)
        ∙ ap (λ (l : List (ℕ × ℕ)). g.reads old ++ l) (sym (reads_both kept a b));
  }

  module _ {Part : List ℕ → ℕ → Type 0} {besides : ℕ → List ℕ} {kept : Kept} where
    -- records were given, and those behind them stopped
    pub stops_behind : {a b : List ℕ} {old mid new : D} → GivesRows g kept a old mid → StopsInRow g Part besides kept b mid new → StopsInRow g Part besides kept (a ++ b) old new
    stops_behind {a} {b} {old} {mid} {new} first next = record {
      before = a ++ next.before;
      id = next.id;
      later = next.later;
      are = ap (λ (l : List ℕ). a ++ l) next.are ∙ sym (append_assoc a next.before (next.id ∷ next.later));
      part = next.part;
      is_part = next.is_part;
      given = next.given ∙ ap (λ (l : List ℕ). l ++ (rows_in kept next.before ++ next.part)) first.given
          ∙ append_assoc (g.given old) (rows_in kept a) (rows_in kept next.before ++ next.part)
          ∙ ap (λ (l : List ℕ). g.given old ++ l) (sym (append_assoc (rows_in kept a) (rows_in kept next.before) next.part) ∙ ap (λ (l : List ℕ). l ++ next.part) (sym (rows_both kept a next.before)));
      read = next.read ∙ ap (λ (l : List (ℕ × ℕ)). l ++ reads_in kept (next.before ++ besides next.id)) first.read
          ∙ append_assoc (g.reads old) (reads_in kept a) (reads_in kept (next.before ++ besides next.id))
          ∙ ap (λ (l : List (ℕ × ℕ)). g.reads old ++ l) (sym (reads_both kept a (next.before ++ besides next.id)) ∙ ap (λ (l : List ℕ). reads_in kept l) (sym (append_assoc a next.before (besides next.id))));
    }

    -- records that stopped are followed by none
    pub stops_before : {a : List ℕ} {old new : D} (b : List ℕ) → StopsInRow g Part besides kept a old new → StopsInRow g Part besides kept (a ++ b) old new
    stops_before {a} {old} {new} b stops = record {
      before = stops.before;
      id = stops.id;
      later = stops.later ++ b;
      are = ap (λ (l : List ℕ). l ++ b) stops.are ∙ append_assoc stops.before (stops.id ∷ stops.later) b;
      part = stops.part;
      is_part = stops.is_part;
      given = stops.given;
      read = stops.read;
    }

  -- In the words of the state: all was given that is exported of it,
  pub exports_all : {store : Store} {old new : D} → GivesRows g store.kept (exported_ids store.kept) old new → ExportsAll g (holding store) old new
  exports_all rows = record { given = rows.given; read = rows.read }

  pub exports_none : (state : D) → ExportsAll g blank state state
  exports_none state = record { given = sym (append-nil (g.given state)); read = sym (append-nil (g.reads state)) }

  -- or a part of it.
  pub exports_first : {Part : List ℕ → ℕ → Type 0} {besides : ℕ → List ℕ} {store : Store} {old new : D} → ((part : List ℕ) (id : ℕ) → Part part id → IsProperPrefix part (row_in store.kept id))
      → (rest : ℕ → List ℕ) → ((id : ℕ) → besides id ++ rest id ≡ id ∷ []) → StopsInRow g Part besides store.kept (exported_ids store.kept) old new → ExportsFirst g (holding store) old new
  exports_first {Part} {besides} {store} {old} {new} proper rest joined stops =
      let kept = store.kept in
      let before = stops.before in
      let id = stops.id in
      let later = stops.later in
      record {
        part = rows_in kept before ++ stops.part;
        begins = subst (λ (l : List ℕ). IsProperPrefix (rows_in kept before ++ stops.part) l) (sym (ap (λ (l : List ℕ). rows_in kept l) stops.are ∙ rows_both kept before (id ∷ later)))
            (proper_after (rows_in kept before) stops.part (row_in kept id ++ rows_in kept later) (proper_first stops.part (row_in kept id) (rows_in kept later) (proper stops.part id stops.is_part)));
        given = stops.given;
        made = reads_in kept (before ++ besides id);
        first = record {
          rest = reads_in kept (rest id ++ later);
          is = sym (reads_both kept (before ++ besides id) (rest id ++ later))
              ∙ ap (λ (l : List ℕ). reads_in kept l) (append_assoc before (besides id) (rest id ++ later)
              ∙ ap (λ (l : List ℕ). before ++ l) (sym (append_assoc (besides id) (rest id) later) ∙ ap (λ (l : List ℕ). l ++ later) (joined id)) ∙ sym stops.are);
        };
        read = stops.read;
      }

  -- Nothing was given, or a text.
  pub frame_reads : {old new : D} {P : List ℕ → Type 0} → OnlyReads g old new → ReadsAndGives g old new P
  frame_reads {old} {new} {P} frame = record {
    image = frame.image;
    size = frame.size;
    crash = frame.crash;
    moments = λ honest told. weaker g.clock g.left_since old new _ _ (λ c given no. absurd no) (frame.moments honest);
  }

  pub frame_gives : {text : List ℕ} {old new : D} {P : List ℕ → Type 0} → OnlyGives g text old new → ((given : List ℕ) → GivesPrefix g.told (g.given old) text given → P given) → ReadsAndGives g old new P
  frame_gives {text} {old} {new} {P} frame leads = record {
    image = frame.image;
    size = frame.size;
    crash = frame.crash;
    moments = λ honest told. weaker g.clock g.left_since old new _ _ (λ c given has. (has.0, leads given has.1)) (frame.moments honest told);
  }

  pub frame_weaker : {old new : D} {P Q : List ℕ → Type 0} → ReadsAndGives g old new P → ((given : List ℕ) → P given → Q given) → ReadsAndGives g old new Q
  frame_weaker {old} {new} {P} {Q} frame leads = record {
    image = frame.image;
    size = frame.size;
    crash = frame.crash;
    moments = λ honest told. weaker g.clock g.left_since old new _ _ (λ c given has. (has.0, leads given has.1)) (frame.moments honest told);
  }

  -- One after another.
  pub frames_both : {old mid new : D} {P Q R : List ℕ → Type 0} → ReadsAndGives g old mid P → ReadsAndGives g mid new Q
      → ((given : List ℕ) → P given → R given) → ((given : List ℕ) → Q given → R given) → ReadsAndGives g old new R
  frames_both {old} {mid} {new} {P} {Q} {R} first next before behind = record {
    image = next.image ∙ first.image;
    size = next.size ∙ first.size;
    crash = λ honest c left. first.crash honest c (next.crash honest c left);
    moments = λ honest told. then_leaves g.clock g.left_since old mid new _
        (weaker g.clock g.left_since old mid _ _ (λ c given has. (has.0, before given has.1)) (first.moments honest told))
        (weaker g.clock g.left_since mid new _ _ (λ c given has. (first.crash honest c has.0, behind given has.1)) (next.moments honest told));
  }

  -- what a crash leaves of a state that each outcome of the start stands for
  pub export_leaves : {start : State} {old new : D} {P : List ℕ → Type 0} → ReadsAndGives g old new P → g.honest → g.told → ((c : List ℕ) → g.may_leave old c → StandsFor start c)
      → ((given : List ℕ) → P given → GivesPrefix g.told (g.given old) (exported start) given) → Leaves g.clock g.left_since old new (ExportLeaves start (g.given old))
  export_leaves {start} {old} {new} {P} frame honest told stands leads = weaker g.clock g.left_since old new _ _
      (λ c given has. (
      let part = leads given has.1 in
      record { stands = stands c has.0; part = part.part; begins = part.begins; given_is = part.given told }))
      (frame.moments honest told)
