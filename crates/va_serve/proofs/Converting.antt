-- What comes of the commands that refit the cells.
use Rattle.std.proofs.Common.{◌≡◌, inl, inr, ⊎_elim, ℕ, zero, suc, ◌+◌, ◌-◌, ◌≤◌, ◌<◌, nat_lt, not, Bool, true, false, List, [], ◌∷◌, ◌++◌, length, map, take, get_or, Option, None, Some, is_some, Result, Ok, Err, if◌then◌else◌, refl, ap, sym, ◌∙◌, subst, arith, append-nil}
use Rattle.std.proofs.lemmas.Bool.Decides.{nat_tests}
use Rattle.std.specs.List.{AllByRecursion}
use Rattle.va_core.specs.Above.{is_above, live_above, placed}
use Rattle.va_core.specs.Marks.{marks_of}
use Rattle.va_core.specs.Shape.{Shape}
use Rattle.va_cursor.specs.Cursors.{Cursor}
use Rattle.va_disk.specs.Crashes.{Each, Leaves}
use Rattle.va_disk.specs.Frames.{IsStable, OnlyReads}
use Rattle.va_disk.specs.declared.storage.Storage.{Ghosts}
use Rattle.va_disk.proofs.Moments.{weaker}
use Rattle.va_lang.specs.Command.{Command, convert, requant}
use Rattle.va_lang.specs.Reply as replies
use Rattle.va_lang.specs.Reply.{Reply, error}
use Rattle.va_lang.specs.declared.reply.Why.TheVariants.{Busy, Idle, Memory}
use Rattle.va_layout.specs.Fields.{marks_range, selection_range}
use Rattle.va_layout.specs.Layout.{other_region, vector_at}
use Rattle.va_layout.specs.Parts.{KeepsRest}
use Rattle.va_layout.specs.Stands.{Building, Kept, Opens, Stands, selected_in, with_marks}
use Rattle.va_layout.proofs.Regions.{marks_end, region_ends}
use Rattle.va_model.specs.Memory.{wants_memory}
use Rattle.va_model.specs.Refitting.{converts, converts_all, converts_first, converts_of, fitted_marks, ids_above, places_of, requant_row, vectors_of, with_building}
use Rattle.va_model.specs.Rows.{Outcome, between, first_reason}
use Rattle.va_model.specs.Searching.{items_of}
use Rattle.va_model.specs.State.{State, StandsFor, Store, blank, holding, only_kept}
use Rattle.va_model.specs.Step.{effect, reads_of, refusal, want}
use Rattle.va_model.specs.VectorReads.{Adds, AreFirst}
use Rattle.va_model.proofs.Reading.{adds_first, adds_vectors}
use Rattle.va_requant.specs.Refitting.{SameOrChanged, advanced, all_live, kept_after, other_range, progress, waiting}
use Rattle.va_requant.specs.Refitting as refitting
use Rattle.va_requant.specs.declared.progress.Progress.{Progress}
use Rattle.va_requant.specs.declared.progress.Progress.TheVariants.{More, Switched}
use Rattle.va_serve.specs.Bounds.{ReadsNoMore}
use Rattle.va_serve.specs.Held.{HaveShape}
use Rattle.va_serve.specs.Promises.{Carries, Loses, Reached, Survives, asked_by, of_command}
use Rattle.va_serve.specs.Session.{Is, IsAt, IsStoreOf, KeepsHeld, over_store, with_store}
use Rattle.va_serve.proofs.Holding.{vectors_stay}
use Rattle.va_serve.proofs.Outcomes.{RefusedIn, effect_outcome, memory_later, reached_by, survives_reading}
use Rattle.va_serve.proofs.Places.{count_live}
use Rattle.va_serve.proofs.Stored.{HeldVectorsStay, place_is}
use Rattle.va_store.specs.Builds.{last_of, marks_of_building, reaching}
use Rattle.va_store.specs.Ids.{live_count}
use Rattle.va_store.specs.Known.{Becomes, Known, IsOf}
use Rattle.va_store.specs.Refits.{ReadsFirst, ReadsThese, StaysIn, StandsIn, begun, converted, refitted, same_kept, switched}
use Rattle.va_store.specs.ShelfReads.{read_of_id}

-- The store is one of what is kept, and builds what the state does.
pub record Builds (held : Known) (store : Store) : Type 0 where
  pub kept : IsOf held store.kept
  pub building : held.building ≡ store.building

abbrev of_store : {held : Known} {store : Store} {cursors : List (Option Cursor)} → IsStoreOf store held cursors → Builds held store
of_store is = record { kept = is.kept; building = is.building }

-- The ids above another, where they live, and their vectors.
ids_there : (held : Known) (store : Store) → IsOf held store.kept → (after : Option ℕ) → live_above after held.ids ≡ ids_above after store
ids_there held store is after = ap (λ (ids : List (Option ℕ)). live_above after ids) is.ids

reads_there : (held : Known) (store : Store) → IsOf held store.kept → (ids : List ℕ) → map (read_of_id held) ids ≡ reads_of (holding store) (places_of ids store)
reads_there held store is [] = refl
reads_there held store is (id ∷ ids) = rw (is.shape, place_is held store.kept id is, reads_there held store is ids) refl

vectors_there : (held : Known) (store : Store) → IsOf held store.kept → (ids : List ℕ) → refitting.vectors_of held store.kept ids ≡ vectors_of ids store
vectors_there held store is [] = refl
vectors_there held store is (id ∷ ids) = rw (place_is held store.kept id is, vectors_there held store is ids) refl

-- there are as many as are live
count_placed : (id : ℕ) (ids : List ℕ) → length (placed id ids) ≡ length ids + 1
count_placed id [] = refl
count_placed id (other ∷ ids) = by_order (nat_lt other id) (count_placed id ids)
  where
    by_order : (less : Bool) → length (placed id ids) ≡ length ids + 1 → length (if less then other ∷ placed id ids else id ∷ other ∷ ids) ≡ suc (length ids) + 1
    by_order true rest = omega (arith, rest)
    by_order false rest = omega arith

count_ids : (ids : List (Option ℕ)) → length (live_above None ids) ≡ live_count ids
count_ids [] = refl
count_ids (None ∷ ids) = count_ids ids
count_ids (Some id ∷ ids) = count_placed id (live_above None ids) ∙ ap (λ (n : ℕ). n + 1) (count_ids ids)

pub count_all : (held : Known) (store : Store) → IsOf held store.kept → length (all_live held) ≡ length (items_of store)
count_all held store is = count_ids held.ids ∙ ap live_count is.ids ∙ count_live store.kept.places

-- each of them is above the other
above_placed : (after : Option ℕ) (id : ℕ) (ids : List ℕ) → is_above after id ≡ true → AllByRecursion (λ (other : ℕ). is_above after other ≡ true) ids → AllByRecursion (λ (other : ℕ). is_above after other ≡ true) (placed id ids)
above_placed after id [] is all = (is, tt)
above_placed after id (other ∷ ids) is all = by_order (nat_lt other id) (above_placed after id ids is all.1)
  where
    by_order : (less : Bool) → AllByRecursion (λ (o : ℕ). is_above after o ≡ true) (placed id ids) → AllByRecursion (λ (o : ℕ). is_above after o ≡ true) (if less then other ∷ placed id ids else id ∷ other ∷ ids)
    by_order true rest = (all.0, rest)
    by_order false rest = (is, all)

all_above : (after : Option ℕ) (ids : List (Option ℕ)) → AllByRecursion (λ (id : ℕ). is_above after id ≡ true) (live_above after ids)
all_above after [] = tt
all_above after (None ∷ ids) = all_above after ids
all_above after (Some id ∷ ids) = by_test (is_above after id) refl (all_above after ids)
  where
    by_test : (above : Bool) → is_above after id ≡ above → AllByRecursion (λ (other : ℕ). is_above after other ≡ true) (live_above after ids)
        → AllByRecursion (λ (other : ℕ). is_above after other ≡ true) (if above then placed id (live_above after ids) else live_above after ids)
    by_test true is rest = above_placed after id (live_above after ids) is rest
    by_test false is rest = rest

above_at : (after : Option ℕ) (ids : List ℕ) (i : ℕ) → AllByRecursion (λ (id : ℕ). is_above after id ≡ true) ids → i < length ids → is_above after (get_or ids i 0) ≡ true
above_at after [] i all inside = absurd (omega (arith, inside))
above_at after (id ∷ ids) zero all inside = all.0
above_at after (id ∷ ids) (suc i) all inside = above_at after ids i all.1 (omega (arith, inside))

not_above_itself : (after : Option ℕ) (id : ℕ) → is_above after id ≡ true → Some id ≡ after → ⊥
not_above_itself None id is same = cc
not_above_itself (Some other) id is same = let both : id ≡ other = cc in grind (arith, nat_tests, is, both)

abbrev building_in : State → Option Building
building_in blank = None
building_in (holding store) = store.building

-- A command isn't refused over this store and does this, by which the kept part changes so and the vectors of these ids are read. It
-- leaves another state, with the same cursors.
pub record Refits (command : Command) (held : Known) (change : Kept → Kept) (ids : List ℕ) (does : Store → Outcome) : Type 0 where
  pub free : (store : Store) → Builds held store → refusal command (holding store) ≡ None
  pub effect_is : (store : Store) → Builds held store → effect command (holding store) ≡ does store
  pub other : (store : Store) → Builds held store → (does store).state ≡ holding store → ⊥
  pub stands : (store : Store) → Builds held store → (image : List ℕ) → Stands (change store.kept) image → StandsFor (does store).state image
  pub cursors : (store : Store) (image : List ℕ) → KeepsHeld (holding store) image → KeepsHeld (does store).state image
  pub places : (store : Store) → Builds held store → (does store).places ≡ places_of ids store

-- the moments of a call that leaves what was kept before or after, and gives nothing
abbrev pub Lasts : {D : Type 0} → Ghosts D → Known → (Kept → Kept) → D → D → Type 0
Lasts g held change old new = g.honest → Leaves g.clock g.left_since old new (λ (c given : List ℕ). SameOrChanged g held change old c × (given ≡ g.given old))

-- the reads of a call are the first of those that it makes where it succeeds
pub first_of_these : {D T E : Type 0} {g : Ghosts D} {reads : List (ℕ × ℕ)} {old new : D} (result : Result T E) → ReadsThese g reads old new result → ReadsFirst g reads old new
first_of_these {reads = reads} (Ok value) these = record { made = reads; left = []; split = append-nil reads; is = these.ok }
first_of_these (Err fault) these = these.err

module _ {command : Command} {held : Known} {change : Kept → Kept} {ids : List ℕ} {does : Store → Outcome} (refits : Refits command held change ids does) {D : Type 0} (g : Ghosts D) (old new : D) where
  refit_outcome : (store : Store) → Builds held store → of_command command (holding store) false ≡ does store
  refit_outcome store is = effect_outcome command (holding store) (refits.free store is) ∙ refits.effect_is store is

  -- the first of the reads are those of the outcome
  refit_reads : ReadsFirst g (map (read_of_id held) ids) old new → g.told → (store : Store) → Builds held store → Opens store.kept (g.image old)
      → Adds (holding store) (λ vectors. AreFirst vectors (reads_of (holding store) (does store).places)) (g.reads old) (g.reads new)
  refit_reads first told store is opens = rw (refits.places store is)
      (adds_first store (g.image old) opens (places_of ids store) first.made first.left (g.reads old) (g.reads new) (first.split ∙ reads_there held store is.kept ids) (first.is told))

  refit_front : ReadsFirst g (map (read_of_id held) ids) old new → g.told → (store : Store) → Builds held store → Opens store.kept (g.image old)
      → Adds (holding store) (λ vectors. AreFirst vectors (reads_of (holding store) (of_command command (holding store) false).places)) (g.reads old) (g.reads new)
  refit_front first told store is opens =
      subst (λ (o : Outcome). Adds (holding store) (λ vectors. AreFirst vectors (reads_of (holding store) o.places)) (g.reads old) (g.reads new)) (sym (refit_outcome store is)) (refit_reads first told store is opens)

  pub refit_no_more : ReadsFirst g (map (read_of_id held) ids) old new → ReadsNoMore g (asked_by command) (over_store held) old new
  refit_no_more first told kept is opens none no_cursor = refit_front first told (with_building held.building (only_kept kept)) (record { kept = is; building = refl }) opens

  module _ (cursors : List (Option Cursor)) where
    pub refit_survives : Lasts g held change old new → Survives g (of_command command) (with_store cursors held) old new
    refit_survives moments keeps told blank at secure = absurd at.is
    refit_survives moments keeps told (holding store) at secure = weaker g.clock g.left_since old new _ _
        (λ image given has. (
          ⊎_elim (λ before. inl before) (λ after. inr (subst (λ (o : Outcome). StandsFor o.state image) (sym (refit_outcome store (of_store at.is))) (refits.stands store (of_store at.is) image after)))
              (has.0 told store.kept at.is.kept (λ c left. secure c left)),
          has.1,
        ))
        (moments keeps)

    -- the disk failed
    pub refit_loses : ReadsFirst g (map (read_of_id held) ids) old new → Lasts g held change old new → Loses g (of_command command) (with_store cursors held) old new
    refit_loses first moments = record { read = λ told start at. reads told start at; stays = λ told start at same_state. stays told start at same_state; moments = refit_survives moments }
      where
        reads : g.told → (start : State) → IsAt start (with_store cursors held) (g.image old) → Adds start (λ vectors. AreFirst vectors (reads_of start (of_command command start false).places)) (g.reads old) (g.reads new)
        reads told blank at = absurd at.is
        reads told (holding store) at = refit_front first told store (of_store at.is) at.stands.opens

        stays : g.told → (start : State) → IsAt start (with_store cursors held) (g.image old) → (of_command command start false).state ≡ start → g.image new ≡ g.image old
        stays told blank at same_state = absurd at.is
        stays told (holding store) at same_state = absurd (refits.other store (of_store at.is) (ap (λ (o : Outcome). o.state) (sym (refit_outcome store (of_store at.is))) ∙ same_state))

    -- it was carried out
    module _ (held' : Known) (reply : Reply) (plain : wants_memory reply ≡ false) where
      refit_replied : (store : Store) → Builds held store → of_command command (holding store) (wants_memory reply) ≡ does store
      refit_replied store is = rw plain (refit_outcome store is)

      pub refit_carries : (g.told → (store : Store) → IsAt (holding store) (with_store cursors held) (g.image old) → Is (does store).state (with_store cursors held')) → ((store : Store) → Builds held store → reply ≡ (does store).reply)
          → Becomes g held change old new → HeldVectorsStay g (with_store cursors held) old new → (g.told → g.reads new ≡ g.reads old ++ map (read_of_id held) ids) → Lasts g held change old new
          → (g.honest → g.told → (store : Store) → IsOf held store.kept → Each (StandsIn held.region store.kept) (g.may_leave old) → (c : List ℕ) → g.may_leave new c → StandsIn held'.region (change store.kept) c)
          → Carries g (of_command command) (with_store cursors held) (with_store cursors held') old new reply
      refit_carries now says becomes stay reads moments after = record {
        reached = λ told start at. reached told start at;
        moments = refit_survives moments;
        settles = λ keeps told start at secure image left. settled keeps told start at.is secure image left;
      }
        where
          reached : g.told → (start : State) → IsAt start (with_store cursors held) (g.image old) → Reached g (of_command command start) start (with_store cursors held') old new reply
          reached told blank at = absurd at.is
          reached told (holding store) at =
              let is = of_store at.is in
              reached_by command (does store) (refit_replied store is) (says store is)
              (record {
                is = now told store at;
                stands = refits.stands store is (g.image new) (becomes told store.kept at.is.kept at.stands);
                vectors = refits.cursors store (g.image new) (stay told store at);
              })
              (λ same_state. absurd (refits.other store is same_state))
              (rw (plain, refits.places store is) (adds_vectors store (g.image old) at.stands.opens (places_of ids store) (g.reads old) (g.reads new)
              (reads told ∙ ap (λ (more : List (ℕ × ℕ)). g.reads old ++ more) (reads_there held store at.is.kept ids))))

          settled : g.honest → g.told → (start : State) → Is start (with_store cursors held) → ((image : List ℕ) → g.may_leave old image → StandsFor start image × (selected_in image ≡ held.region))
              → (image : List ℕ) → g.may_leave new image → StandsFor (of_command command start (wants_memory reply)).state image × (selected_in image ≡ held'.region)
          settled keeps told blank is secure image left = absurd is
          settled keeps told (holding store) is secure image left =
              let stands = after keeps told store is.kept secure image left in
              (subst (λ (o : Outcome). StandsFor o.state image) (sym (refit_replied store (of_store is))) (refits.stands store (of_store is) image stands.0), stands.1)

    -- no memory was found, maybe behind some of the reads, and nothing was written
    pub refit_lacks : ((store : Store) → want command (holding store) ≡ between) → ReadsFirst g (map (read_of_id held) ids) old new → OnlyReads g old new → Carries g (of_command command) (with_store cursors held) (with_store cursors held) old new (error Memory)
    refit_lacks wants first frame = record {
      reached = λ told start at. reached told start at;
      moments = survives_reading (of_command command) (with_store cursors held) frame;
      settles = λ keeps told start at secure image left.
          (let before = secure image (frame.crash keeps image left) in
          (settled start at.is image before.0, before.1));
    }
      where
        lacks : (store : Store) → Builds held store → of_command command (holding store) true ≡ record { state = holding store; reply = error Memory; places = (effect command (holding store)).places }
        lacks store is = memory_later command (holding store) (refits.free store is) (wants store)

        reached : g.told → (start : State) → IsAt start (with_store cursors held) (g.image old) → Reached g (of_command command start) start (with_store cursors held) old new (error Memory)
        reached told blank at = absurd at.is
        reached told (holding store) at =
            let is = of_store at.is in
            reached_by command (record { state = holding store; reply = error Memory; places = (effect command (holding store)).places }) (lacks store is) refl
            (record { is = at.is; stands = rw frame.image at.stands; vectors = rw frame.image at.vectors }) (λ same_state. frame.image)
            (rw (refits.effect_is store is) (refit_reads first told store is at.stands.opens))

        settled : (start : State) → Is start (with_store cursors held) → (image : List ℕ) → StandsFor start image → StandsFor (of_command command start true).state image
        settled blank is image stands = absurd is
        settled (holding store) is image stands = subst (λ (o : Outcome). StandsFor o.state image) (sym (lacks store (of_store is))) stands

-- The marks of the live vectors are built.
pub requant_busy : (cursors : List (Option Cursor)) (held : Known) → is_some held.building ≡ true → RefusedIn requant (with_store cursors held) Busy
requant_busy cursors held runs blank is = absurd is
requant_busy cursors held runs (holding store) is = ap (λ (b : Bool). first_reason ((b, Busy) ∷ [])) (ap is_some (sym is.building) ∙ runs)

pub requant_refits : (held : Known) → held.building ≡ None → Refits requant held same_kept (all_live held) (λ store. (requant_row store).outcome)
requant_refits held idle = record {
  free = λ store is. ap (λ (o : Option Building). first_reason ((is_some o, Busy) ∷ [])) (sym is.building ∙ idle);
  effect_is = λ store is. refl;
  other = λ store is same. (let both : ◌≡◌ {A = Option Building} (Some (record { marks = fitted_marks store; last = None })) None = ap building_in same ∙ sym is.building ∙ idle in cc);
  stands = λ store is image stands. stands;
  cursors = λ store image keeps. keeps;
  places = λ store is. ap (λ (ids : List ℕ). places_of ids store) (sym (ids_there held store is.kept None));
}

-- the store that builds them is that of the state
pub requant_now : {D : Type 0} (g : Ghosts D) (cursors : List (Option Cursor)) (held held' : Known) (old : D) → held' ≡ begun (marks_of_building held'.building) held
    → (g.told → (kept : Kept) → IsOf held kept → Opens kept (g.image old) → marks_of_building held'.building ≡ marks_of held.shape (refitting.vectors_of held kept (all_live held)))
    → g.told → (store : Store) → IsAt (holding store) (with_store cursors held) (g.image old) → Is (requant_row store).outcome.state (with_store cursors held')
requant_now g cursors held held' old same marks told store at =
    let of = at.is.kept in
    record {
      kept = record {
        shape = ap (λ (k : Known). k.shape) same ∙ of.shape;
        ids = ap (λ (k : Known). k.ids) same ∙ of.ids;
        marks = ap (λ (k : Known). k.marks) same ∙ of.marks;
      };
      whole = ap (λ (k : Known). k.broken) same ∙ at.is.whole;
      cursors = at.is.cursors;
      building = ap (λ (k : Known). k.building) same
          ∙ ap (λ (rows : List (List ℕ)). Some (record { marks = rows; last = None }))
          (marks told store.kept of at.stands.opens
          ∙ ap (λ (shape : Shape). marks_of shape (refitting.vectors_of held store.kept (all_live held))) of.shape
          ∙ ap (λ (vectors : List (List ℕ)). marks_of store.kept.shape vectors) (vectors_there held store of (all_live held) ∙ ap (λ (ids : List ℕ). vectors_of ids store) (ids_there held store of None)));
    }

-- The regions lie before all vectors.
pub marks_stay : {D : Type 0} (g : Ghosts D) (cursors : List (Option Cursor)) (held : Known) (old new : D) → HaveShape held.shape cursors → (g.told → KeepsRest (marks_range held.shape (other_region held.region)) (g.image old) (g.image new))
    → HeldVectorsStay g (with_store cursors held) old new
marks_stay g cursors held old new shapes rest told store at =
    let region = other_region held.region in
    vectors_stay cursors held store (g.image old) (g.image new) shapes at.is.cursors
    (λ p inside. (rest told).same (vector_at held.shape p) held.shape.dims (inr (omega (arith, marks_end held.shape region, region_ends held.shape region)), tt)) at.vectors

pub codes_stay : {D : Type 0} (g : Ghosts D) (cursors : List (Option Cursor)) (held : Known) (old new : D) → HaveShape held.shape cursors → (g.told → KeepsRest (other_range held ++ selection_range) (g.image old) (g.image new))
    → HeldVectorsStay g (with_store cursors held) old new
codes_stay g cursors held old new shapes rest told store at =
    let region = other_region held.region in
    vectors_stay cursors held store (g.image old) (g.image new) shapes at.is.cursors
    (λ p inside. (rest told).same (vector_at held.shape p) held.shape.dims (inr (omega (arith, region_ends held.shape region)), (inr (omega arith), tt))) at.vectors

-- the reply to a conversion
abbrev pub progress_reply : Progress → Reply
progress_reply (More done left) = replies.more_left done left
progress_reply (Switched done) = replies.switched done

-- Ids are converted.
pub convert_idle : (cursors : List (Option Cursor)) (held : Known) (n : ℕ) → is_some held.building ≡ false → RefusedIn (convert n) (with_store cursors held) Idle
convert_idle cursors held n none blank is = absurd is
convert_idle cursors held n none (holding store) is = ap (λ (b : Bool). first_reason ((not b, Idle) ∷ [])) (ap is_some (sym is.building) ∙ none)

abbrev converted_to : Bool → ℕ → List ℕ → Building → Store → Outcome
converted_to true n ids building store = converts_first n ids building store
converted_to false n ids building store = converts_all ids building store

some_there : (n : ℕ) → nat_lt 0 (suc n) ≡ false → ⊥
some_there n none = grind (arith, nat_tests, none)

less_by_one : (n m : ℕ) → nat_lt (suc n) (suc m) ≡ false → nat_lt n m ≡ false
less_by_one n m none = grind (arith, nat_tests, none)

take_all : {A : Type 0} (n : ℕ) (l : List A) → nat_lt n (length l) ≡ false → take n l ≡ l
take_all zero [] all = refl
take_all (suc n) [] all = refl
take_all zero (x ∷ l) all = absurd (some_there (length l) all)
take_all (suc n) (x ∷ l) all = ap (λ (m : List _). x ∷ m) (take_all n l (less_by_one n (length l) all))

module _ (held : Known) (n : ℕ) (building : Building) (runs : held.building ≡ Some building) where
  waiting_there : (store : Store) → Builds held store → ids_above building.last store ≡ waiting held
  waiting_there store is = sym (ids_there held store is.kept building.last) ∙ ap (λ (o : Option Building). live_above (last_of o) held.ids) (sym runs)

  converts_is : (more : Bool) → nat_lt n (length (waiting held)) ≡ more → (store : Store) → Builds held store → converts n store.building store ≡ converted_to more n (waiting held) building store
  converts_is more by store is =
      ap (λ (o : Option Building). converts n o store) (sym is.building ∙ runs)
      ∙ ap (λ (ids : List ℕ). converts_of n ids building store) (waiting_there store is)
      ∙ by_test more by
    where
      by_test : (more : Bool) → nat_lt n (length (waiting held)) ≡ more → converts_of n (waiting held) building store ≡ converted_to more n (waiting held) building store
      by_test true by = rw by refl
      by_test false by = rw by refl

  kept_then : (more : Bool) → nat_lt n (length (waiting held)) ≡ more → (kept : Kept) → kept_after n held kept ≡ (if more then kept else with_marks building.marks kept)
  kept_then true by kept = rw by refl
  kept_then false by kept = rw by (ap (λ (o : Option Building). with_marks (marks_of_building o) kept) runs)

  last_waits : 1 ≤ n → nat_lt n (length (waiting held)) ≡ true → is_above building.last (get_or (waiting held) (n - 1) 0) ≡ true
  last_waits some by =
      let inside : n - 1 < length (waiting held) = grind (arith, nat_tests, some, by) in
      subst (λ (o : Option Building). is_above (last_of o) (get_or (waiting held) (n - 1) 0) ≡ true) runs (above_at (last_of held.building) (waiting held) (n - 1) (all_above (last_of held.building) held.ids) inside)

  pub convert_refits : 1 ≤ n → (more : Bool) → nat_lt n (length (waiting held)) ≡ more → Refits (convert n) held (kept_after n held) (take n (waiting held)) (converted_to more n (waiting held) building)
  convert_refits some more by = record {
    free = λ store is. ap (λ (o : Option Building). first_reason ((not (is_some o), Idle) ∷ [])) (sym is.building ∙ runs);
    effect_is = λ store is. converts_is more by store is;
    other = λ store is same. other more by store is same;
    stands = λ store is image stands. stands_for more by store image stands;
    cursors = λ store image keeps. keeps_for more store image keeps;
    places = λ store is. places more by store;
  }
    where
      other : (more : Bool) → nat_lt n (length (waiting held)) ≡ more → (store : Store) → Builds held store → (converted_to more n (waiting held) building store).state ≡ holding store → ⊥
      other true by store is same =
          let both : ◌≡◌ {A = Option Building} (Some (record { marks = building.marks; last = Some (get_or (waiting held) (n - 1) 0) })) (Some building) = ap building_in same ∙ sym is.building ∙ runs in
          not_above_itself building.last (get_or (waiting held) (n - 1) 0) (last_waits some by) (ap last_of both)
      other false by store is same = let both : ◌≡◌ {A = Option Building} None (Some building) = ap building_in same ∙ sym is.building ∙ runs in cc

      stands_for : (more : Bool) → nat_lt n (length (waiting held)) ≡ more → (store : Store) (image : List ℕ) → Stands (kept_after n held store.kept) image → StandsFor (converted_to more n (waiting held) building store).state image
      stands_for true by store image stands = subst (λ (kept : Kept). Stands kept image) (kept_then true by store.kept) stands
      stands_for false by store image stands = subst (λ (kept : Kept). Stands kept image) (kept_then false by store.kept) stands

      keeps_for : (more : Bool) (store : Store) (image : List ℕ) → KeepsHeld (holding store) image → KeepsHeld (converted_to more n (waiting held) building store).state image
      keeps_for true store image keeps = keeps
      keeps_for false store image keeps = keeps

      places : (more : Bool) → nat_lt n (length (waiting held)) ≡ more → (store : Store) → (converted_to more n (waiting held) building store).places ≡ places_of (take n (waiting held)) store
      places true by store = refl
      places false by store = ap (λ (ids : List ℕ). places_of ids store) (sym (take_all n (waiting held) by))

  -- the store that has converted them is that of the state
  pub convert_now : (more : Bool) → nat_lt n (length (waiting held)) ≡ more → (held' : Known) → held' ≡ advanced n held → (cursors : List (Option Cursor)) (store : Store) → IsStoreOf store held cursors
      → Is (converted_to more n (waiting held) building store).state (with_store cursors held')
  convert_now true by held' same cursors store is =
      let now : held' ≡ converted (get_or (waiting held) (n - 1) 0) held = same ∙ ap (λ (b : Bool). if b then converted (get_or (waiting held) (n - 1) 0) held else switched held) by in
      record {
        kept = record {
          shape = ap (λ (k : Known). k.shape) now ∙ is.kept.shape;
          ids = ap (λ (k : Known). k.ids) now ∙ is.kept.ids;
          marks = ap (λ (k : Known). k.marks) now ∙ is.kept.marks;
        };
        whole = ap (λ (k : Known). k.broken) now ∙ is.whole;
        cursors = is.cursors;
        building = ap (λ (k : Known). k.building) now ∙ ap (λ (o : Option Building). reaching (get_or (waiting held) (n - 1) 0) o) runs;
      }
  convert_now false by held' same cursors store is =
      let now : held' ≡ switched held = same ∙ ap (λ (b : Bool). if b then converted (get_or (waiting held) (n - 1) 0) held else switched held) by in
      record {
        kept = record {
          shape = ap (λ (k : Known). k.shape) now ∙ is.kept.shape;
          ids = ap (λ (k : Known). k.ids) now ∙ is.kept.ids;
          marks = ap (λ (k : Known). k.marks) now ∙ ap marks_of_building runs;
        };
        whole = ap (λ (k : Known). k.broken) now ∙ is.whole;
        cursors = is.cursors;
        building = ap (λ (k : Known). k.building) now;
      }

  -- what is answered tells whether some are left
  pub convert_says : (more : Bool) → nat_lt n (length (waiting held)) ≡ more → (answer : Progress) → answer ≡ progress n (length (waiting held)) → (store : Store) → progress_reply answer ≡ (converted_to more n (waiting held) building store).reply
  convert_says true by answer is store = ap progress_reply (is ∙ ap (λ (b : Bool). if b then More n (length (waiting held) - n) else Switched (length (waiting held))) by)
  convert_says false by answer is store = ap progress_reply (is ∙ ap (λ (b : Bool). if b then More n (length (waiting held) - n) else Switched (length (waiting held))) by)

pub no_building : (o : Option Building) → is_some o ≡ false → o ≡ None
no_building None is = refl
no_building (Some building) is = cc

some_building : (o : Option Building) → is_some o ≡ true → (building : Building) × (o ≡ Some building)
some_building None is = cc
some_building (Some building) is = (building, refl)

-- What a conversion owes: where it was carried out, and where the disk failed.
module _ {D : Type 0} (g : Ghosts D) (cursors : List (Option Cursor)) (held : Known) (n : ℕ) (old new : D) (runs : is_some held.building ≡ true) (some : 1 ≤ n) where
  abbrev is_more : Bool
  is_more = nat_lt n (length (waiting held))

  pub convert_loses : ReadsFirst g (map (read_of_id held) (take n (waiting held))) old new → Lasts g held (kept_after n held) old new → Loses g (of_command (convert n)) (with_store cursors held) old new
  convert_loses first moments =
      let there = some_building held.building runs in
      refit_loses (convert_refits held n there.0 there.1 some is_more refl) g old new cursors first moments

  pub convert_no_more : ReadsFirst g (map (read_of_id held) (take n (waiting held))) old new → ReadsNoMore g (asked_by (convert n)) (over_store held) old new
  convert_no_more first =
      let there = some_building held.building runs in
      refit_no_more (convert_refits held n there.0 there.1 some is_more refl) g old new first

  pub convert_carries : (held' : Known) (answer : Progress) → answer ≡ progress n (length (waiting held)) → held' ≡ advanced n held → Becomes g held (kept_after n held) old new → HeldVectorsStay g (with_store cursors held) old new
      → (g.told → g.reads new ≡ g.reads old ++ map (read_of_id held) (take n (waiting held))) → Lasts g held (kept_after n held) old new
      → (g.honest → g.told → (store : Store) → IsOf held store.kept → Each (StandsIn held.region store.kept) (g.may_leave old) → (c : List ℕ) → g.may_leave new c → StandsIn held'.region (kept_after n held store.kept) c)
      → Carries g (of_command (convert n)) (with_store cursors held) (with_store cursors held') old new (progress_reply answer)
  convert_carries held' answer is same becomes stay reads moments after =
      let there = some_building held.building runs in
      refit_carries (convert_refits held n there.0 there.1 some is_more refl) g old new cursors held' (progress_reply answer) (plain_progress answer)
      (λ told store at. convert_now held n there.0 there.1 is_more refl held' same cursors store at.is)
      (λ store of. convert_says held n there.0 there.1 is_more refl answer is store)
      becomes stay reads moments after
    where
      plain_progress : (answer : Progress) → wants_memory (progress_reply answer) ≡ false
      plain_progress (More done left) = refl
      plain_progress (Switched done) = refl

pub advanced_whole : (n : ℕ) (held held' : Known) → held' ≡ advanced n held → held.broken ≡ false → held'.broken ≡ false
advanced_whole n held held' same whole = by_test (nat_lt n (length (waiting held))) refl
  where
    by_test : (more : Bool) → nat_lt n (length (waiting held)) ≡ more → held'.broken ≡ false
    by_test true by = ap (λ (k : Known). k.broken) (same ∙ ap (λ (b : Bool). if b then converted (get_or (waiting held) (n - 1) 0) held else switched held) by) ∙ whole
    by_test false by = ap (λ (k : Known). k.broken) (same ∙ ap (λ (b : Bool). if b then converted (get_or (waiting held) (n - 1) 0) held else switched held) by) ∙ whole

-- what a crash leaves once ids were converted: before the switch each outcome goes on, and it makes all stable
pub convert_after : {D : Type 0} (g : Ghosts D) (held held' : Known) (n : ℕ) (old new : D) → held' ≡ advanced n held → (length (waiting held) ≤ n → IsStable g new) → (n < length (waiting held) → g.honest → (c : List ℕ) → g.may_leave new c → StaysIn g held old c)
    → (g.told → selected_in (g.image new) ≡ held'.region) → Becomes g held (kept_after n held) old new → (g.told → g.honest → g.may_leave old (g.image old))
    → g.honest → g.told → (store : Store) → IsOf held store.kept → Each (StandsIn held.region store.kept) (g.may_leave old) → (c : List ℕ) → g.may_leave new c → StandsIn held'.region (kept_after n held store.kept) c
convert_after g held held' n old new same durable outcomes selects becomes is_outcome keeps told store of each c left = by_test (nat_lt n (length (waiting held))) refl
  where
    by_test : (more : Bool) → nat_lt n (length (waiting held)) ≡ more → StandsIn held'.region (kept_after n held store.kept) c
    by_test true by =
        let stays = outcomes (grind (arith, nat_tests, by)) keeps c left store.kept of each in
        let region : held'.region ≡ held.region = ap (λ (k : Known). k.region) (same ∙ ap (λ (b : Bool). if b then converted (get_or (waiting held) (n - 1) 0) held else switched held) by) in
        let kept : kept_after n held store.kept ≡ store.kept = ap (λ (b : Bool). if b then store.kept else refitted held store.kept) by in
        (rw kept stays.0, stays.1 ∙ sym region)
    by_test false by =
        let image : c ≡ g.image new = durable (grind (arith, nat_tests, by)) keeps told c left in
        (rw image (becomes told store.kept of (each (g.image old) (is_outcome told keeps)).0), rw image (selects told))
