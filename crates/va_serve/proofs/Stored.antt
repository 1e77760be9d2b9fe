-- What an insertion, a deletion and a reading of the store owe as commands.
use Rattle.std.proofs.Common.{◌≡◌, inl, inr, ⊎_elim, ℕ, zero, suc, ◌+◌, ◌<◌, ◌≤◌, ◌==◌, not, Bool, true, false, List, [], ◌∷◌, ◌++◌, length, set, Option, None, Some, get_or, refl, ap, sym, ◌∙◌, subst, arith, append-nil}
use Rattle.std.proofs.lemmas.Bool.Decides.{nat_tests}
use Rattle.std.proofs.lemmas.List.{get_or-map, get_or-set_same, length-map, map-set}
use Rattle.va_core.specs.Places.{Item, place_of, id_of, vector_of}
use Rattle.va_core.specs.Shape.{Shape}
use Rattle.va_cursor.specs.Cursors.{Cursor}
use Rattle.va_disk.specs.Frames.{IsStable, OnlyReads, OnlyWrites}
use Rattle.va_disk.specs.declared.storage.Storage.{Ghosts}
use Rattle.va_disk.proofs.Moments.{nothing_leaves, weaker}
use Rattle.va_lang.specs.Command.{Command, insert, delete, get}
use Rattle.va_lang.specs.Reply as replies
use Rattle.va_layout.specs.Fields.{gate_range}
use Rattle.va_layout.specs.Layout.{vector_at}
use Rattle.va_layout.specs.Parts.{KeepsRest}
use Rattle.va_layout.specs.Stands.{Kept, Stands, selected_in, with_place}
use Rattle.va_model.specs.Memory.{wants_memory}
use Rattle.va_model.specs.State.{State, Store, StandsFor, blank, holding, only_kept}
use Rattle.va_model.specs.Refitting.{with_building}
use Rattle.va_model.specs.Rows.{Outcome, first_reason}
use Rattle.va_model.specs.Step.{effect, reads_of, refusal}
use Rattle.va_model.specs.Writing.{store_with}
use Rattle.va_model.specs.VectorReads.{Adds, AreFirst, AreReads}
use Rattle.va_model.proofs.Reading.{adds_first, adds_nothing, adds_vectors, no_reads_of}
use Rattle.va_serve.specs.Bounds.{ReadsNoMore}
use Rattle.va_serve.specs.Promises.{StateBeforeOrAfter, Carries, LeavesImage, Reached, Survives, asked_by, of_command}
use Rattle.va_serve.specs.Session.{Is, IsAt, with_store, over_store, KeepsHeld, Sitting}
use Rattle.va_serve.specs.Held.{HaveShape}
use Rattle.va_serve.proofs.Holding.{HoldBack, free_is_first, gate_stays, held_stay}
use Rattle.va_serve.proofs.Places.{empty_there}
use Rattle.va_serve.proofs.Outcomes.{effect_outcome, reached_by, survives_reading}
use Rattle.va_serve.proofs.Refusing.{delete_free, get_free, insert_free}
use Rattle.va_store.specs.Known.{Becomes, HeldStay, Keeps, Known, IsOf, first_free, known_with, is_live_id, place_of_id}
use Rattle.va_store.specs.Known as known
use Rattle.va_store.specs.Refusals.{delete_refusal, insert_refusal}
use Rattle.va_store.specs.declared.faults.DeleteFault.TheVariants as deleting
use Rattle.va_store.specs.declared.faults.InsertFault.TheVariants as inserting
use Rattle.va_store.proofs.Finding.{lives_there, place_of_places}
use Rattle.va_store.proofs.Indexing.{inside_of_live}

-- the store and the state with an item or none in the same place
pub is_of_with : (held : Known) (kept : Kept) (p : ℕ) (item : Option Item) → IsOf held kept → IsOf (known_with p (id_of item) held) (with_place p item kept)
is_of_with held kept p item is = record {
  shape = is.shape;
  ids = ap (λ (ids : List (Option ℕ)). set ids p (id_of item)) is.ids ∙ sym (map-set id_of kept.places p item);
  marks = is.marks;
}

pub place_is : (held : Known) (kept : Kept) (id : ℕ) → IsOf held kept → place_of_id id held.ids ≡ place_of id kept.places
place_is held kept id is = rw is.ids (place_of_places id kept.places)

-- what a command does that puts an item or none into a place, and replies so
abbrev pub putting : ℕ → Option Item → replies.Reply → Store → Outcome
putting p item reply store = record { state = holding (store_with p item store); reply = reply; places = [] }

-- A command that is not refused by this store, beside these cursors, puts an item or none into a place. Its reply isn't want of
-- memory.
pub record Puts (command : Command) (cursors : List (Option Cursor)) (held : Known) (p : ℕ) (item : Option Item) (reply : replies.Reply) : Type 0 where
  pub free : (store : Store) → Is (holding store) (with_store cursors held) → refusal command (holding store) ≡ None
  pub does : (store : Store) → Is (holding store) (with_store cursors held) → effect command (holding store) ≡ putting p item reply store
  pub changes : (store : Store) → IsOf held store.kept → ◌≡◌ {A = State} (holding (store_with p item store)) (holding store) → ⊥
  pub plain : wants_memory reply ≡ false

-- the vectors of the places that cursors hold back stay
abbrev pub HeldVectorsStay : {D : Type 0} → Ghosts D → Sitting → D → D → Type 0
HeldVectorsStay g sitting old new = g.told → (store : Store) → IsAt (holding store) sitting (g.image old) → KeepsHeld (holding store) (g.image new)

module _ {command : Command} {cursors : List (Option Cursor)} {held : Known} {p : ℕ} {item : Option Item} {reply : replies.Reply} (puts : Puts command cursors held p item reply) where
  put_outcome : (store : Store) → Is (holding store) (with_store cursors held) → of_command command (holding store) false ≡ putting p item reply store
  put_outcome store is = effect_outcome command (holding store) (puts.free store is) ∙ puts.does store is

  put_replied : (store : Store) → Is (holding store) (with_store cursors held) → of_command command (holding store) (wants_memory reply) ≡ putting p item reply store
  put_replied store is = rw puts.plain (put_outcome store is)

  module _ {D : Type 0} (g : Ghosts D) (old new : D) where
    put_moments : OnlyWrites g old new (known.BeforeOrAfter g held (with_place p item) old) → Survives g (of_command command) (with_store cursors held) old new
    put_moments frame keeps told blank at secure = absurd at.is
    put_moments frame keeps told (holding store) at secure = weaker g.clock g.left_since old new _ _
        (λ image given has. (⊎_elim (λ before. inl before) (λ after. inr (subst (λ (o : Outcome). StandsFor o.state image) (sym (put_outcome store at.is)) after)) (has.0 told store.kept at.is.kept (λ c left. (secure c left).0)), has.1))
        (frame.moments keeps)

    -- the reply owes all
    pub put_carries : (held' : Known) → held' ≡ known_with p (id_of item) held → (g.told → selected_in (g.image new) ≡ held'.region) → Becomes g held (with_place p item) old new → HeldVectorsStay g (with_store cursors held) old new
        → g.reads new ≡ g.reads old → (g.told → g.honest → g.may_leave old (g.image old)) → IsStable g new
        → Survives g (of_command command) (with_store cursors held) old new → Carries g (of_command command) (with_store cursors held) (with_store cursors held') old new reply
    put_carries held' same selects stands stay same_reads is_outcome durable moments = record {
      reached = λ told start at. reaches told start at;
      moments = moments;
      settles = λ keeps told start at secure image left. (settled keeps told start at.is (λ c before. (secure c before).0) image left, subst (λ (x : List ℕ). selected_in x ≡ held'.region) (sym (durable keeps told image left)) (selects told));
    }
      where
        reaches : g.told → (start : State) → IsAt start (with_store cursors held) (g.image old) → Reached g (of_command command start) start (with_store cursors held') old new reply
        reaches told blank at = absurd at.is
        reaches told (holding store) at = reached_by command (putting p item reply store) (put_replied store at.is) refl
            (record {
              is = rw same (record { kept = is_of_with held store.kept p item at.is.kept; whole = at.is.whole; cursors = at.is.cursors; building = at.is.building });
              stands = stands told store.kept at.is.kept at.stands;
              vectors = stay told store at;
            })
            (λ same_state. absurd (puts.changes store at.is.kept same_state))
            (adds_nothing (holding store) (λ vectors. AreReads (wants_memory reply) vectors (reads_of (holding store) [])) (g.reads old) (g.reads new) same_reads (no_reads_of (wants_memory reply) (holding store)))

        settled : g.honest → g.told → (start : State) → Is start (with_store cursors held) → ((image : List ℕ) → g.may_leave old image → StandsFor start image)
            → (image : List ℕ) → g.may_leave new image → StandsFor (of_command command start (wants_memory reply)).state image
        settled keeps told blank is secure image left = absurd is
        settled keeps told (holding store) is secure image left =
            subst (λ (o : Outcome). StandsFor o.state image) (sym (put_replied store is))
            (subst (λ (x : List ℕ). Stands (with_place p item store.kept) x) (sym (durable keeps told image left)) (stands told store.kept is.kept (secure (g.image old) (is_outcome told keeps))))

module _ {command : Command} {cursors : List (Option Cursor)} {held : Known} {p : ℕ} {item : Option Item} {reply : replies.Reply} {F : Type 0} (reason : Option F) (puts : reason ≡ None → Puts command cursors held p item reply) where
  -- A crash inside a command that puts leaves the state of before or after. Where the store refuses it, nothing happens.
  pub put_survives : {D : Type 0} (g : Ghosts D) (old new : D) → ((why : F) → reason ≡ Some why → new ≡ old) → OnlyWrites g old new (known.BeforeOrAfter g held (with_place p item) old)
      → Survives g (of_command command) (with_store cursors held) old new
  put_survives g old new same frame = survives reason refl
    where
      survives : (o : Option F) → reason ≡ o → Survives g (of_command command) (with_store cursors held) old new
      survives (Some why) is = λ keeps told start sits secure. rw (same why is) (nothing_leaves g.clock g.left_since old (StateBeforeOrAfter (of_command command start) start (g.given old)))
      survives None is = put_moments (puts is) g old new frame

  -- Where the state stays, so does each byte: what is put into a place is not what was there.
  pub put_stays : {D : Type 0} (g : Ghosts D) (old new : D) → ((why : F) → reason ≡ Some why → new ≡ old) → LeavesImage g (of_command command) (with_store cursors held) old new
  put_stays g old new same told start at same_state = stays reason refl start at same_state
    where
      stays : (o : Option F) → reason ≡ o → (start : State) → IsAt start (with_store cursors held) (g.image old) → (of_command command start false).state ≡ start → g.image new ≡ g.image old
      stays (Some why) is start at same_state = ap g.image (same why is)
      stays None is blank at same_state = absurd at.is
      stays None is (holding store) at same_state = absurd ((puts is).changes store at.is.kept (ap (λ (o : Outcome). o.state) (sym (put_outcome (puts is) store at.is)) ∙ same_state))

abbrev places_in : State → List (Option Item)
places_in blank = []
places_in (holding store) = store.kept.places

-- another item, or none, in a place makes another state
other_place : (store : Store) (p : ℕ) (item : Option Item) → p < length store.kept.places → (get_or store.kept.places p None ≡ item → ⊥) → ◌≡◌ {A = State} (holding (store_with p item store)) (holding store) → ⊥
other_place store p item inside other same =
    other (sym (ap (λ (state : State). get_or (places_in state) p None) same) ∙ get_or-set_same store.kept.places p item None inside)

last_free : (a b c d : Bool) (place : ℕ) → first_reason ((a, inserting.Broken) ∷ (b, inserting.Length) ∷ (c, inserting.Duplicate place) ∷ (d, inserting.Full) ∷ []) ≡ None → d ≡ false
last_free true b c d place none = cc
last_free false true c d place none = cc
last_free false false true d place none = cc
last_free false false false true place none = cc
last_free false false false false place none = refl

second_free : (a b : Bool) → first_reason ((a, deleting.Broken) ∷ (not b, deleting.Unknown) ∷ []) ≡ None → b ≡ true
second_free true b none = cc
second_free false true none = refl
second_free false false none = cc

free_most : (ids : List (Option ℕ)) (held : List ℕ) → first_free ids held ≤ length ids
free_most [] held = omega arith
free_most (None ∷ ids) [] = omega arith
free_most (None ∷ ids) (zero ∷ held) = omega arith
free_most (None ∷ ids) (suc h ∷ held) = omega (arith, free_most ids held)
free_most (Some id ∷ ids) [] = omega (arith, free_most ids [])
free_most (Some id ∷ ids) (h ∷ held) = omega (arith, free_most ids held)

behind_first : (x : Option ℕ) (ids : List (Option ℕ)) (n : ℕ) → get_or (x ∷ ids) (n + 1) None ≡ get_or ids n None
behind_first x ids n = let next : n + 1 ≡ suc n = omega arith in rw next refl

free_empty : (ids : List (Option ℕ)) (held : List ℕ) → first_free ids held < length ids → get_or ids (first_free ids held) None ≡ None
free_empty [] held inside = refl
free_empty (None ∷ ids) [] inside = refl
free_empty (None ∷ ids) (zero ∷ held) inside = refl
free_empty (None ∷ ids) (suc h ∷ held) inside = behind_first None ids (first_free ids held) ∙ free_empty ids held (omega (arith, inside))
free_empty (Some id ∷ ids) [] inside = behind_first (Some id) ids (first_free ids []) ∙ free_empty ids [] (omega (arith, inside))
free_empty (Some id ∷ ids) (h ∷ held) inside = behind_first (Some id) ids (first_free ids held) ∙ free_empty ids held (omega (arith, inside))

below_of : (a b : ℕ) → a ≤ b → (a == b) ≡ false → a < b
below_of a b le other = grind (arith, nat_tests, le, other)

-- a place that is free is empty, and one in which an id lives isn't
insert_changes : (held : Known) (id : ℕ) (vector kept_back : List ℕ) (item : Item) (store : Store) → IsOf held store.kept → insert_refusal held id vector kept_back ≡ None
    → ◌≡◌ {A = State} (holding (store_with (first_free held.ids kept_back) (Some item) store)) (holding store) → ⊥
insert_changes held id vector kept_back item store is free =
    let p = first_free held.ids kept_back in
    let some : p < length held.ids = below_of p (length held.ids) (free_most held.ids kept_back) (last_free _ _ _ _ (place_of_id id held.ids) free) in
    let inside : p < length store.kept.places = omega (arith, some, ap length is.ids ∙ length-map store.kept.places id_of) in
    other_place store p (Some item) inside (λ there. let both : ◌≡◌ {A = Option Item} None (Some item) = sym (empty_there held store.kept p is inside (free_empty held.ids kept_back some)) ∙ there in cc)

delete_changes : (held : Known) (id : ℕ) (store : Store) → IsOf held store.kept → delete_refusal held id ≡ None
    → ◌≡◌ {A = State} (holding (store_with (place_of_id id held.ids) None store)) (holding store) → ⊥
delete_changes held id store is free =
    let p = place_of_id id held.ids in
    let lives = lives_there id held.ids (second_free held.broken (is_live_id id held.ids) free) in
    let inside : p < length store.kept.places = omega (arith, inside_of_live held.ids p id lives, ap length is.ids ∙ length-map store.kept.places id_of) in
    other_place store p None inside (λ there.
    let both : ◌≡◌ {A = Option ℕ} (Some id) None = sym lives ∙ ap (λ (ids : List (Option ℕ)). get_or ids p None) is.ids ∙ get_or-map id_of store.kept.places p None None inside ∙ ap id_of there in
    cc)

-- what the commands do to the state, by the place that the store answers
pub insert_puts : {cursors : List (Option Cursor)} {numbers : List ℕ} (held : Known) (id : ℕ) (vector : List ℕ) (place : ℕ) → HoldBack held.shape cursors numbers → place ≡ first_free held.ids numbers → insert_refusal held id vector numbers ≡ None
    → Puts (insert id vector) cursors held place (Some (record { id = id; vector = vector })) (replies.placed place)
insert_puts {cursors} {numbers} held id vector place back first free = record {
  free = λ store is. insert_free held store id vector back is free;
  does = λ store is. ap (λ (q : ℕ). putting q (Some (record { id = id; vector = vector })) (replies.placed q) store) (sym (first ∙ free_is_first held store back is.kept is.cursors));
  changes = λ store is same. insert_changes held id vector numbers (record { id = id; vector = vector }) store is free
      (ap (λ (q : ℕ). holding (store_with q (Some (record { id = id; vector = vector })) store)) (sym first) ∙ same);
  plain = refl;
}

pub delete_puts : (cursors : List (Option Cursor)) (held : Known) (id place : ℕ) → place ≡ place_of_id id held.ids → delete_refusal held id ≡ None → Puts (delete id) cursors held place None (replies.deleted place)
delete_puts cursors held id place there free = record {
  free = λ store is. delete_free held store id is.kept is.whole free;
  does = λ store is. ap (λ (q : ℕ). putting q None (replies.deleted q) store) (sym (there ∙ place_is held store.kept id is.kept));
  changes = λ store is same. delete_changes held id store is free (ap (λ (q : ℕ). holding (store_with q None store)) (sym there) ∙ same);
  plain = refl;
}

-- an insertion leaves each place that is held, and a deletion all vectors
pub insert_stays : {D : Type 0} (g : Ghosts D) {cursors : List (Option Cursor)} {numbers : List ℕ} (held : Known) (old new : D) → HoldBack held.shape cursors numbers → (g.told → HeldStay held.shape numbers (g.image old) (g.image new))
    → HeldVectorsStay g (with_store cursors held) old new
insert_stays g held old new back stay told store at = held_stay held store (g.image old) (g.image new) back at.is.cursors (stay told) at.vectors

pub delete_stays : {D : Type 0} (g : Ghosts D) (cursors : List (Option Cursor)) (held : Known) (id : ℕ) (old new : D) → HaveShape held.shape cursors → delete_refusal held id ≡ None → (g.told → KeepsRest (gate_range (place_of_id id held.ids)) (g.image old) (g.image new))
    → HeldVectorsStay g (with_store cursors held) old new
delete_stays g cursors held id old new shapes free rest told store at =
    let p = place_of_id id held.ids in
    let lives = lives_there id held.ids (second_free held.broken (is_live_id id held.ids) free) in
    let inside : p < held.shape.capacity = omega (arith, inside_of_live held.ids p id lives, ap length at.is.kept.ids ∙ length-map store.kept.places id_of, at.stands.opens.count, ap (λ (s : Shape). s.capacity) at.is.kept.shape) in
    gate_stays cursors held store p (g.image old) (g.image new) shapes inside at.is.cursors (rest told) at.vectors

-- a vector that the store read, as the answer of the command
pub get_carries : {D : Type 0} {g : Ghosts D} {old new : D} (cursors : List (Option Cursor)) (held : Known) (id : ℕ) (vector : List ℕ) → is_live_id id held.ids ≡ true → OnlyReads g old new
    → Keeps g held old (place_of_id id held.ids) (record { id = id; vector = vector })
    → (g.told → g.reads new ≡ g.reads old ++ (vector_at held.shape (place_of_id id held.ids), held.shape.dims) ∷ [])
    → Carries g (of_command (get id)) (with_store cursors held) (with_store cursors held) old new (replies.vector vector)
get_carries {D} {g} {old} {new} cursors held id vector lives frame found read = record {
  reached = λ told start at. of_start told start at;
  moments = survives_reading (of_command (get id)) (with_store cursors held) frame;
  settles = λ keeps told start at secure image left.
      (let before = secure image (frame.crash keeps image left) in
      (settled start at.is image before.0, before.1));
}
  where
    does : (store : Store) → IsOf held store.kept → of_command (get id) (holding store) false ≡ effect (get id) (holding store)
    does store is = effect_outcome (get id) (holding store) (get_free held store id is lives)

    of_start : g.told → (start : State) → IsAt start (with_store cursors held) (g.image old) → Reached g (of_command (get id) start) start (with_store cursors held) old new (replies.vector vector)
    of_start told blank at = absurd at.is
    of_start told (holding store) at =
        let there : place_of_id id held.ids ≡ place_of id store.kept.places = place_is held store.kept id at.is.kept in
        let item : get_or store.kept.places (place_of id store.kept.places) None ≡ Some (record { id = id; vector = vector }) =
        ap (λ (p : ℕ). get_or store.kept.places p None) (sym there) ∙ found told store.kept at.is.kept at.stands.opens in
        reached_by (get id) (effect (get id) (holding store)) (does store at.is.kept)
        (ap (λ (o : Option Item). replies.vector (vector_of o)) (sym item))
        (record { is = at.is; stands = rw frame.image at.stands; vectors = rw frame.image at.vectors }) (λ same_state. frame.image)
        (adds_vectors store (g.image old) at.stands.opens (place_of id store.kept.places ∷ []) (g.reads old) (g.reads new)
        (read told
        ∙ ap (λ (p : ℕ). g.reads old ++ (vector_at held.shape p, held.shape.dims) ∷ []) there
        ∙ ap (λ (shape : Shape). g.reads old ++ (vector_at shape (place_of id store.kept.places), shape.dims) ∷ []) at.is.kept.shape))

    settled : (start : State) → Is start (with_store cursors held) → (image : List ℕ) → StandsFor start image → StandsFor (of_command (get id) start false).state image
    settled blank is image stands = absurd is
    settled (holding store) is image stands = subst (λ (o : Outcome). StandsFor o.state image) (sym (does store is.kept)) stands

-- the vector of the id that was asked for was read, and no other
pub get_no_more : {D : Type 0} (g : Ghosts D) (old new : D) (held : Known) (id : ℕ) → is_live_id id held.ids ≡ true
    → (g.told → g.reads new ≡ g.reads old ++ (vector_at held.shape (place_of_id id held.ids), held.shape.dims) ∷ []) → ReadsNoMore g (asked_by (get id)) (over_store held) old new
get_no_more g old new held id lives read told kept is opens none no_cursor =
    let store : Store = with_building held.building (only_kept kept) in
    let there : place_of_id id held.ids ≡ place_of id kept.places = place_is held kept id is in
    let reads : List (ℕ × ℕ) = reads_of (holding store) (place_of id kept.places ∷ []) in
    subst (λ (o : Outcome). Adds (holding store) (λ vectors. AreFirst vectors (reads_of (holding store) o.places)) (g.reads old) (g.reads new)) (sym (effect_outcome (get id) (holding store) (get_free held store id is lives)))
    (adds_first store (g.image old) opens (place_of id kept.places ∷ []) reads [] (g.reads old) (g.reads new) (append-nil reads)
    (read told
    ∙ ap (λ (p : ℕ). g.reads old ++ (vector_at held.shape p, held.shape.dims) ∷ []) there
    ∙ ap (λ (shape : Shape). g.reads old ++ (vector_at shape (place_of id kept.places), shape.dims) ∷ []) is.shape))
