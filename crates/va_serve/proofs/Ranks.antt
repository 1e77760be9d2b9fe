-- What the commands of cursors owe.
use Rattle.std.proofs.Common.{◌≡◌, inl, inr, ℕ, zero, suc, ◌+◌, not, Bool, true, false, List, [], ◌∷◌, length, set, get_or, slice_get, if◌then◌else◌, Option, None, Some, is_some, refl, sym, ap, ◌∙◌, subst, arith}
use Rattle.std.proofs.lemmas.List.{map-append}
use Rattle.std.specs.Prelude.{Result, Ok, Err}
use Rattle.std.specs.List.{AllByRecursion}
use Rattle.va_core.specs.declared.pair.Pair.{Pair}
use Rattle.va_core.specs.Distance as distances
use Rattle.va_core.specs.Places.{Item, place_of}
use Rattle.va_core.specs.Shape.{Shape}
use Rattle.va_cursor.specs.Cursors.{Cursor}
use Rattle.va_cursor.specs.Fetches.{given_then}
use Rattle.va_disk.specs.Frames.{OnlyReads}
use Rattle.va_disk.specs.declared.storage.Storage.{Ghosts}
use Rattle.va_disk.proofs.Frames.{reads_nothing}
use Rattle.va_lang.specs.Command.{Command, Query, «open», next, close}
use Rattle.va_lang.specs.Reply as replies
use Rattle.va_lang.specs.Reply.{Reply, error}
use Rattle.va_lang.specs.declared.reply.Why.{Why}
use Rattle.va_lang.specs.declared.reply.Why.TheVariants as reasons
use Rattle.va_layout.specs.Fields.{id_in, is_open_in, vector_in}
use Rattle.va_layout.specs.Stands.{Kept, Stands}
use Rattle.va_model.specs.Cursors.{advanced, advances, cursor_of, due_for, gives, places_in, ranking}
use Rattle.va_model.specs.Memory.{wants_memory}
use Rattle.va_model.specs.Refitting.{with_building}
use Rattle.va_model.specs.Rows.{Outcome, first_reason, refuse}
use Rattle.va_model.specs.Searching.{query_in}
use Rattle.va_model.specs.State as rules
use Rattle.va_model.specs.State.{State, StandsFor, Store, blank, holding, only_kept, open_cursors}
use Rattle.va_model.specs.Step.{effect, reads_of, refusal}
use Rattle.va_model.specs.VectorReads.{Adds, AreFirst, AreReads, FrontOf}
use Rattle.va_model.proofs.Reading.{adds_nothing, no_reads_of}
use Rattle.va_search.specs.Cursors.{Advanced, FailsNext, FailsOpen, Gives, VectorsStand, Opened, Ranks, due_of, ranking_of, read_for}
use Rattle.va_search.specs.Searched.{ReadsFirst, ReadsItems}
use Rattle.va_search.specs.declared.fault.StoreSearchFault.{StoreSearchFault}
use Rattle.va_search.specs.declared.fault.StoreSearchFault.TheVariants as faults
use Rattle.va_serve.specs.Answers.{closed_reply, fault_answer, next_answer}
use Rattle.va_serve.specs.Bounds.{ReadsNoMore}
use Rattle.va_serve.specs.Held.{is_open_at}
use Rattle.va_serve.specs.Promises.{Asked, Carries, Loses, Obeys, Reached, asked_by, of_command}
use Rattle.va_serve.specs.Refusals.{IsAskedAs, IsUnasked, unasked_for}
use Rattle.va_serve.specs.Session.{AreCursors, Is, IsAt, IsCursorOf, IsCursorIf, Lent, Workspace, sitting_of, with_store}
use Rattle.va_serve.proofs.Asking.{further_none, live_there, query_there, reason_there}
use Rattle.va_serve.proofs.Outcomes.{MemoryIn, RefusedFor, RefusedIn, carries_memory, carries_refused, carries_unasked, effect_outcome, memory_outcome, reached_by, survives_reading}
use Rattle.va_serve.proofs.Seeking.{adds_read, same_region, same_store}
use Rattle.va_store.specs.Ids.{live_count}
use Rattle.va_store.specs.Known.{Known}
use Rattle.va_store.specs.Shelved.{IsSameStore}
use Rattle.va_store.specs.ShelfReads.{ReadsVectors, read_of}
use Rattle.va_serve.proofs.Holding.{inside_places}

-- The cursors under their names.
pub are_set : (cursors : List (Option rules.OpenCursor)) (held : List (Option Cursor)) (name : ℕ) (cursor : Option rules.OpenCursor) (now : Option Cursor) → AreCursors cursors held → IsCursorIf cursor now → AreCursors (set cursors name cursor) (set held name now)
are_set [] [] name cursor now are is = tt
are_set [] (h ∷ held) name cursor now are is = absurd are
are_set (c ∷ cursors) [] name cursor now are is = absurd are
are_set (c ∷ cursors) (h ∷ held) zero cursor now are is = (is, are.1)
are_set (c ∷ cursors) (h ∷ held) (suc name) cursor now are is = (are.0, are_set cursors held name cursor now are.1 is)

same_some : (cursor : Option rules.OpenCursor) (held : Option Cursor) → IsCursorIf cursor held → is_some cursor ≡ is_some held
same_some None None is = refl
same_some None (Some h) is = absurd is
same_some (Some c) None is = absurd is
same_some (Some c) (Some h) is = refl

-- no vector was read for a cursor that is opened
pub opened_unread : {D : Type 0} {g : Ghosts D} (asked : Asked) (cursors : List (Option Cursor)) (held : Known) {old new : D} → ReadsVectors g held.shape old [] new → ReadsNoMore g asked (with_store cursors held) old new
opened_unread {D} {g} asked cursors held {old} {new} reads told kept is opens none no_cursor =
    let store : Store = with_building held.building (only_kept kept) in
    adds_read store [] (FrontOf (holding store) (asked.outcome (holding store))) told (subst (λ (shape : Shape). ReadsVectors g shape old [] new) is.shape reads)
    (record { rest = reads_of (holding store) (asked.outcome (holding store) false).places; is = refl })

pub is_open_same : (cursors : List (Option rules.OpenCursor)) (held : List (Option Cursor)) (name : ℕ) → AreCursors cursors held → is_some (get_or cursors name None) ≡ is_open_at name held
is_open_same [] [] name are = refl
is_open_same [] (h ∷ held) name are = absurd are
is_open_same (c ∷ cursors) [] name are = absurd are
is_open_same (c ∷ cursors) (h ∷ held) zero are = same_some c h are.0
is_open_same (c ∷ cursors) (h ∷ held) (suc name) are = is_open_same cursors held name are.1

-- the state's cursor beside one that is held
pub record IsFound (cursors : List (Option rules.OpenCursor)) (name : ℕ) (held : Cursor) : Type 0 where
  pub cursor : rules.OpenCursor
  pub at : get_or cursors name None ≡ Some cursor
  pub is : IsCursorOf cursor held

found_one : (cursor : Option rules.OpenCursor) (held : Option Cursor) (h : Cursor) → IsCursorIf cursor held → held ≡ Some h → (c : rules.OpenCursor) × (cursor ≡ Some c) × IsCursorOf c h
found_one None None h is at = absurd (cc)
found_one None (Some other) h is at = absurd is
found_one (Some c) None h is at = absurd is
found_one (Some c) (Some other) h is at = (c, refl, subst (λ (x : Cursor). IsCursorOf c x) (same_held at) is)
  where
    same_held : {x y : Cursor} → Some x ≡ Some y → x ≡ y
    same_held {x} {y} e = cc

pub found_cursor : (cursors : List (Option rules.OpenCursor)) (held : List (Option Cursor)) (name : ℕ) (h : Cursor) → AreCursors cursors held → get_or held name None ≡ Some h → IsFound cursors name h
found_cursor [] [] name h are at = absurd (cc)
found_cursor [] (x ∷ held) name h are at = absurd are
found_cursor (c ∷ cursors) [] name h are at = absurd are
found_cursor (c ∷ cursors) (x ∷ held) zero h are at = let one = found_one c x h are.0 at in record { cursor = one.0; at = one.1; is = one.2 }
found_cursor (c ∷ cursors) (x ∷ held) (suc name) h are at = let rest = found_cursor cursors held name h are.1 at in record { cursor = rest.cursor; at = rest.at; is = rest.is }

-- a list with what it has
pub set_same : {X : Type 0} (l : List (Option X)) (n : ℕ) (x : Option X) → get_or l n None ≡ x → set l n x ≡ l
set_same [] n x at = refl
set_same (y ∷ l) zero x at = ap (λ (z : Option _). z ∷ l) (sym at)
set_same (y ∷ l) (suc n) x at = ap (λ (m : List (Option _)). y ∷ m) (set_same l n x at)

-- The vectors of the held places.
abbrev AllKept : List ℕ → List (Option rules.OpenCursor) → Type 0
AllKept image cursors = AllByRecursion (λ (cursor : rules.OpenCursor). VectorsStand cursor.snapshot image) (open_cursors cursors)

abbrev IfKept : List ℕ → Option rules.OpenCursor → Type 0
IfKept image None = Unit {0}
IfKept image (Some cursor) = VectorsStand cursor.snapshot image

kept_first : (image : List ℕ) (cursor : Option rules.OpenCursor) (cursors : List (Option rules.OpenCursor)) → IfKept image cursor → AllKept image cursors → AllKept image (cursor ∷ cursors)
kept_first image None cursors kept all = all
kept_first image (Some c) cursors kept all = (kept, all)

kept_rest : (image : List ℕ) (cursor : Option rules.OpenCursor) (cursors : List (Option rules.OpenCursor)) → AllKept image (cursor ∷ cursors) → IfKept image cursor × AllKept image cursors
kept_rest image None cursors all = (tt, all)
kept_rest image (Some c) cursors all = (all.0, all.1)

pub kept_set : (image : List ℕ) (cursors : List (Option rules.OpenCursor)) (name : ℕ) (cursor : Option rules.OpenCursor) → AllKept image cursors → IfKept image cursor → AllKept image (set cursors name cursor)
kept_set image [] name cursor all kept = tt
kept_set image (c ∷ cursors) zero cursor all kept = kept_first image cursor cursors kept (kept_rest image c cursors all).1
kept_set image (c ∷ cursors) (suc name) cursor all kept = kept_first image c (set cursors name cursor) (kept_rest image c cursors all).0 (kept_set image cursors name cursor (kept_rest image c cursors all).1 kept)

pub found_kept : (image : List ℕ) (cursors : List (Option rules.OpenCursor)) (name : ℕ) (cursor : rules.OpenCursor) → AllKept image cursors → get_or cursors name None ≡ Some cursor → VectorsStand cursor.snapshot image
found_kept image [] name cursor all at = absurd (cc)
found_kept image (c ∷ cursors) zero cursor all at = subst (IfKept image) at (kept_rest image c cursors all).0
found_kept image (c ∷ cursors) (suc name) cursor all at = found_kept image cursors name cursor (kept_rest image c cursors all).1 at

-- an image that stands for what is kept has its vectors
same_item : {x y : Item} → Some x ≡ Some y → x ≡ y
same_item {x} {y} e = cc

item_there : (shape : Shape) (p : ℕ) (image : List ℕ) (item : Item) (open_there : Bool) → (if open_there then Some (record { id = id_in p image; vector = vector_in shape p image }) else None) ≡ Some item → vector_in shape p image ≡ item.vector
item_there shape p image item true is = ap (λ (i : Item). i.vector) (same_item {x = record { id = id_in p image; vector = vector_in shape p image }} is)
item_there shape p image item false is = absurd (cc)

pub stands_keeps : (kept : Kept) (image : List ℕ) → Stands kept image → VectorsStand kept image
stands_keeps kept image stands p item at =
    item_there kept.shape p image item (is_open_in p image) (stands.opens.places p (omega (arith, inside_places kept.places p item at, stands.opens.count)) ∙ at)

-- why a cursor gives no pair
abbrev next_reason : Bool → Option Why
next_reason there = if there then None else Some reasons.Cursor

next_tests : (there : Bool) → first_reason ((not there, reasons.Cursor) ∷ []) ≡ next_reason there
next_tests true = refl
next_tests false = refl

none_open : (there : Bool) → first_reason ((there, reasons.Cursor) ∷ []) ≡ None → there ≡ false
none_open true none = cc
none_open false none = refl

module _ (cursors : List (Option Cursor)) (held : Known) (name : ℕ) where
  -- Opening.
  module _ (query : Query) {further : Option Why} (says : further ≡ first_reason ((is_open_at name cursors, reasons.Cursor) ∷ [])) where
    abbrev open_reason : Option Why
    open_reason = unasked_for held query further

    open_by : (store : Store) → Is (holding store) (with_store cursors held) → refusal («open» name query) (holding store) ≡ open_reason
    open_by store is = reason_there held query ((is_some (cursor_of name store), reasons.Cursor) ∷ [])
        (says ∙ ap (λ (b : Bool). first_reason ((b, reasons.Cursor) ∷ [])) (sym (is_open_same store.cursors cursors name is.cursors))) store.kept is.kept

    open_refused : RefusedFor («open» name query) (with_store cursors held) open_reason
    open_refused blank is = absurd is
    open_refused (holding store) is = open_by store is

    -- no cursor was opened: that was refused, or there was no memory for the query
    pub open_unasked : {D : Type 0} {g : Ghosts D} {disk : D} (why : Why) → IsUnasked open_reason why → Carries g (of_command («open» name query)) (with_store cursors held) (with_store cursors held) disk disk (error why)
    open_unasked why unasked = carries_unasked («open» name query) open_reason why open_refused (λ free. carries_memory («open» name query) (wanting free) reads_nothing refl) reads_nothing refl unasked
      where
        wanting : open_reason ≡ None → MemoryIn («open» name query) (with_store cursors held)
        wanting free blank is = absurd is
        wanting free (holding store) is = (open_by store is ∙ free, refl)

    module _ {asked : distances.Query} (is_asked : IsAskedAs held query further asked) where
      -- none of this name is open
      pub open_asked : is_open_at name cursors ≡ false
      open_asked = none_open (is_open_at name cursors) (sym says ∙ further_none is_asked)

      open_free : (store : Store) → Is (holding store) (with_store cursors held) → refusal («open» name query) (holding store) ≡ None
      open_free store is = open_by store is ∙ is_asked.free

      opens_now : (store : Store) → Is (holding store) (with_store cursors held) → of_command («open» name query) (holding store) false ≡ effect («open» name query) (holding store)
      opens_now store is = effect_outcome («open» name query) (holding store) (open_free store is)

      lacks_now : (store : Store) → Is (holding store) (with_store cursors held) → of_command («open» name query) (holding store) true ≡ refuse (holding store) reasons.Memory
      lacks_now store is = memory_outcome («open» name query) (holding store) (open_free store is) refl

      module _ {D : Type 0} {g : Ghosts D} {held' : Known} {old new : D} where
        pub open_carries : {cursor : Cursor} → Opened g asked held held' old new (Ok cursor) → {live : ℕ} → live ≡ live_count held'.ids
            → Carries g (of_command («open» name query)) (with_store cursors held) (with_store (set cursors name (Some cursor)) held') old new (replies.opened live)
        open_carries {cursor} opened {live} count = record {
          reached = λ told start at. reached told start at;
          moments = survives_reading (of_command («open» name query)) (with_store cursors held) opened.reads.frame;
          settles = λ honest told start at secure image left.
              (let before = secure image (opened.reads.frame.crash honest image left) in
              (settled start at.is image before.0, same_region held held' image opened.same before.1));
        }
          where
            is_new : g.told → (store : Store) → IsAt (holding store) (with_store cursors held) (g.image old) → IsCursorOf (record { snapshot = store.kept; query = query_in store.kept query; given = 0 }) cursor
            is_new told store at = record {
              query = opened.begins.query_is ∙ is_asked.same ∙ query_there query store.kept at.is.kept;
              given = opened.begins.given;
              ranks = opened.ranks told store.kept at.is.kept at.stands;
              stood = (g.image old, at.stands);
            }

            reached : g.told → (start : State) → IsAt start (with_store cursors held) (g.image old) → Reached g (of_command («open» name query) start) start (with_store (set cursors name (Some cursor)) held') old new (replies.opened live)
            reached told blank at = absurd at.is
            reached told (holding store) at =
                let stays = same_store cursors held {held' = held'} (holding store) opened.same at.is in
                reached_by («open» name query) (effect («open» name query) (holding store)) (opens_now store at.is) (ap (λ (n : ℕ). replies.opened n) (live_there store at.is.kept opened.same count))
                (record {
                  is = record {
                    kept = stays.kept;
                    whole = stays.whole;
                    cursors = are_set store.cursors cursors name (Some (record { snapshot = store.kept; query = query_in store.kept query; given = 0 })) (Some cursor) at.is.cursors (is_new told store at);
                    building = stays.building;
                  };
                  stands = rw opened.reads.frame.image at.stands;
                  vectors = rw opened.reads.frame.image (kept_set (g.image old) store.cursors name (Some (record { snapshot = store.kept; query = query_in store.kept query; given = 0 })) at.vectors (stands_keeps store.kept (g.image old) at.stands));
                })
                (λ same_state. opened.reads.frame.image)
                (adds_read store [] (λ vectors. AreReads false vectors (reads_of (holding store) [])) told (subst (λ (shape : Shape). ReadsVectors g shape old [] new) at.is.kept.shape opened.reads) refl)

            settled : (start : State) → Is start (with_store cursors held) → (image : List ℕ) → StandsFor start image → StandsFor (of_command («open» name query) start false).state image
            settled blank is image stands = absurd is
            settled (holding store) is image stands = subst (λ (o : Outcome). StandsFor o.state image) (sym (opens_now store is)) stands

        -- no cursor was opened
        module _ (opened_frame : OnlyReads g old new) (stays : IsSameStore held held') (reads : ReadsVectors g held.shape old [] new) where
          open_lacks : Carries g (of_command («open» name query)) (with_store cursors held) (with_store cursors held') old new (error reasons.Memory)
          open_lacks = record {
            reached = λ told start at. reached told start at;
            moments = survives_reading (of_command («open» name query)) (with_store cursors held) opened_frame;
            settles = λ honest told start at secure image left.
                (let before = secure image (opened_frame.crash honest image left) in
                (settled start at.is image before.0, same_region held held' image stays before.1));
          }
            where
              reached : g.told → (start : State) → IsAt start (with_store cursors held) (g.image old) → Reached g (of_command («open» name query) start) start (with_store cursors held') old new (error reasons.Memory)
              reached told blank at = absurd at.is
              reached told (holding store) at =
                  reached_by («open» name query) (refuse (holding store) reasons.Memory) (lacks_now store at.is) refl
                  (record { is = same_store cursors held {held' = held'} (holding store) stays at.is; stands = rw opened_frame.image at.stands; vectors = rw opened_frame.image at.vectors })
                  (λ same_state. opened_frame.image)
                  (adds_read store [] (λ vectors. AreFirst vectors (reads_of (holding store) [])) told (subst (λ (shape : Shape). ReadsVectors g shape old [] new) at.is.kept.shape reads) (record { rest = []; is = refl }))

              settled : (start : State) → Is start (with_store cursors held) → (image : List ℕ) → StandsFor start image → StandsFor (of_command («open» name query) start true).state image
              settled blank is image stands = absurd is
              settled (holding store) is image stands = subst (λ (o : Outcome). StandsFor o.state image) (sym (lacks_now store is)) stands

          open_loses : Loses g (of_command («open» name query)) (with_store cursors held) old new
          open_loses = record {
            read = λ told start at. first told start at;
            stays = λ told start at same_state. opened_frame.image;
            moments = survives_reading (of_command («open» name query)) (with_store cursors held) opened_frame;
          }
            where
              first : g.told → (start : State) → IsAt start (with_store cursors held) (g.image old) → Adds start (λ vectors. AreFirst vectors (reads_of start (of_command («open» name query) start false).places)) (g.reads old) (g.reads new)
              first told blank at = absurd at.is
              first told (holding store) at =
                  subst (λ (o : Outcome). Adds (holding store) (λ vectors. AreFirst vectors (reads_of (holding store) o.places)) (g.reads old) (g.reads new)) (sym (opens_now store at.is))
                  (adds_read store [] (λ vectors. AreFirst vectors (reads_of (holding store) [])) told (subst (λ (shape : Shape). ReadsVectors g shape old [] new) at.is.kept.shape reads) (record { rest = []; is = refl }))

          fails_so : (lent : Lent) (fault : StoreSearchFault) → FailsOpen g held' fault → Obeys g (asked_by («open» name query)) lent (with_store cursors held) (with_store cursors held') old new (fault_answer fault)
          fails_so lent faults.Memory fails = open_lacks
          fails_so lent faults.Disk fails = open_loses
          fails_so lent (faults.Mismatch place dist low high) fails = absurd fails
          fails_so lent (faults.Changed place) fails = record {
            breaks = record { never = λ told start at. absurd (fails.0 told); frame = opened_frame };
            scans = inl refl;
            untold = fails.0;
            changed = fails.1;
          }

        pub open_fails : {fault : StoreSearchFault} → Opened g asked held held' old new (Err fault) → (lent : Lent) → Obeys g (asked_by («open» name query)) lent (with_store cursors held) (with_store cursors held') old new (fault_answer fault)
        open_fails {fault} opened lent = fails_so opened.reads.frame opened.same opened.reads lent fault opened.failed

  -- The next pair.
  next_by : (store : Store) → Is (holding store) (with_store cursors held) → refusal (next name) (holding store) ≡ next_reason (is_open_at name cursors)
  next_by store is = next_tests (is_some (cursor_of name store)) ∙ ap next_reason (is_open_same store.cursors cursors name is.cursors)

  close_by : (store : Store) → Is (holding store) (with_store cursors held) → refusal (close name) (holding store) ≡ next_reason (is_open_at name cursors)
  close_by store is = next_tests (is_some (cursor_of name store)) ∙ ap next_reason (is_open_same store.cursors cursors name is.cursors)

  pub next_unopened : is_open_at name cursors ≡ false → RefusedIn (next name) (with_store cursors held) reasons.Cursor
  next_unopened none blank is = absurd is
  next_unopened none (holding store) is = next_by store is ∙ ap next_reason none

  pub close_unopened : is_open_at name cursors ≡ false → RefusedIn (close name) (with_store cursors held) reasons.Cursor
  close_unopened none blank is = absurd is
  close_unopened none (holding store) is = close_by store is ∙ ap next_reason none

  module _ {before : Cursor} (there : get_or cursors name None ≡ Some before) (shapes : before.shape ≡ held.shape) where
    is_there : is_open_at name cursors ≡ true
    is_there = ap is_some there

    next_now : (store : Store) → Is (holding store) (with_store cursors held) → of_command (next name) (holding store) false ≡ advances name (cursor_of name store) store
    next_now store is = effect_outcome (next name) (holding store) (next_by store is ∙ ap next_reason is_there)

    module _ {D : Type 0} {g : Ghosts D} {held' : Known} {old new : D} (after : Cursor) (frame : OnlyReads g old new) (stays : IsSameStore held held') where
      -- in a state, the cursor that was asked, and what it ranks
      module _ (store : Store) (at : IsAt (holding store) (with_store cursors held) (g.image old)) where
        found : IsFound store.cursors name before
        found = found_cursor store.cursors cursors name before at.is.cursors there

        kept_there : VectorsStand found.cursor.snapshot (g.image old)
        kept_there = found_kept (g.image old) store.cursors name found.cursor at.vectors found.at

        ranking_there : slice_get (ranking_of before.query found.cursor.snapshot) before.given ≡ slice_get (ranking found.cursor) found.cursor.given
        ranking_there =
            ap (λ (q : distances.Query). slice_get (ranking_of q found.cursor.snapshot) before.given) found.is.query
            ∙ ap (λ (n : ℕ). slice_get (ranking found.cursor) n) found.is.given

        due_there : due_of before.query found.cursor.snapshot before.given ≡ due_for found.cursor found.cursor.given
        due_there =
            ap (λ (q : distances.Query). due_of q found.cursor.snapshot before.given) found.is.query
            ∙ ap (λ (n : ℕ). due_for found.cursor n) found.is.given

        shape_there : found.cursor.snapshot.shape ≡ store.kept.shape
        shape_there = sym (found.is.ranks.stands.shape ∙ found.is.ranks.is.shape) ∙ shapes ∙ at.is.kept.shape

        outcome_there : (o : Option Pair) → o ≡ slice_get (ranking found.cursor) found.cursor.given → of_command (next name) (holding store) false ≡ gives name found.cursor o store
        outcome_there o is =
            next_now store at.is
            ∙ ap (λ (c : Option rules.OpenCursor). advances name c store) found.at
            ∙ ap (λ (p : Option Pair). gives name found.cursor p store) (sym is)

        -- the reads of items of the snapshot, as reads of the store
        items_added : (items : List Item) (P : List (ℕ × ℕ) → Type 0) → g.told → ReadsItems g found.cursor.snapshot old items new → P (reads_of (holding store) (places_in found.cursor items)) → Adds (holding store) P (g.reads old) (g.reads new)
        items_added items P told reads has = adds_read store (places_in found.cursor items) P told (subst (λ (shape : Shape). ReadsVectors g shape old (places_in found.cursor items) new) shape_there reads) has

      pub next_carries : (o : Option Pair) (reply : Reply) → wants_memory reply ≡ false
          → (g.told → (kept : Kept) → Ranks kept before → VectorsStand kept (g.image old) → Gives g kept before after old new o) → after.query ≡ before.query → after.given ≡ given_then o before.given
          → ((store : Store) (cursor : rules.OpenCursor) → after.read_last ≡ length (read_for cursor.query cursor.snapshot cursor.given o) → reply ≡ (gives name cursor o store).reply)
          → Carries g (of_command (next name)) (with_store cursors held) (with_store (set cursors name (Some after)) held') old new reply
      next_carries o reply plain gave query_same count says = record {
        reached = λ told start at. reached told start at;
        moments = survives_reading (of_command (next name)) (with_store cursors held) frame;
        settles = λ honest told start at secure image left.
            (let before = secure image (frame.crash honest image left) in
            (settled told start at image before.0, same_region held held' image stays before.1));
      }
        where
          gift : (told : g.told) (store : Store) (at : IsAt (holding store) (with_store cursors held) (g.image old)) → Gives g (found store at).cursor.snapshot before after old new o
          gift told store at = gave told (found store at).cursor.snapshot (found store at).is.ranks (kept_there store at)

          outcome : (told : g.told) (store : Store) (at : IsAt (holding store) (with_store cursors held) (g.image old)) → of_command (next name) (holding store) (wants_memory reply) ≡ gives name (found store at).cursor o store
          outcome told store at = ap (λ (m : Bool). of_command (next name) (holding store) m) plain ∙ outcome_there store at o ((gift told store at).pair ∙ ranking_there store at)

          counted : (told : g.told) (store : Store) (at : IsAt (holding store) (with_store cursors held) (g.image old)) → after.read_last ≡ length (read_for (found store at).cursor.query (found store at).cursor.snapshot (found store at).cursor.given o)
          counted told store at =
              (gift told store at).count
              ∙ ap (λ (q : distances.Query). length (read_for q (found store at).cursor.snapshot before.given o)) (found store at).is.query
              ∙ ap (λ (n : ℕ). length (read_for (found store at).cursor.query (found store at).cursor.snapshot n o)) (found store at).is.given

          at_now : (told : g.told) (store : Store) (at : IsAt (holding store) (with_store cursors held) (g.image old)) (p : Option Pair) → p ≡ o → IsAt (gives name (found store at).cursor p store).state (with_store (set cursors name (Some after)) held') (g.image new)
          at_now told store at None e =
              let same = same_store cursors held {held' = held'} (holding store) stays at.is in
              let c = (found store at).cursor in
              let n : after.given ≡ c.given = count ∙ ap (λ (p : Option Pair). given_then p before.given) (sym e) ∙ (found store at).is.given in
              record {
                is = record {
                  kept = same.kept;
                  whole = same.whole;
                  building = same.building;
                  cursors = subst (λ (l : List (Option rules.OpenCursor)). AreCursors l (set cursors name (Some after))) (set_same store.cursors name (Some c) (found store at).at)
                      (are_set store.cursors cursors name (Some c) (Some after) at.is.cursors (record { query = query_same ∙ (found store at).is.query; given = n; ranks = (gift told store at).ranks; stood = (found store at).is.stood }));
                };
                stands = rw frame.image at.stands;
                vectors = rw frame.image at.vectors;
              }
          at_now told store at (Some pair) e =
              let same = same_store cursors held {held' = held'} (holding store) stays at.is in
              let c = (found store at).cursor in
              let n : after.given ≡ c.given + 1 = count ∙ ap (λ (p : Option Pair). given_then p before.given) (sym e) ∙ ap (λ (m : ℕ). m + 1) (found store at).is.given in
              record {
                is = record {
                  kept = same.kept;
                  whole = same.whole;
                  cursors = are_set store.cursors cursors name (Some (advanced c)) (Some after) at.is.cursors (record { query = query_same ∙ (found store at).is.query; given = n; ranks = (gift told store at).ranks; stood = (found store at).is.stood });
                  building = same.building;
                };
                stands = rw frame.image at.stands;
                vectors = rw frame.image (kept_set (g.image old) store.cursors name (Some (advanced c)) at.vectors (kept_there store at));
              }

          read_now : (told : g.told) (store : Store) (at : IsAt (holding store) (with_store cursors held) (g.image old)) (p : Option Pair) → p ≡ o → Adds (holding store) (λ vectors. AreReads (wants_memory reply) vectors (reads_of (holding store) (gives name (found store at).cursor p store).places)) (g.reads old) (g.reads new)
          read_now told store at None e = items_added store at [] (λ vectors. AreReads (wants_memory reply) vectors (reads_of (holding store) [])) told
              (subst (λ (p : Option Pair). ReadsItems g (found store at).cursor.snapshot old (read_for before.query (found store at).cursor.snapshot before.given p) new) (sym e) (gift told store at).reads) (rw plain refl)
          read_now told store at (Some pair) e = items_added store at (due_for (found store at).cursor (found store at).cursor.given) (λ vectors. AreReads (wants_memory reply) vectors (reads_of (holding store) (places_in (found store at).cursor (due_for (found store at).cursor (found store at).cursor.given)))) told
              (subst (λ (items : List Item). ReadsItems g (found store at).cursor.snapshot old items new) (due_there store at)
              (subst (λ (p : Option Pair). ReadsItems g (found store at).cursor.snapshot old (read_for before.query (found store at).cursor.snapshot before.given p) new) (sym e) (gift told store at).reads)) (rw plain refl)

          reached : g.told → (start : State) → IsAt start (with_store cursors held) (g.image old) → Reached g (of_command (next name) start) start (with_store (set cursors name (Some after)) held') old new reply
          reached told blank at = absurd at.is
          reached told (holding store) at = reached_by (next name) (gives name (found store at).cursor o store) (outcome told store at) (says store (found store at).cursor (counted told store at))
              (at_now told store at o refl) (λ same_state. frame.image) (read_now told store at o refl)

          stands_on : (store : Store) (cursor : rules.OpenCursor) (p : Option Pair) (image : List ℕ) → StandsFor (holding store) image → StandsFor (gives name cursor p store).state image
          stands_on store cursor None image stands = stands
          stands_on store cursor (Some pair) image stands = stands

          settled : g.told → (start : State) → IsAt start (with_store cursors held) (g.image old) → (image : List ℕ) → StandsFor start image → StandsFor (of_command (next name) start (wants_memory reply)).state image
          settled told blank at image stands = absurd at.is
          settled told (holding store) at image stands = subst (λ (x : Outcome). StandsFor x.state image) (sym (outcome told store at)) (stands_on store (found store at).cursor o image stands)

      -- the disk failed, or a vector lies outside its bounds
      pub next_fails : (lent : Lent) (cursors' : List (Option Cursor)) (fault : StoreSearchFault) → FailsNext g held' before after old new fault → Obeys g (asked_by (next name)) lent (with_store cursors held) (with_store cursors' held') old new (fault_answer fault)
      next_fails lent cursors' faults.Memory fails = absurd fails
      next_fails lent cursors' faults.Disk fails = record {
        read = λ told start at. first told start at;
        stays = λ told start at same_state. frame.image;
        moments = survives_reading (of_command (next name)) (with_store cursors held) frame;
      }
        where
          places_for : (store : Store) (at : IsAt (holding store) (with_store cursors held) (g.image old)) (o : Option Pair) → places_in (found store at).cursor (read_for before.query (found store at).cursor.snapshot before.given o) ≡ (gives name (found store at).cursor o store).places
          places_for store at None = refl
          places_for store at (Some pair) = ap (places_in (found store at).cursor) (due_there store at)

          first_of : (told : g.told) (store : Store) (at : IsAt (holding store) (with_store cursors held) (g.image old)) (o : Option Pair) → slice_get (ranking_of before.query (found store at).cursor.snapshot) before.given ≡ o
              → Adds (holding store) (λ vectors. AreFirst vectors (reads_of (holding store) (gives name (found store at).cursor o store).places)) (g.reads old) (g.reads new)
          first_of told store at o is =
              let some = subst (λ (p : Option Pair). ReadsFirst g (found store at).cursor.snapshot old (read_for before.query (found store at).cursor.snapshot before.given p) new) is (fails.0 told (found store at).cursor.snapshot (found store at).is.ranks (kept_there store at)) in
              items_added store at some.first (λ vectors. AreFirst vectors (reads_of (holding store) (gives name (found store at).cursor o store).places)) told some.reads
              (record {
                rest = reads_of (holding store) (places_in (found store at).cursor some.rest);
                is = sym (map-append (read_of store.kept.shape) (places_in (found store at).cursor some.first) (places_in (found store at).cursor some.rest))
                    ∙ ap (λ (places : List ℕ). reads_of (holding store) places) (sym (map-append (λ (item : Item). place_of item.id (found store at).cursor.snapshot.places) some.first some.rest) ∙ ap (places_in (found store at).cursor) some.are ∙ places_for store at o);
              })

          first : g.told → (start : State) → IsAt start (with_store cursors held) (g.image old) → Adds start (λ vectors. AreFirst vectors (reads_of start (of_command (next name) start false).places)) (g.reads old) (g.reads new)
          first told blank at = absurd at.is
          first told (holding store) at =
              subst (λ (x : Outcome). Adds (holding store) (λ vectors. AreFirst vectors (reads_of (holding store) x.places)) (g.reads old) (g.reads new)) (sym (outcome_there store at (slice_get (ranking_of before.query (found store at).cursor.snapshot) before.given) (ranking_there store at)))
              (first_of told store at (slice_get (ranking_of before.query (found store at).cursor.snapshot) before.given) refl)
      next_fails lent cursors' (faults.Mismatch place dist low high) fails = record {
        breaks = record { never = λ told start at. never told start at; frame = frame };
        outside = fails.0;
        finds = inr (record { asks = (name, refl); cursor = before; is_open = there; numbers = fails.2 });
      }
        where
          never : g.told → (start : State) → IsAt start (with_store cursors held) (g.image old) → ⊥
          never told blank at = absurd at.is
          never told (holding store) at = fails.1 told (found store at).cursor.snapshot (found store at).is.ranks (kept_there store at)
      next_fails lent cursors' (faults.Changed place) fails = record {
        breaks = record { never = λ told start at. absurd (fails.0 told); frame = frame };
        scans = inr (name, refl);
        untold = fails.0;
        changed = fails.1;
      }

      -- whatever the cursor answered
      pub next_obeys : (lent : Lent) (result : Result (Option Pair) StoreSearchFault) → Advanced g before after held held' old new result
          → Obeys g (asked_by (next name)) lent (with_store cursors held) (with_store (set cursors name (Some after)) held') old new (next_answer result after.read_last)
      next_obeys lent (Ok None) did = next_carries None replies.at_end refl did.gives did.cursor.query did.given (λ store cursor count. refl)
      next_obeys lent (Ok (Some pair)) did = next_carries (Some pair) (replies.next_pair pair after.read_last) refl did.gives did.cursor.query did.given (λ store cursor count. ap (λ (n : ℕ). replies.next_pair pair n) count)
      next_obeys lent (Err fault) did = next_fails lent (set cursors name (Some after)) fault did.failed

  -- Closing.
  close_now : is_open_at name cursors ≡ true → (store : Store) → Is (holding store) (with_store cursors held) → of_command (close name) (holding store) false ≡ effect (close name) (holding store)
  close_now there store is = effect_outcome (close name) (holding store) (close_by store is ∙ ap next_reason there)

  module _ {D : Type 0} (g : Ghosts D) (disk : D) where
    closes_open : is_open_at name cursors ≡ true → Carries g (of_command (close name)) (with_store cursors held) (with_store (set cursors name None) held) disk disk replies.closed
    closes_open there = record {
      reached = λ told start at. reached told start at;
      moments = survives_reading {g = g} (of_command (close name)) (with_store cursors held) reads_nothing;
      settles = λ honest told start at secure image left. (settled start at.is image (secure image left).0, (secure image left).1);
    }
      where
        reached : g.told → (start : State) → IsAt start (with_store cursors held) (g.image disk) → Reached g (of_command (close name) start) start (with_store (set cursors name None) held) disk disk replies.closed
        reached told blank at = absurd at.is
        reached told (holding store) at = reached_by (close name) (effect (close name) (holding store)) (close_now there store at.is) refl
            (record { is = record { kept = at.is.kept; whole = at.is.whole; cursors = are_set store.cursors cursors name None None at.is.cursors tt; building = at.is.building }; stands = at.stands; vectors = kept_set (g.image disk) store.cursors name None at.vectors tt })
            (λ same_state. refl)
            (adds_nothing (holding store) (λ vectors. AreReads false vectors (reads_of (holding store) [])) (g.reads disk) (g.reads disk) refl (no_reads_of false (holding store)))

        settled : (start : State) → Is start (with_store cursors held) → (image : List ℕ) → StandsFor start image → StandsFor (of_command (close name) start false).state image
        settled blank is image stands = absurd is
        settled (holding store) is image stands = subst (λ (o : Outcome). StandsFor o.state image) (sym (close_now there store is)) stands

none_of : (held : Option Cursor) → is_some held ≡ false → held ≡ None
none_of None is = refl
none_of (Some h) is = cc

closes_if : {D : Type 0} (g : Ghosts D) (cursors : List (Option Cursor)) (held : Known) (name : ℕ) (disk : D) (there : Bool) → is_open_at name cursors ≡ there
    → Carries g (of_command (close name)) (with_store cursors held) (with_store (set cursors name None) held) disk disk (closed_reply there)
closes_if g cursors held name disk true there = closes_open cursors held name g disk there
closes_if g cursors held name disk false none =
    subst (λ (l : List (Option Cursor)). Carries g (of_command (close name)) (with_store cursors held) (with_store l held) disk disk (error reasons.Cursor))
    (sym (set_same cursors name None (none_of (get_or cursors name None) none)))
    (carries_refused (close name) reasons.Cursor (close_unopened cursors held name none) reads_nothing refl)

-- what is owed where a cursor is closed, or none is open
pub close_carries : {D : Type 0} (g : Ghosts D) (asked : Command) (name : ℕ) → asked ≡ close name → (before after : Workspace) (disk : D) (reply : Reply) → after.store ≡ before.store → (reply ≡ closed_reply (is_open_at name before.cursors)) × (after.cursors ≡ set before.cursors name None)
    → Carries g (of_command asked) (sitting_of before) (sitting_of after) disk disk reply
close_carries g asked name same before after disk reply store closes =
    rw (same, store, closes.1, closes.0) (closes_if g before.cursors before.store name disk (is_open_at name before.cursors) refl)

-- a name under which none is open, once the cursor that isn't there was taken out
pub next_none : {D : Type 0} (g : Ghosts D) (cursors : List (Option Cursor)) (held : Known) (name : ℕ) (disk : D) → get_or cursors name None ≡ None
    → Carries g (of_command (next name)) (with_store cursors held) (with_store (set cursors name None) held) disk disk (error reasons.Cursor)
next_none g cursors held name disk none =
    subst (λ (l : List (Option Cursor)). Carries g (of_command (next name)) (with_store cursors held) (with_store l held) disk disk (error reasons.Cursor))
    (sym (set_same cursors name None none))
    (carries_refused (next name) reasons.Cursor (next_unopened cursors held name (ap is_some none)) reads_nothing refl)

-- what is taken out and put back
pub set_twice : {X : Type 0} (l : List X) (n : ℕ) (x y : X) → set (set l n x) n y ≡ set l n y
set_twice [] n x y = refl
set_twice (z ∷ l) zero x y = refl
set_twice (z ∷ l) (suc n) x y = ap (λ (m : List _). z ∷ m) (set_twice l n x y)
