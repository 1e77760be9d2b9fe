-- What a refused command owes, and why a command is refused where the store refuses it.
use Rattle.std.proofs.Common.{◌≡◌, ℕ, ◌==◌, not, Bool, true, false, List, [], ◌∷◌, length, Option, None, Some, refl, ap, sym, ◌∙◌}
use Rattle.std.proofs.lemmas.List.{length-map}
use Rattle.std.specs.Option.{option_and_then}
use Rattle.va_core.specs.Places.{is_live, id_of}
use Rattle.va_cursor.specs.Cursors.{Cursor}
use Rattle.va_disk.specs.declared.storage.Storage.{Ghosts}
use Rattle.va_disk.proofs.Frames.{reads_nothing}
use Rattle.va_lang.specs.Reply.{error}
use Rattle.va_lang.specs.Command.{insert, delete, get}
use Rattle.va_lang.specs.declared.reply.Why.TheVariants.{Length, Duplicate, Full, Unknown}
use Rattle.va_lang.specs.declared.reply.Why.{Why}
use Rattle.va_model.specs.State.{Store, blank, holding}
use Rattle.va_model.specs.Rows.{first_reason}
use Rattle.va_model.specs.Step.{refusal}
use Rattle.va_model.specs.Writing.{free_place}
use Rattle.va_serve.specs.Session.{Is, with_store}
use Rattle.va_serve.specs.Refusals.{why_of_delete, why_of_insert}
use Rattle.va_serve.specs.Promises.{Carries, of_command}
use Rattle.va_serve.proofs.Holding.{HoldBack, free_is_first}
use Rattle.va_serve.proofs.Outcomes.{RefusedIn, carries_refused}
use Rattle.va_store.specs.Known.{Known, IsOf, first_free, is_live_id, place_of_id}
use Rattle.va_store.specs.Refusals.{insert_refusal, delete_refusal}
use Rattle.va_store.specs.declared.faults.InsertFault.{InsertFault}
use Rattle.va_store.specs.declared.faults.InsertFault.TheVariants as inserting
use Rattle.va_store.specs.declared.faults.DeleteFault.{DeleteFault}
use Rattle.va_store.specs.declared.faults.DeleteFault.TheVariants as deleting
use Rattle.va_store.proofs.Finding.{live_of_places}

-- the same tests in the same order
insert_tests : (whole wrong live full : Bool) (place : ℕ) → whole ≡ false →
    first_reason ((wrong, Length) ∷ (live, Duplicate) ∷ (full, Full) ∷ [])
    ≡ option_and_then why_of_insert (first_reason ((whole, inserting.Broken) ∷ (wrong, inserting.Length) ∷ (live, inserting.Duplicate place) ∷ (full, inserting.Full) ∷ []))
insert_tests true wrong live full place is = cc
insert_tests false true live full place is = refl
insert_tests false false true full place is = refl
insert_tests false false false true place is = refl
insert_tests false false false false place is = refl

insert_same : {cursors : List (Option Cursor)} {numbers : List ℕ} (held : Known) (store : Store) (id : ℕ) (vector : List ℕ) → HoldBack held.shape cursors numbers → Is (holding store) (with_store cursors held)
    → refusal (insert id vector) (holding store) ≡ option_and_then why_of_insert (insert_refusal held id vector numbers)
insert_same {cursors} {numbers} held store id vector back is =
    let places = store.kept.places in
    let free : first_free held.ids numbers ≡ free_place store = free_is_first held store back is.kept is.cursors in
    let live : is_live_id id held.ids ≡ is_live id places = rw is.kept.ids (live_of_places id places) in
    let count : length held.ids ≡ length places = ap length is.kept.ids ∙ length-map places id_of in
    rw (sym is.kept.shape, sym live, sym free, sym count)
    (insert_tests held.broken (not (length vector == held.shape.dims)) (is_live_id id held.ids) (first_free held.ids numbers == length held.ids) (place_of_id id held.ids) is.whole)

insert_refused : {cursors : List (Option Cursor)} {numbers : List ℕ} (held : Known) (id : ℕ) (vector : List ℕ) (fault : InsertFault) (why : Why) → why_of_insert fault ≡ Some why → HoldBack held.shape cursors numbers
    → insert_refusal held id vector numbers ≡ Some fault → RefusedIn (insert id vector) (with_store cursors held) why
insert_refused held id vector fault why says back is blank at = absurd at
insert_refused held id vector fault why says back is (holding store) at = insert_same held store id vector back at ∙ ap (λ (o : Option InsertFault). option_and_then why_of_insert o) is ∙ says

pub insert_free : {cursors : List (Option Cursor)} {numbers : List ℕ} (held : Known) (store : Store) (id : ℕ) (vector : List ℕ) → HoldBack held.shape cursors numbers → Is (holding store) (with_store cursors held) → insert_refusal held id vector numbers ≡ None
    → refusal (insert id vector) (holding store) ≡ None
insert_free held store id vector back is free = insert_same held store id vector back is ∙ ap (λ (o : Option InsertFault). option_and_then why_of_insert o) free

delete_tests : (whole live : Bool) → whole ≡ false →
    first_reason ((not live, Unknown) ∷ []) ≡ option_and_then why_of_delete (first_reason ((whole, deleting.Broken) ∷ (not live, deleting.Unknown) ∷ []))
delete_tests true live is = cc
delete_tests false true is = refl
delete_tests false false is = refl

delete_same : (held : Known) (store : Store) (id : ℕ) → IsOf held store.kept → held.broken ≡ false → refusal (delete id) (holding store) ≡ option_and_then why_of_delete (delete_refusal held id)
delete_same held store id is whole =
    let live : is_live_id id held.ids ≡ is_live id store.kept.places = rw is.ids (live_of_places id store.kept.places) in
    rw (sym live) (delete_tests held.broken (is_live_id id held.ids) whole)

delete_refused : (cursors : List (Option Cursor)) (held : Known) (id : ℕ) (fault : DeleteFault) (why : Why) → why_of_delete fault ≡ Some why → delete_refusal held id ≡ Some fault → RefusedIn (delete id) (with_store cursors held) why
delete_refused cursors held id fault why says is blank at = absurd at
delete_refused cursors held id fault why says is (holding store) at = delete_same held store id at.kept at.whole ∙ ap (λ (o : Option DeleteFault). option_and_then why_of_delete o) is ∙ says

pub delete_free : (held : Known) (store : Store) (id : ℕ) → IsOf held store.kept → held.broken ≡ false → delete_refusal held id ≡ None → refusal (delete id) (holding store) ≡ None
delete_free held store id is whole free = delete_same held store id is whole ∙ ap (λ (o : Option DeleteFault). option_and_then why_of_delete o) free

get_same : (held : Known) (store : Store) (id : ℕ) (live : Bool) → IsOf held store.kept → is_live_id id held.ids ≡ live → refusal (get id) (holding store) ≡ first_reason ((not live, Unknown) ∷ [])
get_same held store id live is lives =
    let there : is_live id store.kept.places ≡ live = sym (rw is.ids (live_of_places id store.kept.places)) ∙ lives in
    ap (λ (b : Bool). first_reason ((not b, Unknown) ∷ [])) there

pub get_refused : (cursors : List (Option Cursor)) (held : Known) (id : ℕ) → is_live_id id held.ids ≡ false → RefusedIn (get id) (with_store cursors held) Unknown
get_refused cursors held id gone blank at = absurd at
get_refused cursors held id gone (holding store) at = get_same held store id false at.kept gone

pub get_free : (held : Known) (store : Store) (id : ℕ) → IsOf held store.kept → is_live_id id held.ids ≡ true → refusal (get id) (holding store) ≡ None
get_free held store id is lives = get_same held store id true is lives

-- the command is refused for the store's reason, and nothing changed
module _ {D : Type 0} (g : Ghosts D) (old new : D) (same : new ≡ old) where
  pub insert_carries : {cursors : List (Option Cursor)} {numbers : List ℕ} (held held' : Known) (id : ℕ) (vector : List ℕ) (fault : InsertFault) (why : Why) → why_of_insert fault ≡ Some why → HoldBack held.shape cursors numbers
      → insert_refusal held id vector numbers ≡ Some fault → held' ≡ held → Carries g (of_command (insert id vector)) (with_store cursors held) (with_store cursors held') old new (error why)
  insert_carries held held' id vector fault why says back is same_held =
      rw (same_held, same) (carries_refused (insert id vector) why (insert_refused held id vector fault why says back is) reads_nothing refl)

  pub delete_carries : (cursors : List (Option Cursor)) (held held' : Known) (id : ℕ) (fault : DeleteFault) (why : Why) → why_of_delete fault ≡ Some why → delete_refusal held id ≡ Some fault → held' ≡ held
      → Carries g (of_command (delete id)) (with_store cursors held) (with_store cursors held') old new (error why)
  delete_carries cursors held held' id fault why says is same_held = rw (same_held, same) (carries_refused (delete id) why (delete_refused cursors held id fault why says is) reads_nothing refl)

-- the reason that was answered is the store's
pub the_reason : {F : Type 0} (reason : Option F) (fault : F) → (reason ≡ None → ⊥) → ((why : F) → reason ≡ Some why → fault ≡ why) → reason ≡ Some fault
the_reason None fault some is = absurd (some refl)
the_reason (Some why) fault some is = ap Some (sym (is why refl))

pub not_true : (b : Bool) → (b ≡ true → ⊥) → b ≡ false
not_true true wrong = absurd (wrong refl)
not_true false wrong = refl
