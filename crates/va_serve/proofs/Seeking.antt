-- What comes of a command that searches.
use Rattle.std.proofs.Common.{◌≡◌, inl, ℕ, Ok, Err, Bool, true, false, List, [], ◌++◌, Option, None, Some, refl, sym, ap, ◌∙◌, subst}
use Rattle.std.proofs.lemmas.List.{append-nil, map-append}
use Rattle.va_core.specs.Distance.{Query}
use Rattle.va_core.specs.Places.{Item, place_of}
use Rattle.va_core.specs.Shape.{Shape}
use Rattle.va_cursor.specs.Cursors.{Cursor}
use Rattle.va_disk.specs.Frames.{OnlyReads}
use Rattle.va_disk.specs.declared.storage.Storage.{Ghosts}
use Rattle.va_disk.proofs.Frames.{reads_nothing}
use Rattle.va_lang.specs.Command.{Command}
use Rattle.va_lang.specs.Reply.{Reply, error}
use Rattle.va_lang.specs.declared.reply.Why.{Why}
use Rattle.va_lang.specs.declared.reply.Why.TheVariants.{Memory}
use Rattle.va_layout.specs.Stands.{Kept, Stands, selected_in}
use Rattle.va_model.specs.Memory.{wants_memory}
use Rattle.va_model.specs.Rows.{Outcome, Want, at_once, between, refuse}
use Rattle.va_model.specs.State.{State, StandsFor, Store, blank, holding}
use Rattle.va_model.specs.Step.{effect, is_scanning, query_asked, reads_of, refusal, want}
use Rattle.va_model.specs.VectorReads.{Adds, AreFirst, AreReads}
use Rattle.va_model.proofs.Reading.{adds_nothing}
use Rattle.va_search.specs.Searched.{FailsSearch, Lack, LacksMemory, ReadsFirst, ReadsItems, Searched, WhereStands, at_any_time, before_reads}
use Rattle.va_search.specs.Sought.{Sought, places_of}
use Rattle.va_search.specs.declared.fault.StoreSearchFault.{StoreSearchFault}
use Rattle.va_search.specs.declared.fault.StoreSearchFault.TheVariants as faults
use Rattle.va_serve.specs.Answers.{fault_answer}
use Rattle.va_serve.specs.Promises.{IsAsked, Carries, Loses, Obeys, Reached, asked_by, of_command}
use Rattle.va_serve.specs.Refusals.{IsUnasked}
use Rattle.va_serve.specs.Session.{Is, IsAt, Lent, with_store}
use Rattle.va_serve.proofs.Outcomes.{RefusedFor, carries_unasked, effect_outcome, memory_later, memory_outcome, reached_by, survives_reading}
use Rattle.va_store.specs.Known.{IsOf, Known}
use Rattle.va_store.specs.Shelved.{IsSameStore}
use Rattle.va_store.specs.ShelfReads.{ReadsVectors, read_of}

-- when memory may be refused, in the words of the table of commands
abbrev pub wanted : Lack → Want
wanted before_reads = at_once
wanted at_any_time = between

-- The command searches: over this store it is refused for this reason, if there is one; else it may find no memory then, and
-- it reads what is sought and has this reply.
pub record IsSearch {A : Type 0} (command : Command) (held : Known) (reason : Option Why) (lack : Lack) (query : Query) (sought : Kept → Sought A) (says : Store → Reply) : Type 0 where
  pub refused : (store : Store) → IsOf held store.kept → refusal command (holding store) ≡ reason
  pub wants : (store : Store) → want command (holding store) ≡ wanted lack
  pub does : (store : Store) → IsOf held store.kept → effect command (holding store) ≡ record { state = holding store; reply = says store; places = places_of store.kept (sought store.kept).reads }
  pub asks : (kept : Kept) → IsOf held kept → query_asked command kept ≡ Some query
  pub searches : IsAsked (query_asked command)
  pub scans : is_scanning command ≡ true

-- a store that is as it was, but for its scan, is of the same state
pub same_store : (cursors : List (Option Cursor)) (held : Known) {held' : Known} (start : State) → IsSameStore held held' → Is start (with_store cursors held) → Is start (with_store cursors held')
same_store cursors held {held'} blank same is = absurd is
same_store cursors held {held'} (holding store) same is = record {
  kept = record {
    shape = ap (λ (k : Known). k.shape) same ∙ is.kept.shape;
    ids = ap (λ (k : Known). k.ids) same ∙ is.kept.ids;
    marks = ap (λ (k : Known). k.marks) same ∙ is.kept.marks;
  };
  whole = ap (λ (k : Known). k.broken) same ∙ is.whole;
  cursors = is.cursors;
  building = ap (λ (k : Known). k.building) same ∙ is.building;
}

-- it selects the same region
pub same_region : (held held' : Known) (image : List ℕ) → IsSameStore held held' → selected_in image ≡ held.region → selected_in image ≡ held'.region
same_region held held' image same selects = selects ∙ sym (ap (λ (k : Known). k.region) same)

refused_for : (cursors : List (Option Cursor)) {A : Type 0} {command : Command} {held : Known} {reason : Option Why} {lack : Lack} {query : Query} {sought : Kept → Sought A} {says : Store → Reply} → IsSearch command held reason lack query sought says
    → RefusedFor command (with_store cursors held) reason
refused_for cursors search blank is = absurd is
refused_for cursors search (holding store) is = search.refused store is.kept

-- the reads of vectors of a store are those of the state's
pub adds_read : {D : Type 0} {g : Ghosts D} {old new : D} (store : Store) (places : List ℕ) (P : List (ℕ × ℕ) → Type 0) → g.told → ReadsVectors g store.kept.shape old places new → P (reads_of (holding store) places) → Adds (holding store) P (g.reads old) (g.reads new)
adds_read store places P told reads has = record { added = reads.added; is = reads.is told; vectors = subst P (sym reads.vectors) has }

-- it isn't refused
module _ {A D : Type 0} {g : Ghosts D} {command : Command} {held held' : Known} {reason : Option Why} {lack : Lack} {query : Query} {sought : Kept → Sought A} {says : Store → Reply} {old new : D}
    (cursors : List (Option Cursor)) (search : IsSearch command held reason lack query sought says) (free : reason ≡ None) (same : IsSameStore held held') (frame : OnlyReads g old new) where
  unrefused : (store : Store) → IsOf held store.kept → refusal command (holding store) ≡ None
  unrefused store is = search.refused store is ∙ free

  abbrev sought_outcome : Store → Outcome
  sought_outcome store = record { state = holding store; reply = says store; places = places_of store.kept (sought store.kept).reads }

  done : (store : Store) → IsOf held store.kept → of_command command (holding store) false ≡ sought_outcome store
  done store is = effect_outcome command (holding store) (unrefused store is) ∙ search.does store is

  at_now : (store : Store) → IsAt (holding store) (with_store cursors held) (g.image old) → IsAt (holding store) (with_store cursors held') (g.image new)
  at_now store at = record { is = same_store cursors held (holding store) same at.is; stands = rw frame.image at.stands; vectors = rw frame.image at.vectors }

  -- this holds of each store that the session and the disk may be at
  abbrev OverStores : (Store → Type 0) → Type 0
  OverStores P = g.told → (store : Store) → IsOf held store.kept → Stands store.kept (g.image old) → P store

  -- the vectors that were read are those of the outcome with this reply
  abbrev ReadsFor : Reply → Outcome → Store → Type 0
  ReadsFor reply outcome store = Adds (holding store) (λ vectors. AreReads (wants_memory reply) vectors (reads_of (holding store) outcome.places)) (g.reads old) (g.reads new)

  -- the outcome of the reply leaves the state
  record IsReply (reply : Reply) (outcome : Store → Outcome) : Type 0 where
    is : (store : Store) → IsOf held store.kept → of_command command (holding store) (wants_memory reply) ≡ outcome store
    stays : (store : Store) → holding store ≡ (outcome store).state
    says_so : OverStores (λ store. reply ≡ (outcome store).reply)
    reads : OverStores (λ store. ReadsFor reply (outcome store) store)

  carries_reply : (reply : Reply) (outcome : Store → Outcome) → IsReply reply outcome → Carries g (of_command command) (with_store cursors held) (with_store cursors held') old new reply
  carries_reply reply outcome replies = record {
    reached = λ told start at. reached told start at;
    moments = survives_reading (of_command command) (with_store cursors held) frame;
    settles = λ honest told start at secure image left.
        (let before = secure image (frame.crash honest image left) in
        (settled start at.is image before.0, same_region held held' image same before.1));
  }
    where
      reached : g.told → (start : State) → IsAt start (with_store cursors held) (g.image old) → Reached g (of_command command start) start (with_store cursors held') old new reply
      reached told blank at = absurd at.is
      reached told (holding store) at =
          reached_by command (outcome store) (replies.is store at.is.kept) (replies.says_so told store at.is.kept at.stands)
          (subst (λ (state : State). IsAt state (with_store cursors held') (g.image new)) (replies.stays store) (at_now store at)) (λ same_state. frame.image)
          (replies.reads told store at.is.kept at.stands)

      settled : (start : State) → Is start (with_store cursors held) → (image : List ℕ) → StandsFor start image → StandsFor (of_command command start (wants_memory reply)).state image
      settled blank is image stands = absurd is
      settled (holding store) is image stands =
          subst (λ (o : Outcome). StandsFor o.state image) (sym (replies.is store is.kept)) (subst (λ (state : State). StandsFor state image) (replies.stays store) stands)

  -- it was carried out
  finds_reply : (reply : Reply) → wants_memory reply ≡ false → OverStores (λ store. reply ≡ says store) → WhereStands g held old (λ kept. ReadsItems g kept old (sought kept).reads new)
      → Carries g (of_command command) (with_store cursors held) (with_store cursors held') old new reply
  finds_reply reply plain says_so reads = carries_reply reply sought_outcome (record {
    is = λ store is. ap (λ (m : Bool). of_command command (holding store) m) plain ∙ done store is;
    stays = λ store. refl;
    says_so = says_so;
    reads = λ told store is stands.
        adds_read store (sought_outcome store).places (λ vectors. AreReads (wants_memory reply) vectors (reads_of (holding store) (sought_outcome store).places)) told (reads told store.kept is stands) (rw plain refl);
  })

  -- the first of what is sought was read
  front : (store : Store) (first rest : List Item) → first ++ rest ≡ (sought store.kept).reads
      → AreFirst (reads_of (holding store) (places_of store.kept first)) (reads_of (holding store) (sought_outcome store).places)
  front store first rest are = record {
    rest = reads_of (holding store) (places_of store.kept rest);
    is = sym (map-append (read_of store.kept.shape) (places_of store.kept first) (places_of store.kept rest))
        ∙ ap (λ (places : List ℕ). reads_of (holding store) places) (sym (map-append (λ (item : Item). place_of item.id store.kept.places) first rest) ∙ ap (λ (items : List Item). places_of store.kept items) are);
  }

  abbrev ReadsFront : Store → Type 0
  ReadsFront store = Adds (holding store) (λ vectors. AreFirst vectors (reads_of (holding store) (sought_outcome store).places)) (g.reads old) (g.reads new)

  first_read : WhereStands g held old (λ kept. ReadsFirst g kept old (sought kept).reads new) → OverStores ReadsFront
  first_read some told store is stands =
      let first = some told store.kept is stands in
      adds_read store (places_of store.kept first.first) (λ vectors. AreFirst vectors (reads_of (holding store) (sought_outcome store).places)) told first.reads (front store first.first first.rest first.are)

  -- memory was refused before any vector was read
  lacks_at_once : lack ≡ before_reads → ReadsVectors g held.shape old [] new → Carries g (of_command command) (with_store cursors held) (with_store cursors held') old new (error Memory)
  lacks_at_once at reads = carries_reply (error Memory) (λ store. refuse (holding store) Memory) (record {
    is = λ store is. memory_outcome command (holding store) (unrefused store is) (search.wants store ∙ ap wanted at);
    stays = λ store. refl;
    says_so = λ told store is stands. refl;
    reads = λ told store is stands.
        adds_read store [] (λ vectors. AreFirst vectors (reads_of (holding store) [])) told (subst (λ (shape : Shape). ReadsVectors g shape old [] new) is.shape reads) (record { rest = []; is = refl });
  })

  -- memory was refused after some of the reads, or none
  lacks_later : lack ≡ at_any_time → OverStores ReadsFront → Carries g (of_command command) (with_store cursors held) (with_store cursors held') old new (error Memory)
  lacks_later at reads = carries_reply (error Memory) (λ store. record { state = holding store; reply = error Memory; places = (sought_outcome store).places }) (record {
    is = λ store is. memory_later command (holding store) (unrefused store is) (search.wants store ∙ ap wanted at)
        ∙ ap (λ (o : Outcome). record { state = holding store; reply = error Memory; places = o.places }) (search.does store is);
    stays = λ store. refl;
    says_so = λ told store is stands. refl;
    reads = reads;
  })

  search_lacks : (l : Lack) → lack ≡ l → LacksMemory g l query sought held old new → Carries g (of_command command) (with_store cursors held) (with_store cursors held') old new (error Memory)
  search_lacks before_reads at lacks = lacks_at_once at lacks
  search_lacks at_any_time at lacks = lacks_later at (first_read lacks.0)

  -- no vector was read, or all of them were
  lacks_unread : (l : Lack) → lack ≡ l → g.reads new ≡ g.reads old → Carries g (of_command command) (with_store cursors held) (with_store cursors held') old new (error Memory)
  lacks_unread before_reads at unread = lacks_at_once at (record { added = []; is = λ told. unread ∙ sym (append-nil (g.reads old)); vectors = refl; frame = frame })
  lacks_unread at_any_time at unread = lacks_later at (λ told store is stands.
      adds_nothing (holding store) (λ vectors. AreFirst vectors (reads_of (holding store) (sought_outcome store).places)) (g.reads old) (g.reads new) unread (record { rest = reads_of (holding store) (sought_outcome store).places; is = refl }))

  lacks_read : lack ≡ at_any_time → WhereStands g held old (λ kept. ReadsItems g kept old (sought kept).reads new) → Carries g (of_command command) (with_store cursors held) (with_store cursors held') old new (error Memory)
  lacks_read at reads = lacks_later at (first_read (λ told kept is stands.
      record { first = (sought kept).reads; rest = []; are = append-nil (sought kept).reads; reads = reads told kept is stands }))

  -- the disk failed
  search_loses : WhereStands g held old (λ kept. ReadsFirst g kept old (sought kept).reads new) → Loses g (of_command command) (with_store cursors held) old new
  search_loses some = record {
    read = λ told start at. reads told start at;
    stays = λ told start at same_state. frame.image;
    moments = survives_reading (of_command command) (with_store cursors held) frame;
  }
    where
      reads : g.told → (start : State) → IsAt start (with_store cursors held) (g.image old) → Adds start (λ vectors. AreFirst vectors (reads_of start (of_command command start false).places)) (g.reads old) (g.reads new)
      reads told blank at = absurd at.is
      reads told (holding store) at =
          subst (λ (o : Outcome). Adds (holding store) (λ vectors. AreFirst vectors (reads_of (holding store) o.places)) (g.reads old) (g.reads new)) (sym (done store at.is.kept))
          (first_read some told store at.is.kept at.stands)

  never : WhereStands g held old (λ kept. ⊥) → g.told → (start : State) → IsAt start (with_store cursors held) (g.image old) → ⊥
  never stands_not told blank at = absurd at.is
  never stands_not told (holding store) at = stands_not told store.kept at.is.kept at.stands

  fails_so : (lent : Lent) (fault : StoreSearchFault) → FailsSearch g lack query sought held held' old new fault → Obeys g (asked_by command) lent (with_store cursors held) (with_store cursors held') old new (fault_answer fault)
  fails_so lent faults.Memory fails = search_lacks lack refl fails.0
  fails_so lent faults.Disk fails = search_loses fails.0
  fails_so lent (faults.Mismatch place dist low high) fails = record {
    breaks = record { never = never fails.1; frame = frame };
    outside = fails.0;
    finds = inl (record { searches = search.searches; numbers = λ told kept is opens. (query, search.asks kept is, fails.2 told kept is opens) });
  }
  fails_so lent (faults.Changed place) fails = record {
    breaks = record { never = λ told start at. absurd (fails.0 told); frame = frame };
    scans = inl search.scans;
    untold = fails.0;
    changed = fails.1;
  }

module _ {A D : Type 0} {g : Ghosts D} {command : Command} {held : Known} {reason : Option Why} {lack : Lack} {query : Query} {sought : Kept → Sought A} {says : Store → Reply}
    (cursors : List (Option Cursor)) (search : IsSearch command held reason lack query sought says) where
  -- no search was made: the command was refused, or there was no memory for its query
  pub search_unasked : {disk : D} (why : Why) → IsUnasked reason why → Carries g (of_command command) (with_store cursors held) (with_store cursors held) disk disk (error why)
  search_unasked why unasked = carries_unasked command reason why (refused_for cursors search) (λ free. lacks_unread cursors search free refl reads_nothing lack refl refl) reads_nothing refl unasked

  module _ (free : reason ≡ None) {held' : Known} {old new : D} where
    -- it was carried out
    pub search_carries : {found : A} → Searched g lack query sought held held' old new (Ok found) → (reply : Reply) → wants_memory reply ≡ false → ((store : Store) → IsOf held store.kept → (sought store.kept).finds found → reply ≡ says store)
        → Carries g (of_command command) (with_store cursors held) (with_store cursors held') old new reply
    search_carries did reply plain says_so = finds_reply cursors search free did.same did.frame reply plain (λ told store is stands. says_so store is (did.found told store.kept is stands)) did.reads

    -- there was no memory for the reply
    pub reply_lacks : {found : A} → Searched g lack query sought held held' old new (Ok found) → lack ≡ at_any_time → Carries g (of_command command) (with_store cursors held) (with_store cursors held') old new (error Memory)
    reply_lacks did at = lacks_read cursors search free did.same did.frame at did.reads

    -- it failed
    pub search_fails : {fault : StoreSearchFault} → Searched g lack query sought held held' old new (Err fault) → (lent : Lent) → Obeys g (asked_by command) lent (with_store cursors held) (with_store cursors held') old new (fault_answer fault)
    search_fails {fault} did lent = fails_so cursors search free did.same did.frame lent fault did.failed
