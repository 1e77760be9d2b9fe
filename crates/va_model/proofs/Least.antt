-- Why the reads of a search are the least set: the places of what is read name the same items as their ids.
use Rattle.std.proofs.Common.{◌≡◌, ◌⊎◌, inl, inr, ℕ, zero, suc, ◌+◌, ◌&&◌, Bool, true, false, List, [], ◌∷◌, ◌++◌, length, map, get_or, slice_get, eqb, if◌then◌else◌, Option, None, Some, refl, sym, ap, ◌∙◌, subst, arith}
use Rattle.std.specs.Prelude.{nat_lt}
use Rattle.std.proofs.lemmas.List.{length-map, map-append}
use Rattle.std.proofs.lemmas.Option.{slice_get-get_or}
use Rattle.std.proofs.lemmas.Bool.{ne_eqb}
use Rattle.std.proofs.lemmas.Bool.Decides.{nat_tests}
use Rattle.std.specs.List.{AllByRecursion, filter}
use Rattle.va_core.specs.Approximations.{is_needed, is_needed_within, is_wide, low_pair, paired, pairs}
use Rattle.va_core.specs.Determining.{AllVectors, IsLeastUnder, is_listed, nearest_of, within_of}
use Rattle.va_core.specs.Distance.{Query, distance, pairs_of}
use Rattle.va_core.specs.Places.{Item, live_items, place_of}
use Rattle.va_core.specs.Ranking.{lesser}
use Rattle.va_core.specs.ReadLaws.{AreApproximated, id_of, ids_of, vector_of}
use Rattle.va_core.specs.Reads.{approximated, nearest_reads, within_reads}
use Rattle.va_core.specs.Sorting.{ascending_by}
use Rattle.va_core.proofs.Members.{IsAmong, all_at, all_from}
use Rattle.va_core.proofs.Ranking.{length_ascending}
use Rattle.va_core.proofs.Reading.{nearest_reads_least, reads_grow, within_reads_least}
use Rattle.va_core.proofs.Sorting.{all_ascending_by, all_filter}
use Rattle.va_lang.specs.Command.{Command, create, insert, delete, get, stat, marks, knn, ssa, range, «open», next, close, requant, convert, cert}
use Rattle.va_lang.specs.Grammar.{command_of}
use Rattle.va_layout.specs.Stands.{Kept, Stands}
use Rattle.va_model.specs.Cursors.{advances, cursor_of, due_for, places_in, ranked_items, ranking, read_until}
use Rattle.va_model.specs.Least.{AreLeastNext, CommandReadsLeast, ReadsLeast, SnapshotsStood, StoodFor, stands_in}
use Rattle.va_model.specs.Lines.{Line, long, text}
use Rattle.va_model.specs.Searching.{query_in}
use Rattle.va_model.specs.State.{OpenCursor, State, StandsFor, Store, blank, holding}
use Rattle.va_model.proofs.Certifying.{IsInRanges, convinces, line_in_ranges}
use Rattle.va_model.proofs.Standing.{are_vectors, one_each}

-- an item of this id stands in the place
record StandsAt (place id : ℕ) (places : List (Option Item)) : Type 0 where
  item : Item
  here : get_or places place None ≡ Some item
  same : item.id ≡ id

next_place : (first : Option Item) (places : List (Option Item)) (place id : ℕ) → StandsAt place id places → StandsAt (place + 1) id (first ∷ places)
next_place first places place id at =
    let more : suc place ≡ place + 1 = omega arith in
    record { item = at.item; here = ap (λ (p : ℕ). get_or (first ∷ places) p None) (sym more) ∙ at.here; same = at.same }

at_first : (x : Item) (id : ℕ) (places : List (Option Item)) (b : Bool) → eqb x.id id ≡ b → (b ≡ false → StandsAt (place_of id places) id places) → StandsAt (if b then 0 else place_of id places + 1) id (Some x ∷ places)
at_first x id places true is later = record { item = x; here = refl; same = grind (arith, nat_tests, is) }
at_first x id places false is later = next_place (Some x) places (place_of id places) id (later refl)

is_later : (x item : Item) (items : List Item) → eqb x.id item.id ≡ false → (item ≡ x) ⊎ IsAmong item items → IsAmong item items
is_later x item items other (inl same) = absurd (let ids : item.id ≡ x.id = ap id_of same in let test : eqb x.id item.id ≡ true = grind (arith, nat_tests, ids) in cc)
is_later x item items other (inr among) = among

-- a live item's id stands in its place
found_at : (places : List (Option Item)) (item : Item) → IsAmong item (live_items places) → StandsAt (place_of item.id places) item.id places
found_at [] item among = absurd among
found_at (None ∷ places) item among = next_place None places (place_of item.id places) item.id (found_at places item among)
found_at (Some x ∷ places) item among = at_first x item.id places (eqb x.id item.id) refl (λ other. found_at places item (is_later x item (live_items places) other among))

same_item : {x y : Item} → Some x ≡ Some y → x ≡ y
same_item {x} {y} e = cc

module _ (places : List (Option Item)) where
  abbrev place : Item → ℕ
  place item = place_of item.id places

  same_ids : (a b : Item) → IsAmong a (live_items places) → IsAmong b (live_items places) → place a ≡ place b → a.id ≡ b.id
  same_ids a b live other same =
      let first = found_at places a live in
      let second = found_at places b other in
      sym first.same ∙ ap id_of (same_item (sym first.here ∙ ap (λ (p : ℕ). get_or places p None) same ∙ second.here)) ∙ second.same

  -- two live items have one place exactly where they have one id
  place_test : (a b : Item) → IsAmong a (live_items places) → IsAmong b (live_items places) → eqb (place a) (place b) ≡ eqb a.id b.id
  place_test a b live other = by_test (eqb a.id b.id) refl
    where
      by_test : (c : Bool) → eqb a.id b.id ≡ c → eqb (place a) (place b) ≡ c
      by_test true is = let ids : a.id ≡ b.id = grind (arith, nat_tests, is) in let same : place a ≡ place b = ap (λ (id : ℕ). place_of id places) ids in grind (arith, nat_tests, same)
      by_test false is = ne_eqb (place a) (place b) (λ same. (let ids : a.id ≡ b.id = same_ids a b live other same in let test : eqb a.id b.id ≡ true = grind (arith, nat_tests, ids) in let both : true ≡ false = sym test ∙ is in cc))

  -- so the places of live items list the same ones as their ids
  listed_there : (reads : List Item) (i : Item) → AllByRecursion (λ x. IsAmong x (live_items places)) reads → IsAmong i (live_items places) → is_listed place (map place reads) i ≡ is_listed id_of (ids_of reads) i
  listed_there [] i live other = refl
  listed_there (x ∷ reads) i live other =
      let here : eqb (place x) (place i) ≡ eqb x.id i.id = place_test x i live.0 other in
      let rest : is_listed place (map place reads) i ≡ is_listed id_of (ids_of reads) i = listed_there reads i live.1 other in
      rw (here, rest) refl

-- a set with the same members is as well least
least_as : {A : Type 0} (answers : (Item → List ℕ) → A) {dims : ℕ} {marks : List (List ℕ)} {items : List Item} (known same : Item → Bool) {old : Item → List ℕ} → ((i : Item) → IsAmong i items → same i ≡ known i)
    → IsLeastUnder answers dims marks items known old → IsLeastUnder answers dims marks items same old
least_as answers {dims} {marks} {items} known same {old} e l = record {
  enough = λ new shares. l.enough new (record {
    vectors = shares.vectors;
    cells = shares.cells;
    equal = all_from (λ i. known i ≡ true → new i ≡ old i) items (λ i h p. all_at (λ j. same j ≡ true → new j ≡ old j) items i shares.equal h (e i h ∙ p));
  });
  needed = λ other determines. all_from (λ i. same i ≡ true → other i ≡ true) items (λ i h p. all_at (λ j. known j ≡ true → other j ≡ true) items i (l.needed other determines) h (sym (e i h) ∙ p));
}

same_cursor : {x y : OpenCursor} → Some x ≡ Some y → x ≡ y
same_cursor {x} {y} e = cc

all_live : (items : List Item) → AllByRecursion (λ x. IsAmong x items) items
all_live items = all_from (λ x. IsAmong x items) items (λ x among. among)

-- an open cursor is one of those that are open
found_stood : (cursors : List (Option OpenCursor)) (name : ℕ) (cursor : OpenCursor) → get_or cursors name None ≡ Some cursor → StoodFor cursors → (image : List ℕ) × Stands cursor.snapshot image
found_stood [] name cursor is stood = absurd (cc)
found_stood (None ∷ cursors) zero cursor is stood = absurd (cc)
found_stood (None ∷ cursors) (suc name) cursor is stood = found_stood cursors name cursor is stood
found_stood (Some first ∷ cursors) zero cursor is stood = subst (λ (c : OpenCursor). (image : List ℕ) × Stands c.snapshot image) (same_cursor is) stood.0
found_stood (Some first ∷ cursors) (suc name) cursor is stood = found_stood cursors name cursor is stood.1

-- no pair needs nothing
none_below : (wide : Bool) (n : ℕ) → (wide && nat_lt n 0) ≡ false
none_below true n = grind (arith, nat_tests)
none_below false n = refl

filter_none : (p : Item → Bool) (items : List Item) → ((i : Item) → p i ≡ false) → filter p items ≡ []
filter_none p [] none = refl
filter_none p (x ∷ items) none = rw (none x) (filter_none p items none)

read_for_none : (rows : List (List ℕ)) (query : Query) (items : List Item) → [] ≡ nearest_reads rows query items 0
read_for_none rows query items =
    ap (ascending_by (low_pair (approximated rows query)))
    (sym (filter_none (is_needed (approximated rows query) items (λ item. distance query item.vector) 0) items
    (λ i. none_below (is_wide (approximated rows query) i) (lesser (pairs (approximated rows query).name (λ (item : Item). distance query item.vector) items) (low_pair (approximated rows query) i)))))

-- what a cursor reads for its first pairs is what a search for as many reads
reads_until : (cursor : OpenCursor) (r : ℕ) → read_until cursor r ≡ nearest_reads cursor.snapshot.marks cursor.query (ranked_items cursor) r
reads_until cursor zero = read_for_none cursor.snapshot.marks cursor.query (ranked_items cursor)
reads_until cursor (suc r) =
    ap (λ (items : List Item). items ++ due_for cursor r) (reads_until cursor r)
    ∙ sym (reads_grow cursor.snapshot.marks cursor.query (ranked_items cursor) r)

module _ (kept : Kept) (image : List ℕ) (stands : Stands kept image) where
  are_approximated : AreApproximated kept.marks (live_items kept.places)
  are_approximated = record {
    valid = stands.opens.named.valid;
    vectors = subst (λ (dims : ℕ). AllVectors dims (live_items kept.places) vector_of) (sym (one_each stands)) (are_vectors stands);
    differ = stands.opens.differ;
  }

  module _ (query : Query) where
    knn_least : (k : ℕ) → IsLeastUnder (nearest_of id_of (distance query) (live_items kept.places) k) kept.shape.dims kept.marks (live_items kept.places)
        (stands_in kept (map (λ (i : Item). place_of i.id kept.places) (nearest_reads kept.marks query (live_items kept.places) k))) vector_of
    knn_least k =
        let reads = nearest_reads kept.marks query (live_items kept.places) k in
        let live = all_ascending_by (λ x. IsAmong x (live_items kept.places)) (low_pair (approximated kept.marks query)) _ (all_filter (λ x. IsAmong x (live_items kept.places)) _ (live_items kept.places) (all_live (live_items kept.places))) in
        least_as (nearest_of id_of (distance query) (live_items kept.places) k) (is_listed id_of (ids_of reads)) _ (λ i among. listed_there kept.places reads i live among)
        (subst (λ (dims : ℕ). IsLeastUnder (nearest_of id_of (distance query) (live_items kept.places) k) dims kept.marks (live_items kept.places) (is_listed id_of (ids_of reads)) vector_of) (one_each stands) (nearest_reads_least kept.marks query (live_items kept.places) k are_approximated))

    range_least : (radius : ℕ) → IsLeastUnder (within_of id_of (distance query) (live_items kept.places) radius) kept.shape.dims kept.marks (live_items kept.places)
        (stands_in kept (map (λ (i : Item). place_of i.id kept.places) (within_reads kept.marks query (live_items kept.places) radius))) vector_of
    range_least radius =
        let reads = within_reads kept.marks query (live_items kept.places) radius in
        let live = all_filter (λ x. IsAmong x (live_items kept.places)) (is_needed_within (approximated kept.marks query) radius) (live_items kept.places) (all_live (live_items kept.places)) in
        least_as (within_of id_of (distance query) (live_items kept.places) radius) (is_listed id_of (ids_of reads)) _ (λ i among. listed_there kept.places reads i live among)
        (subst (λ (dims : ℕ). IsLeastUnder (within_of id_of (distance query) (live_items kept.places) radius) dims kept.marks (live_items kept.places) (is_listed id_of (ids_of reads)) vector_of) (one_each stands) (within_reads_least kept.marks query (live_items kept.places) radius are_approximated))

-- the places that are read for the next pair, with those that were read before, are those of a search for one pair more
due_places : (cursor : OpenCursor) (r : ℕ) → places_in cursor (nearest_reads cursor.snapshot.marks cursor.query (ranked_items cursor) (suc r)) ≡ places_in cursor (read_until cursor r) ++ places_in cursor (due_for cursor r)
due_places cursor r =
    ap (places_in cursor) (sym (reads_until cursor (suc r)))
    ∙ map-append (λ (item : Item). place_of item.id cursor.snapshot.places) (read_until cursor r) (due_for cursor r)

ranked_length : (cursor : OpenCursor) → length (ranking cursor) ≡ length (ranked_items cursor)
ranked_length cursor = length_ascending (pairs_of cursor.query (ranked_items cursor)) ∙ length-map (ranked_items cursor) (λ (item : Item). paired (distance cursor.query item.vector) item.id)

next_least : (store : Store) (name : ℕ) (cursor : Option OpenCursor) → cursor_of name store ≡ cursor → StoodFor store.cursors → AreLeastNext cursor (advances name cursor store).places
next_least store name None is stood = tt
next_least store name (Some cursor) is stood = λ more.
    let snapshot = found_stood store.cursors name cursor is stood in
    let some : slice_get (ranking cursor) cursor.given ≡ Some (get_or (ranking cursor) cursor.given (paired 0 0)) = slice_get-get_or (ranking cursor) cursor.given (paired 0 0) (omega (arith, more, ranked_length cursor)) in
    rw some (subst
    (λ (places : List ℕ). IsLeastUnder (nearest_of id_of (distance cursor.query) (ranked_items cursor) (suc cursor.given)) cursor.snapshot.shape.dims cursor.snapshot.marks (ranked_items cursor) (stands_in cursor.snapshot places) vector_of)
    (due_places cursor cursor.given)
    (knn_least cursor.snapshot snapshot.0 snapshot.1 cursor.query (suc cursor.given)))

module _ (store : Store) (image : List ℕ) (stands : Stands store.kept image) (stood : StoodFor store.cursors) where
  least_for : (command : Option Command) → IsInRanges command → CommandReadsLeast command (holding store)
  least_for None ranges = tt
  least_for (Some (knn k query)) ranges = λ free. knn_least store.kept image stands (query_in store.kept query) k
  least_for (Some (range radius query)) ranges = λ free. range_least store.kept image stands (query_in store.kept query) radius
  least_for (Some (create dims bits capacity)) ranges = λ free. tt
  least_for (Some (insert id vector)) ranges = λ free. tt
  least_for (Some (delete id)) ranges = λ free. tt
  least_for (Some (get id)) ranges = λ free. tt
  least_for (Some stat) ranges = λ free. tt
  least_for (Some marks) ranges = λ free. tt
  least_for (Some (ssa k query)) ranges = λ free. tt
  least_for (Some («open» name query)) ranges = λ free. tt
  least_for (Some (next name)) ranges = λ free. next_least store name (cursor_of name store) refl stood
  least_for (Some (close name)) ranges = λ free. tt
  least_for (Some requant) ranges = λ free. tt
  least_for (Some (convert n)) ranges = λ free. tt
  least_for (Some (cert k query)) ranges = λ free.
      (knn_least store.kept image stands (query_in store.kept query) k, convinces store image stands k query ranges.1 free)

least_blank : (command : Option Command) → CommandReadsLeast command blank
least_blank None = tt
least_blank (Some command) = tt

-- each line reads the least set, in a state that an image stands for, as one stood for each snapshot
pub reads_least : (state : State) (image : List ℕ) → StandsFor state image → SnapshotsStood state → (line : Line) → ReadsLeast state line
reads_least state image stands stood long = tt
reads_least blank image stands stood (text bytes) = least_blank (command_of bytes)
reads_least (holding store) image stands stood (text bytes) = least_for store image stands stood (command_of bytes) (line_in_ranges bytes)
