-- What a search over the shelf of a store and its disk leaves of both.
use Rattle.std.proofs.Common.{◌≡◌, inl, inr, ℕ, ◌<◌, ◌≤◌, ◌⊎◌, List, [], ◌∷◌, ◌++◌, map, Option, None, Some, Result, Ok, Err, OnOk, IfOk, IfErr, refl, sym, ap, subst, ◌∙◌, arith}
use Rattle.std.proofs.lemmas.List.{append-nil, map-append}
use Rattle.std.specs.List.{AllByRecursion}
use Rattle.va_cells.specs.Slices.{slices_of}
use Rattle.va_core.specs.Boxes.{Span, high_of, low_of}
use Rattle.va_core.specs.Cells.{box}
use Rattle.va_core.specs.Distance.{Query, distance}
use Rattle.va_core.specs.Places.{Item, live_items}
use Rattle.va_core.specs.Shape.{Shape}
use Rattle.va_disk.specs.Frames.{DiskFailsAs}
use Rattle.va_disk.specs.declared.storage.Storage as disks
use Rattle.va_layout.specs.Fields.{code_in}
use Rattle.va_layout.specs.Stands.{Kept, Opens, Stands, selected_in}
use Rattle.va_layout.specs.declared.region.Region.{Region}
use Rattle.va_maker.specs.Making.{EndsMaking}
use Rattle.va_ports.specs.Faults.{CountsShelfFaults}
use Rattle.va_ports.specs.Shelves.{Contents, IsSound, place_of}
use Rattle.va_ports.specs.Searches.{Ends, GoesOn, IsBetween, IsMismatch, LieBetween, bounds_of, distance_of}
use Rattle.va_ports.specs.declared.search.SearchFault.{SearchFault}
use Rattle.va_ports.specs.declared.search.SearchFault.TheVariants.{Memory, Shelf, Mismatch}
use Rattle.va_ports.specs.declared.shelf.Shelf as shelves
use Rattle.va_ports.specs.declared.shelf.ShelfFault.{ShelfFault}
use Rattle.va_ports.proofs.Own.{own_between}
use Rattle.va_search.specs.Cells.{AreNumbers, LiesBetween, stored_box}
use Rattle.va_search.specs.Ready.{IsReady}
use Rattle.va_search.specs.Searched.{FailsSearch, Lack, LacksMemory, ReadsBetween, ReadsFirst, ReadsItems, ReadsOutside, ReadsSome, Searched, WhereOpens, WhereStands, at_any_time, before_reads}
use Rattle.va_search.specs.Sought.{Sought}
use Rattle.va_search.specs.Told.{told_as}
use Rattle.va_search.specs.declared.fault.StoreSearchFault.{StoreSearchFault}
use Rattle.va_search.specs.declared.fault.StoreSearchFault.TheVariants as faults
use Rattle.va_search.proofs.Mapped.{all_among}
use Rattle.va_search.proofs.Placed.{IsPlaced, cells_placed, places_placed}
use Rattle.va_search.proofs.Seeking.{AreItems, Cells, Finds, ReadsSought}
use Rattle.va_search.proofs.Telling.{Leaves, changed_at, told_cause}
use Rattle.va_store.specs.Known.{IsOf, Known}
use Rattle.va_store.specs.Shelved.{KeepsChanged, Passes, ShelvesItems, ShelvesOwnCells, cells_from, contents_of, item_of_cell, started}
use Rattle.va_store.specs.ShelfReads.{ReadsVectors}
use Rattle.va_store.proofs.Shelving.{fits_passed, fits_started}
use Rattle.va_core.proofs.Members.{all_both, all_mapped}

-- How a fault ends the reads of a search, by when memory may be wanting.
abbrev pub EndsAs : {S : Type 0} → shelves.Ghosts S → Contents → Query → Cells → Cells → SearchFault → Lack → Type 0
EndsAs h contents query before last why before_reads = Ends h contents query before last why
EndsAs h contents query before last why at_any_time = EndsMaking h contents query last why

-- the first of these cells were read, and then it failed
pub record StoppedAs {S : Type 0} (h : shelves.Ghosts S) (contents : Contents) (query : Query) (lack : Lack) (cells : Cells) (old new : S) (why : SearchFault) : Type 0 where
  pub before : Cells
  pub last : Cells
  pub after : Cells
  pub passed : h.passes old (map place_of (before ++ last)) new
  pub exact : h.told → cells ≡ before ++ (last ++ after)
  pub between : h.told → LieBetween contents query before
  pub ends : EndsAs h contents query before last why lack

-- these cells were read, whatever their ids are put behind
pub record TookCells {S : Type 0} (h : shelves.Ghosts S) (contents : Contents) (query : Query) (cells : Cells) (old new : S) : Type 0 where
  pub read : Cells
  pub passed : h.passes old (map place_of read) new
  pub exact : h.told → read ≡ cells
  pub between : h.told → LieBetween contents query read

-- what a search over a shelf with these contents says
pub record Answered {A S : Type 0} (h : shelves.Ghosts S) (query : Query) (lack : Lack) (cells : Cells) (contents : Contents) (sought : Kept → Sought A) (old new : S) (result : Result A SearchFault) : Type 0 where
  pub finds : IfOk result (λ found. h.told → Finds contents sought found)
  pub took : OnOk result (TookCells h contents query cells old new)
  pub stopped : IfErr result (StoppedAs h contents query lack cells old new)
  pub on : GoesOn h old new
  pub counts : CountsShelfFaults (h.faults old) (h.faults new) result

-- The shelf is that of a store and its disk that were ready, from its start to its end.
pub record IsLent {S D : Type 0} (h : shelves.Ghosts S) (g : disks.Ghosts D) (lent end : S) (known known' : Known) (old new : D) : Type 0 where
  pub ready : IsReady g known old
  pub tells : g.told → h.told
  pub passes : (places : List ℕ) → h.passes lent places end → Passes g (started known) old places known' new
  pub before : h.faults lent ≡ g.faults old
  pub after : h.faults end ≡ g.faults new
  pub contents : h.contents lent ≡ contents_of known (g.image old)
  pub sound : IsSound (contents_of known (g.image old))
  pub items : ShelvesItems known (g.image old)
  pub own : g.told → ShelvesOwnCells known (g.image old)

pub all_first : {X : Type 0} (P : X → Type 0) (l m : List X) → AllByRecursion P (l ++ m) → AllByRecursion P l
all_first P [] m all = tt
all_first P (x ∷ l) m all = (all.0, all_first P l m all.1)

all_last : {X : Type 0} (P : X → Type 0) (l m : List X) → AllByRecursion P (l ++ m) → AllByRecursion P m
all_last P [] m all = all
all_last P (x ∷ l) m all = all_last P l m all.1

between_not : {dist low high d l u : ℕ} → dist ≡ d → low ≡ l → high ≡ u → (l ≤ d) × (d ≤ u) → (dist < low) ⊎ (high < dist) → ⊥
between_not e f g between (inl less) = let a = between.0 in absurd (omega (arith, e, f, a, less))
between_not e f g between (inr more) = let b = between.1 in absurd (omega (arith, e, g, b, more))

-- where a scan stands doesn't matter to what was found changed
pub keeps_since : {known known' : Known} → KeepsChanged (started known) known' → KeepsChanged known known'
keeps_since {known} {known'} (inl same) = inl same
keeps_since {known} {known'} (inr finds) = inr (record { place = finds.place; id = finds.id; lives = finds.lives; none = finds.none; now = finds.now })

-- a fault of the shelf, and a mismatch, end the reads alike whenever memory may be wanting
module _ {S : Type 0} {h : shelves.Ghosts S} {contents : Contents} {query : Query} {cells : Cells} {old new : S} where
  at_shelf : (lack : Lack) {fault : ShelfFault} (stopped : StoppedAs h contents query lack cells old new (Shelf fault)) → stopped.last ≡ []
  at_shelf before_reads stopped = stopped.ends
  at_shelf at_any_time stopped = stopped.ends

  at_mismatch : (lack : Lack) {place dist low high : ℕ} (stopped : StoppedAs h contents query lack cells old new (Mismatch place dist low high)) → (cell : ℕ × ℕ) × (stopped.last ≡ cell ∷ []) × IsMismatch h contents query cell place dist low high
  at_mismatch before_reads stopped = stopped.ends
  at_mismatch at_any_time stopped = stopped.ends

-- The cells of a store, in the words of what is kept.
module _ {known : Known} {kept : Kept} (bytes : List ℕ) (is : IsOf known kept) (opens : Opens kept bytes) (items : ShelvesItems known bytes) where
  are_items : AreItems (contents_of known bytes) kept
  are_items = record { marks_are = is.marks; items_are = items kept is opens }

  pub all_placed : AllByRecursion (IsPlaced (item_of_cell (contents_of known bytes)) kept.places) (contents_of known bytes).cells
  all_placed = subst (λ (ids : List (Option ℕ)). AllByRecursion (IsPlaced (item_of_cell (contents_of known bytes)) kept.places) (cells_from 0 ids)) (sym is.ids)
      (cells_placed (item_of_cell (contents_of known bytes)) kept.places opens.differ
      (subst (λ (ids : List (Option ℕ)). map (item_of_cell (contents_of known bytes)) (cells_from 0 ids) ≡ live_items kept.places) is.ids (items kept is opens)))

-- the bounds that the stored cells give
module _ {known : Known} {kept : Kept} (bytes : List ℕ) (query : Query) (is : IsOf known kept) (selected : selected_in bytes ≡ known.region) where
  box_is : (place : ℕ) → box known.marks (slices_of known.shape known.marks (code_in known.shape known.region place bytes)) ≡ stored_box kept bytes place
  box_is place =
      ap (λ (s : Shape). box known.marks (slices_of s known.marks (code_in s known.region place bytes))) is.shape
      ∙ ap (λ (m : List (List ℕ)). box m (slices_of kept.shape m (code_in kept.shape known.region place bytes))) is.marks
      ∙ ap (λ (r : Region). box kept.marks (slices_of kept.shape kept.marks (code_in kept.shape r place bytes))) (sym selected)

  abbrev IsHere : ℕ × ℕ → Type 0
  IsHere cell = IsPlaced (item_of_cell (contents_of known bytes)) kept.places cell

  lies_between : (cell : ℕ × ℕ) → IsHere cell × IsBetween (bounds_of (contents_of known bytes) query) (distance_of (contents_of known bytes) query) cell → LiesBetween query kept bytes (place_of cell)
  lies_between cell both = record {
    item = item_of_cell (contents_of known bytes) cell;
    live = both.0.live;
    above = subst (λ (b : List Span). low_of (distance query) b ≤ distance_of (contents_of known bytes) query cell) (box_is (place_of cell)) both.1.0;
    below = subst (λ (b : List Span). distance_of (contents_of known bytes) query cell ≤ high_of (distance query) b) (box_is (place_of cell)) both.1.1;
  }

  -- each place of some cells that lie between
  all_between : (cells : Cells) → AllByRecursion IsHere cells → LieBetween (contents_of known bytes) query cells → AllByRecursion (LiesBetween query kept bytes) (map place_of cells)
  all_between cells here between = all_mapped (λ cell. IsHere cell × IsBetween (bounds_of (contents_of known bytes) query) (distance_of (contents_of known bytes) query) cell) (LiesBetween query kept bytes) place_of cells lies_between
      (all_both IsHere (IsBetween (bounds_of (contents_of known bytes) query) (distance_of (contents_of known bytes) query)) cells here between)

  -- the numbers of a mismatch
  numbers_are : {cell : ℕ × ℕ} {place dist low high : ℕ} → IsHere cell → place ≡ place_of cell → (dist ≡ distance_of (contents_of known bytes) query cell) × (low ≡ (bounds_of (contents_of known bytes) query).low cell) × (high ≡ (bounds_of (contents_of known bytes) query).high cell) → AreNumbers query kept bytes place dist low high
  numbers_are {cell} {place} {dist} {low} {high} here at numbers = subst (λ (p : ℕ). AreNumbers query kept bytes p dist low high) (sym at) (record {
    item = item_of_cell (contents_of known bytes) cell;
    live = here.live;
    dist_is = numbers.0;
    low_is = numbers.1 ∙ ap (low_of (distance query)) (box_is (place_of cell));
    high_is = numbers.2 ∙ ap (high_of (distance query)) (box_is (place_of cell));
  })

module _ {S D : Type 0} {h : shelves.Ghosts S} {g : disks.Ghosts D} {known known' : Known} {lent end : S} {old new : D} (lends : IsLent h g lent end known known' old new) where
  abbrev held : Contents
  held = contents_of known (g.image old)

  region_is : g.told → selected_in (g.image old) ≡ known.region
  region_is told = (lends.ready.fits.known_in told lends.ready.whole).selected

  pub vectors_read : (places : List ℕ) → h.passes lent places end → ReadsVectors g known.shape old places new
  vectors_read places passed = (lends.passes places passed).reads

  places_read : {kept : Kept} (places : List ℕ) → IsOf known kept → h.passes lent places end → ReadsVectors g kept.shape old places new
  places_read places is passed = subst (λ (shape : Shape). ReadsVectors g shape old places new) is.shape (vectors_read places passed)

  -- the vectors of these items, in the words of what is kept
  items_read : (kept : Kept) (cells : Cells) → IsOf known kept → AllByRecursion (IsPlaced (item_of_cell held) kept.places) cells → h.passes lent (map place_of cells) end → ReadsItems g kept old (map (item_of_cell held) cells) new
  items_read kept cells is here passed =
      subst (λ (places : List ℕ). ReadsVectors g kept.shape old places new) (sym (places_placed (item_of_cell held) kept cells here))
      (places_read (map place_of cells) is passed)

  pub counts_on : {T : Type 0} {result : Result T SearchFault} → CountsShelfFaults (h.faults lent) (h.faults end) result → CountsShelfFaults (g.faults old) (g.faults new) result
  counts_on {T} {result} counts = subst (λ (n : ℕ). CountsShelfFaults n (g.faults new) result) lends.before (subst (λ (n : ℕ). CountsShelfFaults (h.faults lent) n result) lends.after counts)

  pub leaves : GoesOn h lent end → Leaves g known known' old new
  leaves on =
      let passes = lends.passes on.0 on.1 in
      record {
        keeps = keeps_since passes.changed;
        none_told = λ told. passes.unchanged told lends.ready.whole ∙ lends.ready.unchanged;
        same = passes.same;
        fits = fits_passed g (started known) known' old new on.0 (fits_started g known old lends.ready.fits) passes;
        frame = passes.reads.frame;
      }

  module _ {A : Type 0} {sought : Kept → Sought A} {cells : Cells} (serves : ReadsSought cells held sought) where
    all_here : {kept : Kept} → IsOf known kept → Opens kept (g.image old) → AllByRecursion (IsPlaced (item_of_cell held) kept.places) cells
    all_here {kept} is opens = all_among (IsPlaced (item_of_cell held) kept.places) held.cells cells (all_placed (g.image old) is opens lends.items) serves.among

    sought_are : {kept : Kept} → g.told → IsOf known kept → Stands kept (g.image old) → (sought kept).reads ≡ map (item_of_cell held) cells
    sought_are {kept} told is stands = serves.is kept (are_items (g.image old) is stands.opens lends.items) (lends.own told kept is stands)

  module _ {A : Type 0} {query : Query} {sought : Kept → Sought A} {cells : Cells} (serves : ReadsSought cells held sought) where
    module _ (took : TookCells h held query cells lent end) where
      all_read : WhereStands g known old (λ kept. ReadsItems g kept old (sought kept).reads new)
      all_read told kept is stands =
          subst (λ (items : List Item). ReadsItems g kept old items new) (sym (sought_are serves told is stands))
          (items_read kept cells is (all_here serves is stands.opens)
          (subst (λ (l : Cells). h.passes lent (map place_of l) end) (took.exact (lends.tells told)) took.passed))

      read_between : WhereOpens g known old (λ kept. ReadsBetween g query kept old new)
      read_between told kept is opens = record {
        places = map place_of took.read;
        reads = places_read (map place_of took.read) is took.passed;
        between = all_between (g.image old) query is (region_is told) took.read
            (subst (λ (l : Cells). AllByRecursion (IsPlaced (item_of_cell held) kept.places) l) (sym (took.exact (lends.tells told))) (all_here serves is opens)) (took.between (lends.tells told));
      }

    -- a search that failed behind the first reads
    module _ {lack : Lack} {why : SearchFault} (stopped : StoppedAs h held query lack cells lent end why) (none : stopped.last ≡ []) where
      front_here : {kept : Kept} → g.told → IsOf known kept → Opens kept (g.image old) → AllByRecursion (IsPlaced (item_of_cell held) kept.places) stopped.before
      front_here {kept} told is opens = all_first (IsPlaced (item_of_cell held) kept.places) stopped.before (stopped.last ++ stopped.after)
          (subst (λ (l : Cells). AllByRecursion (IsPlaced (item_of_cell held) kept.places) l) (stopped.exact (lends.tells told)) (all_here serves is opens))

      front_passed : h.passes lent (map place_of stopped.before) end
      front_passed = subst (λ (l : Cells). h.passes lent (map place_of l) end) (ap (λ (last : Cells). stopped.before ++ last) none ∙ append-nil stopped.before) stopped.passed

      front_read : WhereStands g known old (λ kept. ReadsFirst g kept old (sought kept).reads new)
      front_read told kept is stands = record {
        first = map (item_of_cell held) stopped.before;
        rest = map (item_of_cell held) stopped.after;
        are = sym (map-append (item_of_cell held) stopped.before stopped.after)
            ∙ ap (λ (last : Cells). map (item_of_cell held) (stopped.before ++ (last ++ stopped.after))) (sym none)
            ∙ sym (ap (map (item_of_cell held)) (stopped.exact (lends.tells told))) ∙ sym (sought_are serves told is stands);
        reads = items_read kept stopped.before is (front_here told is stands.opens) front_passed;
      }

      between_until : WhereOpens g known old (λ kept. ReadsBetween g query kept old new)
      between_until told kept is opens = record {
        places = map place_of stopped.before;
        reads = places_read (map place_of stopped.before) is front_passed;
        between = all_between (g.image old) query is (region_is told) stopped.before (front_here told is opens) (stopped.between (lends.tells told));
      }

    module _ {lack : Lack} {why : SearchFault} (stopped : StoppedAs h held query lack cells lent end why) {cell : ℕ × ℕ} {place dist low high : ℕ} (last : stopped.last ≡ cell ∷ []) (mismatch : IsMismatch h held query cell place dist low high) where
      exact_at : g.told → cells ≡ stopped.before ++ (cell ∷ stopped.after)
      exact_at told = stopped.exact (lends.tells told) ∙ ap (λ (l : Cells). stopped.before ++ (l ++ stopped.after)) last

      -- none where each vector lies in its cell
      never_met : WhereStands g known old (λ kept. ⊥)
      never_met told kept is stands =
          let between = all_among (IsBetween (bounds_of held query) (distance_of held query)) held.cells cells (own_between held lends.sound query held.cells (lends.own told kept is stands)) serves.among in
          let behind = all_last (IsBetween (bounds_of held query) (distance_of held query)) stopped.before (cell ∷ stopped.after) (subst (λ (l : Cells). LieBetween held query l) (exact_at told) between) in
          let numbers = mismatch.numbers (lends.tells told) in
          between_not numbers.0 numbers.1 numbers.2 behind.0 mismatch.outside

      read_outside : WhereOpens g known old (λ kept. ReadsOutside g query kept old new place dist low high)
      read_outside told kept is opens =
          let here = subst (λ (l : Cells). AllByRecursion (IsPlaced (item_of_cell held) kept.places) l) (exact_at told) (all_here serves is opens) in
          let at_front = all_first (IsPlaced (item_of_cell held) kept.places) stopped.before (cell ∷ stopped.after) here in
          let behind = all_last (IsPlaced (item_of_cell held) kept.places) stopped.before (cell ∷ stopped.after) here in
          let places : map place_of (stopped.before ++ stopped.last) ≡ map place_of stopped.before ++ place ∷ [] =
          ap (λ (l : Cells). map place_of (stopped.before ++ l)) last ∙ map-append place_of stopped.before (cell ∷ []) ∙ ap (λ (n : ℕ). map place_of stopped.before ++ n ∷ []) (sym mismatch.at) in
          record {
            before = map place_of stopped.before;
            reads = places_read (map place_of stopped.before ++ place ∷ []) is (subst (λ (l : List ℕ). h.passes lent l end) places stopped.passed);
            between = all_between (g.image old) query is (region_is told) stopped.before at_front (stopped.between (lends.tells told));
            numbers = numbers_are (g.image old) query is (region_is told) behind.0 mismatch.at (mismatch.numbers (lends.tells told));
          }

    none_read : {lack : Lack} {why : SearchFault} (stopped : StoppedAs h held query lack cells lent end why) → stopped.before ≡ [] → stopped.last ≡ [] → ReadsVectors g known.shape old [] new
    none_read stopped before last = vectors_read [] (subst (λ (l : List ℕ). h.passes lent l end) (ap (λ (l : Cells). map place_of (l ++ stopped.last)) before ∙ ap (map place_of) last) stopped.passed)

    lacks_by : (lack : Lack) → StoppedAs h held query lack cells lent end Memory → LacksMemory g lack query sought known old new
    lacks_by before_reads stopped = none_read stopped stopped.ends.0 stopped.ends.1
    lacks_by at_any_time stopped = (front_read stopped stopped.ends, between_until stopped stopped.ends)

    some_read : {lack : Lack} {fault : ShelfFault} → StoppedAs h held query lack cells lent end (Shelf fault) → ReadsSome g query sought known old new
    some_read {lack} stopped = let none = at_shelf lack stopped in (front_read stopped none, between_until stopped none)

    fails_outside : {lack : Lack} {place dist low high : ℕ} → StoppedAs h held query lack cells lent end (Mismatch place dist low high) → FailsSearch g lack query sought known known' old new (faults.Mismatch place dist low high)
    fails_outside {lack} stopped = let at = at_mismatch lack stopped in (at.2.outside, never_met stopped at.1 at.2, read_outside stopped at.1 at.2)

    -- the search failed, and so this was told
    search_fails : {lack : Lack} {why : StoreSearchFault} → FailsSearch g lack query sought known known' old new why → Leaves g known known' old new
        → DiskFailsAs {T = A} g faults.Disk old new (Err why) → Searched g lack query sought known known' old new (Err why)
    search_fails failed left cause = record {
      found = tt;
      reads = tt;
      between = tt;
      unchanged = tt;
      failed = failed;
      keeps = left.keeps;
      none_told = left.none_told;
      same = left.same;
      fits = left.fits;
      frame = left.frame;
      cause = cause;
    }

    told_at : {lack : Lack} (changed : Option ℕ) (answer : Result A SearchFault) → known'.changed ≡ changed → Answered h query lack cells held sought lent end answer
        → DiskFailsAs g faults.Disk old new (told_as changed answer) → Searched g lack query sought known known' old new (told_as changed answer)
    told_at None (Ok found) is answered cause =
        let left = leaves answered.on in
        record {
          found = λ told kept is stands. answered.finds (lends.tells told) (lends.own told kept is stands) kept (are_items (g.image old) is stands.opens lends.items);
          reads = all_read answered.took;
          between = read_between answered.took;
          unchanged = is;
          failed = tt;
          keeps = left.keeps;
          none_told = left.none_told;
          same = left.same;
          fits = left.fits;
          frame = left.frame;
          cause = cause;
        }
    told_at {lack} (Some place) (Ok found) is answered cause = search_fails {lack = lack} (changed_at (leaves answered.on) is) (leaves answered.on) cause
    told_at {lack} None (Err Memory) is answered cause = search_fails {lack = lack} (lacks_by lack answered.stopped, is) (leaves answered.on) cause
    told_at {lack} (Some place) (Err Memory) is answered cause = search_fails {lack = lack} (changed_at (leaves answered.on) is) (leaves answered.on) cause
    told_at {lack} changed (Err (Shelf fault)) is answered cause = search_fails {lack = lack} (some_read answered.stopped) (leaves answered.on) cause
    told_at {lack} changed (Err (Mismatch place dist low high)) is answered cause = search_fails {lack = lack} (fails_outside answered.stopped) (leaves answered.on) cause

    -- whatever was told
    pub searched : {lack : Lack} (answer : Result A SearchFault) {told : Result A StoreSearchFault} → Answered h query lack cells held sought lent end answer
        → told ≡ told_as known'.changed answer → Searched g lack query sought known known' old new told
    searched {lack} answer answered is = subst (λ (told : Result A StoreSearchFault). Searched g lack query sought known known' old new told) (sym is)
        (told_at known'.changed answer refl answered (told_cause known'.changed answer (counts_on answered.counts)))
