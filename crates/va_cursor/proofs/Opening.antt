-- The queue and the places once all cells were taken.
use Rattle.std.proofs.Common.{◌≡◌, ◌≢◌, ℕ, zero, suc, ◌+◌, ◌<◌, ◌≤◌, List, [], ◌∷◌, map, ltb, length, get_or, if◌then◌else◌, ap, sym, ◌∙◌, subst, arith}
use Rattle.std.specs.List.{AllByRecursion}
use Rattle.std.proofs.lemmas.Bool.Decides.{nat_tests}
use Rattle.std.proofs.lemmas.List.{append-nil, length-map}
use Rattle.std.proofs.lemmas.List.Sorted.{IsPermutation-trans, length_permutation}
use Rattle.va_core.specs.Approximations.{NamesDiffer}
use Rattle.va_core.specs.Distance.{Query}
use Rattle.va_core.proofs.Keyed.{ascending_by_is_only}
use Rattle.va_core.proofs.Sorting.{all_ascending_by, ascending_by_in_order, ascending_by_permutes}
use Rattle.va_keep.specs.Queued.{low_pair}
use Rattle.va_keep.specs.declared.entry.Entry.{Entry}
use Rattle.va_ports.specs.Shelves.{Contents, IsSound, PlacesAscend, id_of, place_of}
use Rattle.va_ports.specs.Searches.{bounds_of, clamped_distance, distance_of}
use Rattle.va_ports.proofs.Own.{clamped_low}
use Rattle.va_ports.proofs.Places.{inside_cells}
use Rattle.va_noa.specs.Entries.{entry_of}
use Rattle.va_cursor.specs.Cursors.{AreInside, Ascends, entries_of, in_order}
use Rattle.va_cursor.specs.Filling.{Fills}
use Rattle.va_cursor.specs.Rankings.{LiesBetween, Remains, cell_at, id_at}
use Rattle.va_cursor.proofs.Filtering.{differ_ascending}
use Rattle.va_cursor.proofs.Ordering.{one_of_pair}
use Rattle.va_cursor.proofs.Remaining.{remains_open}

-- what holds of the cells holds of the entries
others_at : (id : ℕ) (entries : List Entry) → AllByRecursion (λ c. id_of c ≢ id) (map cell_at entries) → AllByRecursion (λ e. id_at e ≢ id) entries
others_at id [] h = tt
others_at id (e ∷ entries) h = (h.0, others_at id entries h.1)

differ_at : (entries : List Entry) → NamesDiffer id_of (map cell_at entries) → NamesDiffer id_at entries
differ_at [] h = tt
differ_at (e ∷ entries) h = (others_at e.id entries h.0, differ_at entries h.1)

inside_at : (capacity : ℕ) (entries : List Entry) → AllByRecursion (λ c. place_of c < capacity) (map cell_at entries) → AreInside capacity entries
inside_at capacity [] h = tt
inside_at capacity (e ∷ entries) h = (h.0, inside_at capacity entries h.1)

-- a clamped distance lies between the bounds, where these are in order
clamped_high : (dist low high : ℕ) → low ≤ high → (if ltb dist low then low else (if ltb high dist then high else dist)) ≤ high
clamped_high dist low high order = grind (arith, nat_tests, order)

clamped_between : (contents : Contents) (query : Query) (cells : List (ℕ × ℕ)) → AllByRecursion (λ (e : Entry). e.low ≤ e.high) (map (entry_of contents query) cells) → AllByRecursion (LiesBetween (clamped_distance contents query)) (map (entry_of contents query) cells)
clamped_between contents query [] h = tt
clamped_between contents query (cell ∷ cells) h =
    ((clamped_low (bounds_of contents query) (distance_of contents query) cell h.0, clamped_high (distance_of contents query cell) ((bounds_of contents query).low cell) ((bounds_of contents query).high cell) h.0), clamped_between contents query cells h.1)

-- places that ascend
at_least : (from capacity : ℕ) (cells : List (ℕ × ℕ)) → PlacesAscend from capacity cells → (i : ℕ) → i < length (map place_of cells) → from ≤ get_or (map place_of cells) i 0
at_least from capacity [] h i lt = absurd (omega (arith, lt))
at_least from capacity (cell ∷ cells) h zero lt = h.0
at_least from capacity (cell ∷ cells) h (suc i) lt =
    let rest : place_of cell + 1 ≤ get_or (map place_of cells) i 0 = at_least (place_of cell + 1) capacity cells h.2 i (omega (arith, lt)) in
    let here : from ≤ place_of cell = h.0 in
    omega (arith, rest, here)

ascends_cells : (from capacity : ℕ) (cells : List (ℕ × ℕ)) → PlacesAscend from capacity cells → Ascends (map place_of cells)
ascends_cells from capacity [] h i j lt few = absurd (omega (arith, few))
ascends_cells from capacity (cell ∷ cells) h zero zero lt few = absurd (omega (arith, lt))
ascends_cells from capacity (cell ∷ cells) h zero (suc j) lt few = let rest : place_of cell + 1 ≤ get_or (map place_of cells) j 0 = at_least (place_of cell + 1) capacity cells h.2 j (omega (arith, few)) in omega (arith, rest)
ascends_cells from capacity (cell ∷ cells) h (suc i) zero lt few = absurd (omega (arith, lt))
ascends_cells from capacity (cell ∷ cells) h (suc i) (suc j) lt few = ascends_cells (place_of cell + 1) capacity cells h.2 i j (omega (arith, lt)) (omega (arith, few))

module _ {told : Type 0} {contents : Contents} {query : Query} {entries : List Entry} {places : List ℕ} (sound : IsSound contents) (fills : Fills told contents query [] entries places) where
  all_taken : contents.cells ≡ map cell_at fills.taken
  all_taken = fills.cells ∙ append-nil (map cell_at fills.taken)

  taken_differ : NamesDiffer id_at fills.taken
  taken_differ = differ_at fills.taken (subst (NamesDiffer id_of) all_taken sound.ids)

  taken_in_order : in_order entries ≡ in_order fills.taken
  taken_in_order = ascending_by_is_only low_pair fills.taken (in_order entries)
      (IsPermutation-trans fills.taken entries (in_order entries) fills.held (ascending_by_permutes low_pair entries))
      (ascending_by_in_order low_pair entries)
      (one_of_pair fills.taken (differ_ascending id_at low_pair fills.taken taken_differ))

  pub opened_differ : NamesDiffer id_at (in_order entries)
  opened_differ = subst (NamesDiffer id_at) (sym taken_in_order) (differ_ascending id_at low_pair fills.taken taken_differ)

  pub opened_inside : AreInside contents.shape.capacity (in_order entries)
  opened_inside = subst (AreInside contents.shape.capacity) (sym taken_in_order)
      (all_ascending_by (λ (e : Entry). e.place < contents.shape.capacity) low_pair fills.taken
      (inside_at contents.shape.capacity fills.taken (subst (AllByRecursion (λ c. place_of c < contents.shape.capacity)) all_taken (inside_cells 0 contents.shape.capacity contents.cells sound.places))))

  pub opened_places : places ≡ map place_of contents.cells
  opened_places = fills.places_are ∙ ap (map place_of) (sym all_taken)

  pub opened_ascends : Ascends places
  opened_ascends = subst Ascends (sym opened_places) (ascends_cells 0 contents.shape.capacity contents.cells sound.places)

  pub opened_many : length places ≡ length contents.cells
  opened_many = ap length opened_places ∙ length-map contents.cells place_of

  pub opened_count : length (in_order entries) ≡ length places
  opened_count =
      let sorted : length (in_order fills.taken) ≡ length fills.taken = length_permutation fills.taken (in_order fills.taken) (ascending_by_permutes low_pair fills.taken) in
      let cells : length (map cell_at fills.taken) ≡ length fills.taken = length-map fills.taken cell_at in
      ap length taken_in_order ∙ sorted ∙ sym cells ∙ ap length (sym all_taken) ∙ sym opened_many

  pub opened_remains : told → Remains (clamped_distance contents query) (entries_of contents query) 0 [] (in_order entries)
  opened_remains t =
      let taken : fills.taken ≡ entries_of contents query = fills.bounds t ∙ ap (map (entry_of contents query)) (sym all_taken) in
      subst (λ l. Remains (clamped_distance contents query) (entries_of contents query) 0 [] l) (sym (taken_in_order ∙ ap in_order taken))
      (remains_open (clamped_distance contents query) (entries_of contents query) (subst (NamesDiffer id_at) taken taken_differ)
      (clamped_between contents query contents.cells (subst (AllByRecursion (λ (e : Entry). e.low ≤ e.high)) taken fills.order)))
