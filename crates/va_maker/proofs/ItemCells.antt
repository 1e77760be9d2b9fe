-- The cells of a shelf as items: what is needed of both is the same.
use Rattle.std.proofs.Common.{◌≡◌, ◌≢◌, ℕ, ◌+◌, ◌<◌, ◌≤◌, Bool, true, false, ◌&&◌, ◌||◌, List, [], ◌∷◌, map, filter, eqb, ltb, None, Some, if◌then◌else◌, refl, sym, ap, ◌∙◌, arith}
use Rattle.std.specs.List.{AllByRecursion, list_any}
use Rattle.std.proofs.lemmas.Bool.Decides.{nat_tests}
use Rattle.std.proofs.lemmas.List.Sorted.{IsPermutation-map, list_any-IsPermutation}
use Rattle.va_core.specs.declared.pair.Pair.{Pair}
use Rattle.va_core.specs.Approximations.{NamesDiffer, is_needed, low_pair, paired, pairs}
use Rattle.va_core.specs.Determining.{is_listed}
use Rattle.va_core.specs.Distance.{Query, distance, pairs_of}
use Rattle.va_core.specs.Places.{IdAbsent, IdsDiffer, Item}
use Rattle.va_core.specs.Ranking.{lesser}
use Rattle.va_core.specs.Reads.{approximated}
use Rattle.va_core.specs.Vectors.{IsVector}
use Rattle.va_core.proofs.LeastUnder.{listed_filter}
use Rattle.va_core.proofs.Members.{IsAmong}
use Rattle.va_core.proofs.Sorting.{ascending_by_permutes}
use Rattle.va_ports.specs.Shelves.{AreOwnCells, Contents, IsOwn, IsSound, PlacesAscend, id_of, place_of}
use Rattle.va_ports.specs.Searches.{bounds_of, clamped_distance, distance_of, vector_of}
use Rattle.va_ports.proofs.Own.{clamped_own, own_between, own_high, own_low}
use Rattle.va_bounded.specs.Keeps.{clamped_pairs}
use Rattle.va_noa.specs.NearestReads.{clamped_needed}
use Rattle.va_maker.specs.Keeps.{kept_at}
use Rattle.va_maker.specs.Kept.{kept_of}
use Rattle.va_maker.specs.Making.{item_of, items_of, kept_needed}

abbrev Cells : Type 0
Cells = List (ℕ × ℕ)

-- the distance of an item, and whether it is needed
abbrev pub dist : Query → Item → ℕ
dist query item = distance query item.vector

abbrev pub needs : List Item → List (List ℕ) → Query → ℕ → Item → Bool
needs items marks query k item = is_needed (approximated marks query) items (dist query) k item

absent_item : (contents : Contents) (id : ℕ) (cells : Cells) → AllByRecursion (λ (at : ℕ × ℕ). id_of at ≢ id) cells → IdAbsent id (map (item_of contents) cells)
absent_item contents id [] all = tt
absent_item contents id (at ∷ cells) all = (λ e. all.0 (sym e), absent_item contents id cells all.1)

pub items_differ : (contents : Contents) (cells : Cells) → NamesDiffer id_of cells → IdsDiffer (map (item_of contents) cells)
items_differ contents [] differ = tt
items_differ contents (at ∷ cells) differ = (absent_item contents (id_of at) cells differ.0, items_differ contents cells differ.1)

pub items_pairs : (contents : Contents) (query : Query) (cells : Cells) → pairs (λ (item : Item). item.id) (dist query) (map (item_of contents) cells) ≡ pairs id_of (distance_of contents query) cells
items_pairs contents query [] = refl
items_pairs contents query (at ∷ cells) = ap (λ (ps : List Pair). paired (distance_of contents query at) (id_of at) ∷ ps) (items_pairs contents query cells)

pub items_vectors : (contents : Contents) (cells : Cells) → AllByRecursion (IsOwn contents) cells → AllByRecursion (λ (item : Item). IsVector contents.shape.dims item.vector) (map (item_of contents) cells)
items_vectors contents [] own = tt
items_vectors contents (at ∷ cells) own = (own.0.0, items_vectors contents cells own.1)

-- places that ascend differ
above : (at : ℕ × ℕ) (from capacity : ℕ) (cells : Cells) → place_of at < from → PlacesAscend from capacity cells → AllByRecursion (λ (other : ℕ × ℕ). place_of other ≢ place_of at) cells
above at from capacity [] below ascend = tt
above at from capacity (other ∷ cells) below ascend =
    let le : from ≤ place_of other = ascend.0 in
    (λ e. absurd (omega (arith, e, le, below)), above at (place_of other + 1) capacity cells (omega (arith, le, below)) ascend.2)

pub places_differ : (from capacity : ℕ) (cells : Cells) → PlacesAscend from capacity cells → NamesDiffer place_of cells
places_differ from capacity [] ascend = tt
places_differ from capacity (at ∷ cells) ascend = (above at (place_of at + 1) capacity cells (omega arith) ascend.2, places_differ (place_of at + 1) capacity cells ascend.2)

-- the vector of a place was kept exactly where the place is one of these
pub kept_where : (contents : Contents) (places : List ℕ) (place : ℕ) → kept_of (map (kept_at contents) places) place ≡ (if list_any (λ (n : ℕ). eqb n place) places then Some (contents.vector place) else None)
kept_where contents [] place = refl
kept_where contents (first ∷ places) place = elim (eqb first place) as (λ c. eqb first place ≡ c → (if c then Some (contents.vector first) else kept_of (map (kept_at contents) places) place) ≡ (if c || list_any (λ (n : ℕ). eqb n place) places then Some (contents.vector place) else None)) [
  | true ↦ λ e. let same : first ≡ place = grind (arith, nat_tests, e) in ap (λ (n : ℕ). Some (contents.vector n)) same
  | false ↦ λ e. kept_where contents places place
] refl

module _ (contents : Contents) (query : Query) (k : ℕ) where
  -- by the places of what is needed
  listed_needed : (at : ℕ × ℕ) → NamesDiffer place_of contents.cells → IsAmong at contents.cells → is_listed place_of (map place_of (clamped_needed contents query k)) at ≡ is_needed (bounds_of contents query) contents.cells (clamped_distance contents query) k at
  listed_needed at differ among =
      let test = is_needed (bounds_of contents query) contents.cells (clamped_distance contents query) k in
      let needed : Cells = filter test contents.cells in
      sym (list_any-IsPermutation (λ (n : ℕ). eqb n (place_of at)) (map place_of needed) (map place_of (clamped_needed contents query k))
      (IsPermutation-map place_of needed (clamped_needed contents query k) (ascending_by_permutes (low_pair (bounds_of contents query)) needed)))
      ∙ listed_filter place_of test contents.cells at differ among

  pub own_pairs : IsSound contents → AreOwnCells contents → clamped_pairs contents query contents.cells ≡ pairs_of query (items_of contents)
  own_pairs sound own = clamped_own contents query contents.cells (own_between contents sound query contents.cells own) ∙ sym (items_pairs contents query contents.cells)

  same_test : (at : ℕ × ℕ) → IsSound contents → AreOwnCells contents → IsOwn contents at → is_needed (bounds_of contents query) contents.cells (clamped_distance contents query) k at ≡ needs (items_of contents) contents.marks query k (item_of contents at)
  same_test at sound own here =
      let s = bounds_of contents query in
      ap (λ (ps : List Pair). ltb (s.low at) (s.high at) && ltb (lesser ps (paired (s.low at) (id_of at))) k) (own_pairs sound own)
      ∙ ap (λ (low : ℕ). ltb low (s.high at) && ltb (lesser (pairs_of query (items_of contents)) (paired low (id_of at))) k) (sym (own_low contents sound query at here))
      ∙ ap (λ (high : ℕ). ltb ((approximated contents.marks query).low (item_of contents at)) high && ltb (lesser (pairs_of query (items_of contents)) (low_pair (approximated contents.marks query) (item_of contents at))) k) (sym (own_high contents sound query at here))

  -- the vectors that were kept are those of the needed items
  pub kept_if_needed : (at : ℕ × ℕ) → IsSound contents → AreOwnCells contents → IsOwn contents at → IsAmong at contents.cells →
      kept_of (kept_needed contents query k) (place_of at) ≡ (if needs (items_of contents) contents.marks query k (item_of contents at) then Some (vector_of contents at) else None)
  kept_if_needed at sound own here among =
      kept_where contents (map place_of (clamped_needed contents query k)) (place_of at)
      ∙ ap (λ (b : Bool). if b then Some (vector_of contents at) else None)
      (listed_needed at (places_differ 0 contents.shape.capacity contents.cells sound.places) among ∙ same_test at sound own here)
