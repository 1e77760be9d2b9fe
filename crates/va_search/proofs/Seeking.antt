-- What the searches over a shelf read and find, in the words of what is kept.
use Rattle.std.proofs.Common.{◌≡◌, ℕ, List, [], ◌∷◌, length, map, refl, sym, ap, ◌∙◌}
use Rattle.std.proofs.lemmas.List.{length-map}
use Rattle.va_core.specs.declared.pair.Pair.{Pair}
use Rattle.va_core.specs.Approximations.{pairs, paired}
use Rattle.va_core.specs.Distance as distances
use Rattle.va_core.specs.Distance.{Query, distance}
use Rattle.va_core.specs.Places.{Item, live_items}
use Rattle.va_core.specs.Ranking.{answer, within}
use Rattle.va_core.specs.Reads.{approximated, nearest_candidates, nearest_reads, scan_reads, within_reads}
use Rattle.va_layout.specs.Stands.{Kept}
use Rattle.va_noa.specs.NearestReads.{cell_candidates, clamped_needed}
use Rattle.va_noa.proofs.LeastRead.{needed_between}
use Rattle.va_ports.specs.Shelves.{AreOwnCells, Contents, IsOwn, IsSound, id_of}
use Rattle.va_ports.specs.Searches.{bounds_of, clamped_distance, distance_of, pairs_of}
use Rattle.va_ports.proofs.Own.{own_between, own_high, own_low}
use Rattle.va_search.specs.Sought.{Sought, SoughtPairs, nearest_pairs, scan_pairs, within_pairs}
use Rattle.va_search.proofs.Mapped.{AreAmong, AreMirrored, Mirrors, all_weaker, candidates_mapped, need_among, need_mapped, need_within_among, need_within_mapped, scanned_among, scanned_mapped}
use Rattle.va_ssa.specs.ScanReads.{clamped_scanned}
use Rattle.va_ssa.specs.Within.{cells_within}
use Rattle.va_ssa.proofs.ScanSteps.{scanned_between}
use Rattle.va_store.specs.Shelved.{item_of_cell}

abbrev pub Cells : Type 0
Cells = List (ℕ × ℕ)

-- the cells that a search over a shelf reads, the pairs that it finds, and how many candidates it counts
pub record Seeks : Type 0 where
  pub reads : Contents → List (ℕ × ℕ)
  pub pairs : Contents → List Pair
  pub count : Contents → ℕ

abbrev pub nearest_seeks : Query → ℕ → Seeks
nearest_seeks query k = record {
  reads = λ held. clamped_needed held query k;
  pairs = λ held. answer (pairs_of held query) k;
  count = λ held. length (cell_candidates held query k);
}

abbrev pub scan_seeks : Query → ℕ → Seeks
scan_seeks query k = record {
  reads = λ held. clamped_scanned held query k;
  pairs = λ held. answer (pairs_of held query) k;
  count = λ held. length (clamped_scanned held query k);
}

abbrev pub within_seeks : Query → ℕ → Seeks
within_seeks query radius = record {
  reads = λ held. cells_within held query radius;
  pairs = λ held. within (pairs_of held query) radius;
  count = λ held. length (cells_within held query radius);
}

-- these cells, pairs and candidates are what is sought of the items of the cells
pub record IsSought (contents : Contents) (reads : Cells) (pairs : List Pair) (count : ℕ) (sought : SoughtPairs) : Type 0 where
  pub pairs_are : pairs ≡ sought.pairs
  pub reads_are : sought.reads ≡ map (item_of_cell contents) reads
  pub count_is : count ≡ sought.candidates

-- the cells are the items of what is kept, under its marks
pub record AreItems (contents : Contents) (kept : Kept) : Type 0 where
  pub marks_are : contents.marks ≡ kept.marks
  pub items_are : map (item_of_cell contents) contents.cells ≡ live_items kept.places

-- it reads cells of the shelf, and is what is sought wherever each vector lies in its cell
pub record Serves (seeks : Seeks) (contents : Contents) (sought : Kept → SoughtPairs) : Type 0 where
  pub among : AreAmong contents.cells (seeks.reads contents)
  pub is : (kept : Kept) → AreItems contents kept → AreOwnCells contents → IsSought contents (seeks.reads contents) (seeks.pairs contents) (seeks.count contents) (sought kept)

-- it reads these cells of the shelf, and they are the items that are sought
pub record ReadsSought {A : Type 0} (cells : Cells) (contents : Contents) (sought : Kept → Sought A) : Type 0 where
  pub among : AreAmong contents.cells cells
  pub is : (kept : Kept) → AreItems contents kept → AreOwnCells contents → (sought kept).reads ≡ map (item_of_cell contents) cells

-- what was found is what was sought, wherever each vector lies in its cell
abbrev pub Finds : {A : Type 0} → Contents → (Kept → Sought A) → A → Type 0
Finds contents sought found = AreOwnCells contents → (kept : Kept) → AreItems contents kept → (sought kept).finds found

pub pairs_items : (contents : Contents) (query : Query) (cells : Cells) → pairs id_of (distance_of contents query) cells ≡ distances.pairs_of query (map (item_of_cell contents) cells)
pairs_items contents query [] = refl
pairs_items contents query (cell ∷ cells) = ap (λ (ps : List Pair). paired (distance_of contents query cell) (id_of cell) ∷ ps) (pairs_items contents query cells)

module _ {contents : Contents} (sound : IsSound contents) (query : Query) where
  abbrev f : ℕ × ℕ → Item
  f = item_of_cell contents

  abbrev IsMirrored : ℕ × ℕ → Type 0
  IsMirrored cell = Mirrors (item_of_cell contents) (bounds_of contents query) (approximated contents.marks query) (distance_of contents query) (λ (item : Item). distance query item.vector) cell

  mirrored : AreOwnCells contents → AreMirrored (item_of_cell contents) (bounds_of contents query) (approximated contents.marks query) (distance_of contents query) (λ (item : Item). distance query item.vector) contents.cells
  mirrored own = record {
    each = all_weaker (IsOwn contents) IsMirrored contents.cells
        (λ cell own. record { name = refl; low = own_low contents sound query cell own; high = own_high contents sound query cell own; dist = refl }) own;
  }

  pairs_kept : {kept : Kept} → AreItems contents kept → pairs_of contents query ≡ distances.pairs_of query (live_items kept.places)
  pairs_kept are = pairs_items contents query contents.cells ∙ ap (distances.pairs_of query) are.items_are

  -- what is read of the marks and the items of the cells is read of what is kept
  read_kept : (reads : List (List ℕ) → List Item → List Item) {kept : Kept} {read : List Item} → AreItems contents kept → reads contents.marks (map f contents.cells) ≡ read → reads kept.marks (live_items kept.places) ≡ read
  read_kept reads {kept} are same =
      sym (ap (λ (m : List (List ℕ)). reads m (live_items kept.places)) are.marks_are)
      ∙ sym (ap (λ (l : List Item). reads contents.marks l) are.items_are)
      ∙ same

  needed_kept : {kept : Kept} (k : ℕ) → AreItems contents kept → AreOwnCells contents → nearest_reads kept.marks query (live_items kept.places) k ≡ map f (clamped_needed contents query k)
  needed_kept k are own = read_kept (λ m l. nearest_reads m query l k) are
      (need_mapped contents.cells k (mirrored own) ∙ ap (map f) (sym (needed_between contents query k (own_between contents sound query contents.cells own))))

  candidates_kept : {kept : Kept} (k : ℕ) → AreItems contents kept → AreOwnCells contents → nearest_candidates kept.marks query (live_items kept.places) k ≡ map f (cell_candidates contents query k)
  candidates_kept k are own = read_kept (λ m l. nearest_candidates m query l k) are (candidates_mapped contents.cells k (mirrored own))

  scanned_kept : {kept : Kept} (k : ℕ) → AreItems contents kept → AreOwnCells contents → scan_reads kept.marks query (live_items kept.places) k ≡ map f (clamped_scanned contents query k)
  scanned_kept k are own = read_kept (λ m l. scan_reads m query l k) are
      (scanned_mapped contents.cells k (mirrored own) ∙ ap (map f) (sym (scanned_between contents query k (own_between contents sound query contents.cells own))))

  within_kept : {kept : Kept} (radius : ℕ) → AreItems contents kept → AreOwnCells contents → within_reads kept.marks query (live_items kept.places) radius ≡ map f (cells_within contents query radius)
  within_kept radius are own = read_kept (λ m l. within_reads m query l radius) are (need_within_mapped contents.cells radius (mirrored own))

  -- of the pairs those are found that are picked from all, and as many items come into question as cells do
  sought_of : (pick : List Pair → List Pair) (asked : Cells) {kept : Kept} {read : Cells} {items candidates : List Item} → AreItems contents kept → items ≡ map f read → candidates ≡ map f asked
      → IsSought contents read (pick (pairs_of contents query)) (length asked) (record { pairs = pick (distances.pairs_of query (live_items kept.places)); reads = items; candidates = length candidates })
  sought_of pick asked are read_are asked_are = record {
    pairs_are = ap pick (pairs_kept are);
    reads_are = read_are;
    count_is = sym (length-map asked f) ∙ ap length (sym asked_are);
  }

  -- the k nearest
  pub nearest_serves : (k : ℕ) → Serves (nearest_seeks query k) contents (nearest_pairs query k)
  nearest_serves k = record {
    among = need_among (bounds_of contents query) contents.cells (clamped_distance contents query) k;
    is = λ kept are own. sought_of (λ ps. answer ps k) (cell_candidates contents query k) are (needed_kept k are own) (candidates_kept k are own);
  }

  -- the same by a scan
  pub scan_serves : (k : ℕ) → Serves (scan_seeks query k) contents (scan_pairs query k)
  scan_serves k = record {
    among = scanned_among (bounds_of contents query) contents.cells (clamped_distance contents query) k;
    is = λ kept are own. sought_of (λ ps. answer ps k) (clamped_scanned contents query k) are (scanned_kept k are own) (scanned_kept k are own);
  }

  -- what lies within a radius
  pub within_serves : (radius : ℕ) → Serves (within_seeks query radius) contents (within_pairs query radius)
  within_serves radius = record {
    among = need_within_among (bounds_of contents query) contents.cells radius;
    is = λ kept are own. sought_of (λ ps. within ps radius) (cells_within contents query radius) are (within_kept radius are own) (within_kept radius are own);
  }
