-- The certificate of the cells is the certificate of the map.
use Rattle.std.proofs.Common.{◌≡◌, ◌≢◌, ℕ, Bool, true, false, List, [], ◌∷◌, map, filter, Option, None, Some, if◌then◌else◌, inl, inr, refl, sym, ap, ◌∙◌}
use Rattle.std.specs.List.{AllByRecursion}
use Rattle.va_core.specs.declared.pair.Pair.{Pair}
use Rattle.va_core.specs.Approximations.{NamesDiffer, low_pair, paired}
use Rattle.va_core.specs.Boxes.{Span, substitute}
use Rattle.va_core.specs.Cells.{box}
use Rattle.va_core.specs.Distance.{Query, distance, pairs_of}
use Rattle.va_core.specs.Places.{Item}
use Rattle.va_core.specs.Ranking.{answer, is_less}
use Rattle.va_core.specs.Reads.{approximated, nearest_reads}
use Rattle.va_core.specs.Sorting.{ascending_by, placed_by}
use Rattle.va_core.proofs.Covering.{names_filter}
use Rattle.va_core.proofs.Items.{names_of_ids}
use Rattle.va_core.proofs.Keyed.{KeysDiffer, resorted}
use Rattle.va_core.proofs.Members.{IsAmong}
use Rattle.va_core.proofs.Sorting.{all_ascending_by, filter_ascending_by}
use Rattle.va_cert.specs.Made.{by_id, row_for, taken_for}
use Rattle.va_cert.specs.declared.certificate.BoxRow.{BoxRow}
use Rattle.va_cert.specs.declared.certificate.Certificate.{Certificate}
use Rattle.va_cert.specs.declared.certificate.Taken.{Taken}
use Rattle.va_ports.specs.Shelves.{AreOwnCells, Contents, IsOwn, IsSound, id_of}
use Rattle.va_ports.specs.Searches.{vector_of}
use Rattle.va_bounded.specs.Keeps.{clamped_pairs}
use Rattle.va_maker.specs.Coded.{coded_at, coded_of, key_of}
use Rattle.va_maker.specs.Making.{cert_of, clamped_cert, item_of, items_of, kept_needed}
use Rattle.va_maker.specs.Rows.{coded_cert, coded_row, coded_taken, coded_takens, taken_before}
use Rattle.va_maker.specs.declared.coded.CodedCell.{CodedCell}
use Rattle.va_maker.proofs.ItemCells.{items_differ, kept_if_needed, needs, own_pairs}

abbrev Cells : Type 0
Cells = List (ℕ × ℕ)

-- a sort of what a function gives
placed_mapped : {X Y : Type 0} (f : X → Y) (key : Y → Pair) (x : X) (l : List X) → placed_by key (f x) (map f l) ≡ map f (placed_by (λ z. key (f z)) x l)
placed_mapped f key x [] = refl
placed_mapped {X} {Y} f key x (y ∷ l) = elim (is_less (key (f y)) (key (f x))) as (λ c. (if c then f y ∷ placed_by key (f x) (map f l) else f x ∷ (f y ∷ map f l)) ≡ map f (if c then y ∷ placed_by (λ z. key (f z)) x l else x ∷ (y ∷ l))) [
  | true ↦ ap (λ (m : List Y). f y ∷ m) (placed_mapped f key x l)
  | false ↦ refl
]

ascending_mapped : {X Y : Type 0} (f : X → Y) (key : Y → Pair) (l : List X) → ascending_by key (map f l) ≡ map f (ascending_by (λ z. key (f z)) l)
ascending_mapped f key [] = refl
ascending_mapped f key (x ∷ l) = ap (placed_by key (f x)) (ascending_mapped f key l) ∙ placed_mapped f key x (ascending_by (λ z. key (f z)) l)

-- the cells in the order of their ids
abbrev cells_by_id : Cells → Cells
cells_by_id cells = ascending_by (λ (at : ℕ × ℕ). paired 0 (id_of at)) cells

-- items of different ids have different keys
keys_at : (id : ℕ) (l : List Item) (x : Item) → x.id ≡ id → AllByRecursion (λ (y : Item). y.id ≢ id) l → AllByRecursion (λ (y : Item). ◌≡◌ {A = Pair} (paired 0 y.id) (paired 0 x.id) → y ≡ x) l
keys_at id [] x e h = tt
keys_at id (y ∷ l) x e h = ((λ s. absurd (h.0 (ap (λ (p : Pair). p.id) s ∙ e))), keys_at id l x e h.1)

keys_differ : (l : List Item) → NamesDiffer (λ (item : Item). item.id) l → KeysDiffer (λ (item : Item). paired 0 item.id) l
keys_differ [] h = tt
keys_differ (x ∷ l) h = (keys_at x.id l x refl h.0, keys_differ l h.1)

-- what is needed, in the order of the ids, is what is needed of the items in that order
needed_by_id : (marks : List (List ℕ)) (query : Query) (items : List Item) (k : ℕ) → NamesDiffer (λ (item : Item). item.id) items → filter (needs items marks query k) (by_id items) ≡ by_id (nearest_reads marks query items k)
needed_by_id marks query items k differ =
    let part : List Item = filter (needs items marks query k) items in
    filter_ascending_by (λ (item : Item). paired 0 item.id) (needs items marks query k) items
    ∙ sym (resorted (low_pair (approximated marks query)) (λ (item : Item). paired 0 item.id) part (keys_differ part (names_filter (λ (item : Item). item.id) (needs items marks query k) items differ)))

module _ (contents : Contents) (sound : IsSound contents) (query : Query) (k : ℕ) where
  -- the box of a code is that of the vector's own cell
  same_rows : (cells : Cells) → AllByRecursion (IsOwn contents) cells → map (coded_row contents.marks) (map (coded_at contents) cells) ≡ map (row_for contents.marks) (map (item_of contents) cells)
  same_rows [] own = refl
  same_rows (at ∷ cells) own =
      ap (λ (code : List ℕ). let row : BoxRow = record { id = id_of at; low = map (λ (s : Span). s.low) (box contents.marks code); high = map (λ (s : Span). s.high) (box contents.marks code) } in row ∷ map (coded_row contents.marks) (map (coded_at contents) cells)) (sym own.0.1)
      ∙ ap (λ (rows : List BoxRow). row_for contents.marks (item_of contents at) ∷ rows) (same_rows cells own.1)

  same_taken : (at : ℕ × ℕ) → IsOwn contents at → coded_taken contents.marks query (coded_at contents at) (vector_of contents at) ≡ taken_for contents.marks query (item_of contents at)
  same_taken at own = ap (λ (code : List ℕ). let taken : Taken = record { id = id_of at; vector = vector_of contents at; other = substitute (distance query) (box contents.marks code) (vector_of contents at) } in taken) (sym own.1)

  takens_if : (at : ℕ × ℕ) (b : Bool) (items : List Item) → IsOwn contents at → taken_before contents.marks query (coded_at contents at) (if b then Some (vector_of contents at) else None) (map (taken_for contents.marks query) items)
      ≡ map (taken_for contents.marks query) (if b then item_of contents at ∷ items else items)
  takens_if at true items own = ap (λ (taken : Taken). taken ∷ map (taken_for contents.marks query) items) (same_taken at own)
  takens_if at false items own = refl

  same_takens : (cells : Cells) → AreOwnCells contents → AllByRecursion (λ (at : ℕ × ℕ). IsOwn contents at × IsAmong at contents.cells) cells →
      coded_takens contents.marks query (kept_needed contents query k) (map (coded_at contents) cells)
      ≡ map (taken_for contents.marks query) (filter (needs (items_of contents) contents.marks query k) (map (item_of contents) cells))
  same_takens [] own all = refl
  same_takens (at ∷ cells) own all =
      let kept = kept_needed contents query k in
      let test = needs (items_of contents) contents.marks query k in
      ap (λ (found : Option (List ℕ)). taken_before contents.marks query (coded_at contents at) found (coded_takens contents.marks query kept (map (coded_at contents) cells))) (kept_if_needed contents query k at sound own all.0.0 all.0.1)
      ∙ ap (λ (takens : List Taken). taken_before contents.marks query (coded_at contents at) (if test (item_of contents at) then Some (vector_of contents at) else None) takens) (same_takens cells own all.1)
      ∙ takens_if at (test (item_of contents at)) (filter test (map (item_of contents) cells)) all.0.0

  among_all : (cells : Cells) → AllByRecursion (IsOwn contents) cells → ((at : ℕ × ℕ) → IsAmong at cells → IsAmong at contents.cells) → AllByRecursion (λ (at : ℕ × ℕ). IsOwn contents at × IsAmong at contents.cells) cells
  among_all [] own among = tt
  among_all (at ∷ cells) own among = ((own.0, among at (inl refl)), among_all cells own.1 (λ other in'. among other (inr in')))

  pub made_is : AreOwnCells contents → clamped_cert contents query k ≡ cert_of contents query k
  made_is own =
      let marks = contents.marks in
      let items : List Item = items_of contents in
      let by = cells_by_id contents.cells in
      let kept = kept_needed contents query k in
      let test = needs items marks query k in
      let coded : coded_of contents ≡ map (coded_at contents) by = ascending_mapped (coded_at contents) key_of contents.cells in
      let sorted : by_id items ≡ map (item_of contents) by = ascending_mapped (item_of contents) (λ (item : Item). paired 0 item.id) contents.cells in
      let all : AllByRecursion (λ (at : ℕ × ℕ). IsOwn contents at × IsAmong at contents.cells) by =
      all_ascending_by (λ (at : ℕ × ℕ). IsOwn contents at × IsAmong at contents.cells) (λ (at : ℕ × ℕ). paired 0 (id_of at)) contents.cells (among_all contents.cells own (λ at in'. in')) in
      let owned : AllByRecursion (IsOwn contents) by = all_ascending_by (IsOwn contents) (λ (at : ℕ × ℕ). paired 0 (id_of at)) contents.cells own in
      let boxes : map (coded_row marks) (coded_of contents) ≡ map (row_for marks) (by_id items) =
      ap (λ (l : List CodedCell). map (coded_row marks) l) coded ∙ same_rows by owned ∙ ap (λ (l : List Item). map (row_for marks) l) (sym sorted) in
      let fetched : coded_takens marks query kept (coded_of contents) ≡ map (taken_for marks query) (by_id (nearest_reads marks query items k)) =
      ap (λ (l : List CodedCell). coded_takens marks query kept l) coded ∙ same_takens by own all
      ∙ ap (λ (l : List Item). map (taken_for marks query) (filter test l)) (sym sorted)
      ∙ ap (λ (l : List Item). map (taken_for marks query) l) (needed_by_id marks query items k (names_of_ids items (items_differ contents contents.cells sound.ids))) in
      let answers : answer (clamped_pairs contents query contents.cells) k ≡ answer (pairs_of query items) k = ap (λ (ps : List Pair). answer ps k) (own_pairs contents query k sound own) in
      same_cert answers boxes fetched
    where
      same_cert : {pairs pairs' : List Pair} {boxes boxes' : List BoxRow} {fetched fetched' : List Taken} → pairs ≡ pairs' → boxes ≡ boxes' → fetched ≡ fetched' →
          ◌≡◌ {A = Certificate} (record { answer = pairs; boxes = boxes; fetched = fetched; k = k; objects = query.objects; weights = query.weights }) (record { answer = pairs'; boxes = boxes'; fetched = fetched'; k = k; objects = query.objects; weights = query.weights })
      same_cert {pairs} {pairs'} {boxes} {boxes'} {fetched} {fetched'} p b f = rw (p, b, f) refl

-- what was found of a shelf
pub record AreParts (contents : Contents) (query : Query) (k : ℕ) (marks : List (List ℕ)) (cells : List CodedCell) (pairs : List Pair) (vectors : List (ℕ × List ℕ)) : Type 0 where
  pub is_marks : marks ≡ contents.marks
  pub is_cells : cells ≡ coded_of contents
  pub is_answer : pairs ≡ answer (clamped_pairs contents query contents.cells) k
  pub is_kept : vectors ≡ kept_needed contents query k

pub clamped_for : {contents : Contents} {query : Query} {k : ℕ} {marks : List (List ℕ)} {cells : List CodedCell} {pairs : List Pair} {vectors : List (ℕ × List ℕ)} → AreParts contents query k marks cells pairs vectors → coded_cert marks query k cells pairs vectors ≡ clamped_cert contents query k
clamped_for {contents} {query} {k} {marks} {cells} {pairs} {vectors} parts =
    ap (λ (m : List (List ℕ)). coded_cert m query k cells pairs vectors) parts.is_marks
    ∙ ap (λ (l : List CodedCell). coded_cert contents.marks query k l pairs vectors) parts.is_cells
    ∙ ap (λ (l : List Pair). coded_cert contents.marks query k (coded_of contents) l vectors) parts.is_answer
    ∙ ap (λ (l : List (ℕ × List ℕ)). coded_cert contents.marks query k (coded_of contents) (answer (clamped_pairs contents query contents.cells) k) l) parts.is_kept
