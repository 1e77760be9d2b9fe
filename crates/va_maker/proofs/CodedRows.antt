-- Rows of cells, one after another.
use Rattle.std.proofs.Common.{◌≡◌, ℕ, zero, suc, ◌+◌, ◌<◌, List, [], ◌∷◌, ◌++◌, map, length, take, drop, get_or, slice_get, Option, Some, refl, sym, ap, ◌∙◌, subst, append_assoc, take_all, drop-cons, arith}
use Rattle.std.proofs.lemmas.List.{length-map}
use Rattle.std.specs.List.{AllByRecursion}
use Rattle.va_bound.specs.Tables.{AreBounds, HasEntries, Table}
use Rattle.va_bound.proofs.Tables.{names_entries}
use Rattle.va_core.specs.Boxes.{Span}
use Rattle.va_core.specs.Cells.{NamesSlices, box, span_of}
use Rattle.va_core.specs.Distance.{Query}
use Rattle.va_core.specs.Marks.{row_at}
use Rattle.va_cert.specs.declared.certificate.Taken.{Taken}
use Rattle.va_maker.specs.Coded.{NameSlices}
use Rattle.va_maker.specs.Kept.{kept_of}
use Rattle.va_maker.specs.Rows.{coded_taken, coded_takens, taken_before}
use Rattle.va_maker.specs.declared.coded.CodedCell.{CodedCell}

pub box_size : (marks : List (List ℕ)) (slices : List ℕ) → length slices ≡ length marks → length (box marks slices) ≡ length slices
box_size [] [] e = refl
box_size [] (slice ∷ slices) e = absurd (omega (arith, e))
box_size (row ∷ marks) [] e = absurd (omega (arith, e))
box_size (row ∷ marks) (slice ∷ slices) e = ap suc (box_size marks slices (omega (arith, e)))

ends_more : (end : Span → ℕ) (marks : List (List ℕ)) (slices : List ℕ) (dim : ℕ) → length slices ≡ length marks → dim < length slices → take (suc dim) (map end (box marks slices)) ≡ take dim (map end (box marks slices)) ++ end (span_of (row_at marks dim) (get_or slices dim 0)) ∷ []
ends_more end [] [] dim e h = absurd (omega (arith, h))
ends_more end [] (slice ∷ slices) dim e h = absurd (omega (arith, e))
ends_more end (row ∷ marks) [] dim e h = absurd (omega (arith, h))
ends_more end (row ∷ marks) (slice ∷ slices) zero e h = refl
ends_more end (row ∷ marks) (slice ∷ slices) (suc dim) e h = ap (λ (l : List ℕ). end (span_of row slice) ∷ l) (ends_more end marks slices dim (omega (arith, e)) (omega (arith, h)))

module _ (end : Span → ℕ) (marks : List (List ℕ)) (slices : List ℕ) (one_each : length slices ≡ length marks) where
  -- one dimension more
  pub box_more : (dim : ℕ) {old new : List ℕ} (n : ℕ) → dim < length slices → n ≡ end (span_of (row_at marks dim) (get_or slices dim 0)) → old ≡ take dim (map end (box marks slices)) → new ≡ old ++ n ∷ [] → new ≡ take (dim + 1) (map end (box marks slices))
  box_more dim {old} {new} n h is done more =
      let one : suc dim ≡ dim + 1 = omega arith in
      more ∙ ap (λ (l : List ℕ). l ++ n ∷ []) done ∙ ap (λ (m : ℕ). take dim (map end (box marks slices)) ++ m ∷ []) is ∙ sym (ends_more end marks slices dim one_each h) ∙ ap (λ (m : ℕ). take m (map end (box marks slices))) one

  -- no dimension is left
  pub box_all : {new : List ℕ} → new ≡ take (length slices) (map end (box marks slices)) → new ≡ map end (box marks slices)
  box_all {new} is = is ∙ take_all (length slices) (map end (box marks slices)) (omega (arith, length-map (box marks slices) end, box_size marks slices one_each))

-- what is left begins with the next cell
cell_first : (cells : List CodedCell) (i : ℕ) (cell : CodedCell) → i < length cells → cell ≡ get_or cells i cell → drop i cells ≡ cell ∷ drop (i + 1) cells
cell_first cells i cell h is =
    let one : suc i ≡ i + 1 = omega arith in
    drop-cons cells i cell h ∙ ap (λ (first : CodedCell). first ∷ drop (suc i) cells) (sym is) ∙ ap (λ (n : ℕ). cell ∷ drop n cells) one

module _ (marks : List (List ℕ)) (query : Query) (vectors : List (ℕ × List ℕ)) (cells : List CodedCell) where
  -- the next cell's vector was kept
  pub takens_more : (i : ℕ) (cell : CodedCell) (done : List Taken) (vector : List ℕ) → i < length cells → cell ≡ get_or cells i cell →
      kept_of vectors cell.place ≡ Some vector → (done ++ coded_taken marks query cell vector ∷ []) ++ coded_takens marks query vectors (drop (i + 1) cells) ≡ done ++ coded_takens marks query vectors (drop i cells)
  takens_more i cell done vector h is kept =
      append_assoc done (coded_taken marks query cell vector ∷ []) (coded_takens marks query vectors (drop (i + 1) cells))
      ∙ ap (λ (found : Option (List ℕ)). done ++ taken_before marks query cell found (coded_takens marks query vectors (drop (i + 1) cells))) (sym kept)
      ∙ ap (λ (l : List CodedCell). done ++ coded_takens marks query vectors l) (sym (cell_first cells i cell h is))

pub names_next : (marks : List (List ℕ)) (cells : List CodedCell) (i : ℕ) (cell : CodedCell) → i < length cells → cell ≡ get_or cells i cell → NameSlices marks cells → NamesSlices marks cell.code
names_next marks [] i cell h is names = absurd (omega (arith, h))
names_next marks (first ∷ cells) zero cell h is names = subst (λ (c : CodedCell). NamesSlices marks c.code) (sym is) names.0
names_next marks (first ∷ cells) (suc i) cell h is names = names_next marks cells i cell (omega (arith, h)) is names.1

-- the table has an entry for each slice
pub entries_all : (marks : List (List ℕ)) (query : Query) (table : Table) (cells : List CodedCell) → AreBounds marks query table → NameSlices marks cells → AllByRecursion (λ (cell : CodedCell). HasEntries table cell.code) cells
entries_all marks query table [] are names = tt
entries_all marks query table (cell ∷ cells) are names = (names_entries marks query table cell.code are names.0, entries_all marks query table cells are names.1)

-- one object more
pub objects_next : (objects : List (List ℕ)) (i : ℕ) (object : List ℕ) → slice_get objects i ≡ Some object → take (i + 1) objects ≡ take i objects ++ object ∷ []
objects_next [] i object is = cc
objects_next (first ∷ objects) zero object is = let e : first ≡ object = cc in ap (λ (o : List ℕ). o ∷ []) e
objects_next (first ∷ objects) (suc i) object is =
    let more : suc i + 1 ≡ suc (i + 1) = omega arith in
    ap (λ (n : ℕ). take n (first ∷ objects)) more ∙ ap (λ (l : List (List ℕ)). first ∷ l) (objects_next objects i object is)
