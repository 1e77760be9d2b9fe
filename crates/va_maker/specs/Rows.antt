-- The rows of a certificate, of the cells of a shelf.
use Rattle.std.specs.Prelude.{ℕ, List, [], ◌∷◌, map, Option, None, Some}
use Rattle.va_bound.specs.Tables.{AreBounds, Table}
use Rattle.va_cert.specs.declared.certificate.BoxRow.{BoxRow}
use Rattle.va_cert.specs.declared.certificate.Certificate.{Certificate}
use Rattle.va_cert.specs.declared.certificate.Taken.{Taken}
use Rattle.va_core.specs.declared.pair.Pair.{Pair}
use Rattle.va_core.specs.Boxes.{Span, substitute}
use Rattle.va_core.specs.Cells.{box}
use Rattle.va_core.specs.Distance.{Query, distance}
use Rattle.va_maker.specs.Coded.{NameSlices}
use Rattle.va_maker.specs.Kept.{kept_of}
use Rattle.va_maker.specs.declared.coded.CodedCell.{CodedCell}

-- the box of a code
abbrev pub coded_row : List (List ℕ) → CodedCell → BoxRow
coded_row marks cell = record { id = cell.id; low = map (λ (s : Span). s.low) (box marks cell.code); high = map (λ (s : Span). s.high) (box marks cell.code) }

-- a vector with its substitute
abbrev pub coded_taken : List (List ℕ) → Query → CodedCell → List ℕ → Taken
coded_taken marks query cell vector = record { id = cell.id; vector = vector; other = substitute (distance query) (box marks cell.code) vector }

-- the entry of a cell before the others, if its vector was kept
abbrev pub taken_before : List (List ℕ) → Query → CodedCell → Option (List ℕ) → List Taken → List Taken
taken_before marks query cell None takens = takens
taken_before marks query cell (Some vector) takens = coded_taken marks query cell vector ∷ takens

abbrev pub coded_takens : List (List ℕ) → Query → List (ℕ × List ℕ) → List CodedCell → List Taken
coded_takens marks query vectors [] = []
coded_takens marks query vectors (cell ∷ cells) = taken_before marks query cell (kept_of vectors cell.place) (coded_takens marks query vectors cells)

abbrev pub coded_cert : List (List ℕ) → Query → ℕ → List CodedCell → List Pair → List (ℕ × List ℕ) → Certificate
coded_cert marks query k cells answer vectors = record {
  answer = answer;
  boxes = map (coded_row marks) cells;
  fetched = coded_takens marks query vectors cells;
  k = k;
  objects = query.objects;
  weights = query.weights;
}

-- it holds under whichever marks the table has the bounds of the query under, where the codes name slices of them
abbrev pub UnderMarks : Query → Table → List CodedCell → (List (List ℕ) → Type 0) → Type 0
UnderMarks query table cells P = (marks : List (List ℕ)) → AreBounds marks query table → NameSlices marks cells → P marks
