-- The certificate of a search.
use Rattle.std.specs.Prelude.{◌≡◌, ℕ, ◌≤◌, List, length, map}
use Rattle.std.specs.List.{AllByRecursion}
use Rattle.va_core.specs.Approximations.{paired}
use Rattle.va_core.specs.Boxes.{Span, substitute}
use Rattle.va_core.specs.Cells.{box_of}
use Rattle.va_core.specs.Distance.{Query, IsQuery, distance, pairs_of}
use Rattle.va_core.specs.Marks.{AreValid}
use Rattle.va_core.specs.Places.{Item, IdsDiffer}
use Rattle.va_core.specs.Ranking.{answer}
use Rattle.va_core.specs.Reads.{nearest_reads}
use Rattle.va_core.specs.Sorting.{ascending_by}
use Rattle.va_core.specs.Vectors.{IsVector}
use Rattle.va_cert.specs.declared.certificate.BoxRow.{BoxRow}
use Rattle.va_cert.specs.declared.certificate.Taken.{Taken}
use Rattle.va_cert.specs.declared.certificate.Certificate.{Certificate}
use Rattle.va_cert.specs.Reasons.{Accepts}

-- the box of an item's cell
abbrev pub own_box : List (List ℕ) → Item → List Span
own_box marks item = box_of marks item.vector

abbrev pub by_id : List Item → List Item
by_id items = ascending_by (λ item. paired 0 item.id) items

abbrev pub row_for : List (List ℕ) → Item → BoxRow
row_for marks item = record { id = item.id; low = map (λ (s : Span). s.low) (own_box marks item); high = map (λ (s : Span). s.high) (own_box marks item) }

abbrev pub taken_for : List (List ℕ) → Query → Item → Taken
taken_for marks query item = record { id = item.id; vector = item.vector; other = substitute (distance query) (own_box marks item) item.vector }

-- the answer, the box of each id, and what had to be read, with its substitutes
abbrev pub cert : List Item → List (List ℕ) → Query → ℕ → Certificate
cert items marks query k = record {
  answer = answer (pairs_of query items) k;
  boxes = map (row_for marks) (by_id items);
  fetched = map (taken_for marks query) (by_id (nearest_reads marks query items k));
  k = k;
  objects = query.objects;
  weights = query.weights;
}

-- a map, marks, a query and k that fit together
pub record AreOfShape (dims : ℕ) (items : List Item) (marks : List (List ℕ)) (query : Query) (k : ℕ) : Type 0 where
  pub some_dims : 1 ≤ dims
  pub most_dims : dims ≤ 256
  pub one_each : length marks ≡ dims
  pub valid : AreValid marks
  pub differ : IdsDiffer items
  pub few : length items ≤ 4096
  pub vectors : AllByRecursion (λ (item : Item). IsVector dims item.vector) items
  pub fits : IsQuery dims query
  pub some_k : 1 ≤ k
  pub most_k : k ≤ 4096

abbrev pub MadeIsAccepted : Type 0
MadeIsAccepted = (dims : ℕ) (items : List Item) (marks : List (List ℕ)) (query : Query) (k : ℕ) → AreOfShape dims items marks query k → Accepts (cert items marks query k)
