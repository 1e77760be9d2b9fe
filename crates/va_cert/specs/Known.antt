-- What a certificate tells of the distances in its boxes.
use Rattle.std.specs.Prelude.{ℕ, ◌==◌, Bool, ◌||◌, not, List, [], ◌∷◌, Option, take, slice_get, if◌then◌else◌}
use Rattle.std.specs.List.{filter, list_any}
use Rattle.va_core.specs.declared.pair.Pair.{Pair}
use Rattle.va_core.specs.Approximations.{Approximations, pairs, is_wide}
use Rattle.va_core.specs.Boxes.{Span, box_between, low_of, high_of}
use Rattle.va_core.specs.Distance.{distance}
use Rattle.va_core.specs.Ranking.{ascending}
use Rattle.va_cert.specs.declared.certificate.BoxRow.{BoxRow}
use Rattle.va_cert.specs.declared.certificate.Taken.{Taken}
use Rattle.va_cert.specs.declared.certificate.Certificate.{Certificate}

abbrev pub dist_of : Certificate → List ℕ → ℕ
dist_of c vector = distance (record { objects = c.objects; weights = c.weights }) vector

abbrev pub box_of : BoxRow → List Span
box_of row = box_between row.low row.high

-- the box of an id; none of no dimensions where it has none
abbrev pub box_at : List BoxRow → ℕ → List Span
box_at [] id = []
box_at (row ∷ boxes) id = if row.id == id then box_of row else box_at boxes id

abbrev pub has_box : List BoxRow → ℕ → Bool
has_box boxes id = list_any (λ row. row.id == id) boxes

abbrev pub is_fetched : List Taken → ℕ → Bool
is_fetched fetched id = list_any (λ taken. taken.id == id) fetched

-- the vector that was fetched of an id
abbrev pub vector_at : List Taken → ℕ → List ℕ
vector_at [] id = []
vector_at (taken ∷ fetched) id = if taken.id == id then taken.vector else vector_at fetched id

-- the least and the greatest distance over all vectors of each box
abbrev pub bounds : Certificate → Approximations BoxRow
bounds c = record {
  name = λ row. row.id;
  low = λ row. low_of (dist_of c) (box_of row);
  high = λ row. high_of (dist_of c) (box_of row);
}

-- a distance is known where the vector was fetched, or the box is narrow
abbrev pub is_known : Certificate → BoxRow → Bool
is_known c row = is_fetched c.fetched row.id || not (is_wide (bounds c) row)

abbrev pub known_dist : Certificate → BoxRow → ℕ
known_dist c row = if is_fetched c.fetched row.id then dist_of c (vector_at c.fetched row.id) else (bounds c).low row

-- the ascending list of the known pairs, cut after k
abbrev pub known_list : Certificate → List Pair
known_list c = take c.k (ascending (pairs (λ row. row.id) (known_dist c) (filter (is_known c) c.boxes)))

-- the same with the pair of the entry's substitute in place of its own
abbrev pub substituted_dist : Certificate → Taken → BoxRow → ℕ
substituted_dist c taken row = if row.id == taken.id then dist_of c taken.other else known_dist c row

abbrev pub substituted_list : Certificate → Taken → List Pair
substituted_list c taken = take c.k (ascending (pairs (λ row. row.id) (substituted_dist c taken) (filter (is_known c) c.boxes)))

-- the least pair that an unfetched wide box may have
abbrev pub first_unknown : Certificate → Option Pair
first_unknown c = slice_get (ascending (pairs (λ row. row.id) (bounds c).low (filter (λ row. not (is_known c row)) c.boxes))) 0
