-- The marks of all dimensions: their shape, and that the counts of vectors give the marks of the vectors.
use Rattle.std.proofs.Common.{◌≡◌, ℕ, ◌+◌, ◌-◌, ◌*◌, ◌/◌, ◌^◌, ◌<◌, List, [], length, map, refl, ap, sym, ◌∙◌, arith, cond, ltb, eqb}
use Rattle.std.specs.List.{range_with_len}
use Rattle.std.proofs.lemmas.List.{length-map}
use Rattle.std.proofs.lemmas.List.FromFn.{length-map-range_with_len, get_or-map-range_with_len}
use Rattle.va_core.specs.Shape.{Shape, bits_of}
use Rattle.va_core.specs.Marks.{HasShape, at_most, column, mark_of, marks_of, row_at, row_of}
use Rattle.va_marks.specs.Counts.{Counted, Tallies, counts_at, counts_of}
use Rattle.va_marks.specs.Rows.{AreRows, row_by_counts}
use Rattle.va_marks.specs.Rule.{mark_by, row_by, up_to}
use Rattle.va_marks.proofs.Counting.{up_to-counts_of}
use Rattle.va_marks.proofs.Pushes.{map_agree}
use Rattle.va_marks.proofs.Quantiles.{length-row_by, length-row_of}
use Rattle.va_marks.proofs.Searches.{least_from_same}

-- rows of the right lengths have the shape
pub rows_have_shape : (shape : Shape) (f : ℕ → List ℕ) (rows : List (List ℕ)) → rows ≡ map f (range_with_len 0 shape.dims) → ((dim : ℕ) → dim < shape.dims → length (f dim) ≡ 2 ^ bits_of shape dim + 1) → HasShape shape rows
rows_have_shape shape f rows e lengths = record {
  one_each = ap length e ∙ length-map-range_with_len f 0 shape.dims;
  counts = λ dim l. ap (λ rs. length (row_at rs dim)) e ∙ ap length (get_or-map-range_with_len f 0 shape.dims dim dim [] l (omega arith)) ∙ lengths dim l;
}

pub marks_of_has_shape : (shape : Shape) (vectors : List (List ℕ)) → HasShape shape (marks_of shape vectors)
unfolding marks_of
marks_of_has_shape shape vectors = rows_have_shape shape (λ dim. row_of (bits_of shape dim) (column dim vectors)) _ refl (λ dim l. length-row_of (bits_of shape dim) (column dim vectors))

-- the marks by the counts of the coordinates are those of the coordinates
row_by_counts_of : (b added : ℕ) (coordinates : List ℕ) → added ≡ length coordinates → row_by b added (counts_of coordinates) ≡ row_of b coordinates
unfolding row_by row_of
row_by_counts_of b added coordinates e = map_agree (mark_by b added (counts_of coordinates)) (mark_of b coordinates) (2 ^ b + 1) 0
    (λ t _. ap (λ n. mark_by b n (counts_of coordinates) t) e
    ∙ ap (λ y. cond (eqb t 0) 0 (cond (eqb t (2 ^ b)) 256 (cond (eqb (length coordinates) 0) (t * 2 ^ (8 - b)) y)))
    (least_from_same (λ v. ltb (t * length coordinates / 2 ^ b) (up_to v (counts_of coordinates))) (λ v. ltb (t * length coordinates / 2 ^ b) (at_most v coordinates)) 256 0
    (λ v l. ap (λ u. ltb (t * length coordinates / 2 ^ b) u) (up_to-counts_of coordinates v (omega arith)))))

marks_of_tallied : (tally : Counted) (vectors : List (List ℕ)) → Tallies tally vectors → map (row_by_counts tally.shape tally.added tally.columns) (range_with_len 0 tally.shape.dims) ≡ marks_of tally.shape vectors
unfolding marks_of
marks_of_tallied tally vectors t = map_agree (row_by_counts tally.shape tally.added tally.columns) (λ dim. row_of (bits_of tally.shape dim) (column dim vectors)) tally.shape.dims []
    (λ dim l. ap (λ counts. row_by (bits_of tally.shape dim) tally.added counts) (t.counts dim l)
    ∙ row_by_counts_of (bits_of tally.shape dim) tally.added (column dim vectors) (t.added ∙ sym (length-map vectors _)))

-- the rows of a tally
pub rows_tallied : (tally : Counted) (rows vectors : List (List ℕ)) → AreRows (row_by_counts tally.shape tally.added tally.columns) tally.shape.dims rows → Tallies tally vectors → rows ≡ marks_of tally.shape vectors
rows_tallied tally rows vectors are t = are.so_far ∙ marks_of_tallied tally vectors t

pub rows_tallied_have_shape : (tally : Counted) (rows : List (List ℕ)) → AreRows (row_by_counts tally.shape tally.added tally.columns) tally.shape.dims rows → HasShape tally.shape rows
rows_tallied_have_shape tally rows are = rows_have_shape tally.shape (row_by_counts tally.shape tally.added tally.columns) rows are.so_far
    (λ dim l. length-row_by (bits_of tally.shape dim) tally.added (counts_at tally.columns dim))

-- the rows over no vectors
pub rows_over_none : (shape : Shape) (rows : List (List ℕ)) → AreRows (λ dim. row_of (bits_of shape dim) []) shape.dims rows → rows ≡ marks_of shape []
unfolding marks_of
rows_over_none shape rows are = are.so_far
