-- The bounds of a cell, dimension by dimension: sums of the extreme parts over its slices, at the vectors of the first
-- values that attain them.
use Rattle.std.proofs.Common.{◌≡◌, ℕ, zero, suc, ◌+◌, ◌-◌, ◌<◌, ◌≤◌, List, [], ◌∷◌, length, get_or, drop, drop-cons, refl, ap, sym, ◌∙◌, arith}
use Rattle.std.specs.List.{AllByRecursion}
use Rattle.std.proofs.lemmas.List.{drop_all}
use Rattle.va_core.specs.Shape.{sum_below}
use Rattle.va_core.specs.Boxes.{Lies, low_of, high_of, lowest, highest}
use Rattle.va_core.specs.Cells.{box, NamesSlices}
use Rattle.va_core.specs.Distance.{Query, IsQuery, distance}
use Rattle.va_core.specs.DistanceParts.{added, part_at, part_of, parts_from, parts_of}
use Rattle.va_core.specs.Marks.{row_at}
use Rattle.va_core.specs.Parts.{joined, least_part, greatest_part, least_value, greatest_value, least_values, greatest_values}
use Rattle.va_core.specs.Vectors.{IsVector}
use Rattle.va_core.proofs.Boxes.{lowest_found, highest_found, lies_length}
use Rattle.va_core.proofs.Cells.{box_has_vectors, later_names}
use Rattle.va_core.proofs.DistanceBounds.{HaveDims, distance_joined}
use Rattle.va_core.proofs.FirstVectors.{lowest_is, highest_is}
use Rattle.va_core.proofs.PartBounds.{least_value_found, greatest_value_found, least_values_lie, greatest_values_lie, low_at_most_high}
use Rattle.va_core.proofs.Pointwise.{lowest_same, highest_same}

-- sums over dimensions
pub sum_same : (f g : ℕ → ℕ) (n : ℕ) → ((dim : ℕ) → dim < n → f dim ≡ g dim) → sum_below f n ≡ sum_below g n
sum_same f g zero h = refl
sum_same f g (suc n) h =
    let rest : sum_below f n ≡ sum_below g n = sum_same f g n (λ dim b. h dim (omega (arith, b))) in
    let here : f n ≡ g n = h n (omega arith) in
    omega (arith, rest, here)

have_dims : (dims : ℕ) (objects : List (List ℕ)) → AllByRecursion (λ object. IsVector dims object) objects → HaveDims dims objects
have_dims dims [] h = tt
have_dims dims (o ∷ objects) h = (h.0.one_each, have_dims dims objects h.1)

pub query_dims : (dims : ℕ) (query : Query) → IsQuery dims query → HaveDims (length query.weights) query.objects
query_dims dims query is = rw is.one_each (have_dims dims query.objects is.objects)

-- The distance is the sum of its parts, one for each dimension.
joined_to : (ws : List ℕ) (objects : List (List ℕ)) (x : List ℕ) (k : ℕ) → length x ≡ length ws → k ≤ length ws →
    joined added 0 (parts_from 0 ws objects) x ≡ joined added (sum_below (λ dim. part_at (get_or ws dim 0) dim objects (get_or x dim 0)) k) (parts_from k (drop k ws) objects) (drop k x)
joined_to ws objects x zero len h = refl
joined_to ws objects x (suc k) len h =
    let before : joined added 0 (parts_from 0 ws objects) x ≡ joined added (sum_below (λ dim. part_at (get_or ws dim 0) dim objects (get_or x dim 0)) k) (parts_from k (drop k ws) objects) (drop k x) =
    joined_to ws objects x k len (omega (arith, h)) in
    before ∙ rw (drop-cons ws k 0 (omega (arith, h)), drop-cons x k 0 (omega (arith, h, len))) refl

pub distance_by_dims : (query : Query) (x : List ℕ) → HaveDims (length query.weights) query.objects → length x ≡ length query.weights →
    distance query x ≡ sum_below (λ dim. part_of query dim (get_or x dim 0)) (length query.weights)
distance_by_dims query x have len =
    distance_joined query have x
    ∙ (joined_to query.weights query.objects x (length query.weights) len (omega arith)
    ∙ rw (drop_all (length query.weights) query.weights (omega arith)) refl)

-- the first vector at a bound, dimension by dimension
least_at : (dim : ℕ) (ws : List ℕ) (objects : List (List ℕ)) (marks : List (List ℕ)) (slices : List ℕ) (i : ℕ) → length ws ≡ length marks → NamesSlices marks slices → i < length marks →
    get_or (least_values (parts_from dim ws objects) (box marks slices)) i 0
    ≡ least_value (part_at (get_or ws i 0) (dim + i) objects) (get_or (row_at marks i) (get_or slices i 0) 0) (get_or (row_at marks i) (get_or slices i 0 + 1) 0 - 1 - get_or (row_at marks i) (get_or slices i 0) 0)
least_at dim ws objects [] slices i len names h = absurd (omega (arith, h))
least_at dim [] objects (row ∷ marks) slices i len names h = absurd (omega (arith, len))
least_at dim (w ∷ ws) objects (row ∷ marks) [] i len names h = absurd (omega (arith, names.one_each))
least_at dim (w ∷ ws) objects (row ∷ marks) (s ∷ slices) zero len names h = let e : dim + 0 ≡ dim = omega arith in rw e refl
least_at dim (w ∷ ws) objects (row ∷ marks) (s ∷ slices) (suc i) len names h =
    let e : suc dim + i ≡ dim + suc i = omega arith in
    rw (← e) (least_at (suc dim) ws objects marks slices i (omega (arith, len)) (later_names row marks s slices names) (omega (arith, h)))

greatest_at : (dim : ℕ) (ws : List ℕ) (objects : List (List ℕ)) (marks : List (List ℕ)) (slices : List ℕ) (i : ℕ) → length ws ≡ length marks → NamesSlices marks slices → i < length marks →
    get_or (greatest_values (parts_from dim ws objects) (box marks slices)) i 0
    ≡ greatest_value (part_at (get_or ws i 0) (dim + i) objects) (get_or (row_at marks i) (get_or slices i 0) 0) (get_or (row_at marks i) (get_or slices i 0 + 1) 0 - 1 - get_or (row_at marks i) (get_or slices i 0) 0)
greatest_at dim ws objects [] slices i len names h = absurd (omega (arith, h))
greatest_at dim [] objects (row ∷ marks) slices i len names h = absurd (omega (arith, len))
greatest_at dim (w ∷ ws) objects (row ∷ marks) [] i len names h = absurd (omega (arith, names.one_each))
greatest_at dim (w ∷ ws) objects (row ∷ marks) (s ∷ slices) zero len names h = let e : dim + 0 ≡ dim = omega arith in rw e refl
greatest_at dim (w ∷ ws) objects (row ∷ marks) (s ∷ slices) (suc i) len names h =
    let e : suc dim + i ≡ dim + suc i = omega arith in
    rw (← e) (greatest_at (suc dim) ws objects marks slices i (omega (arith, len)) (later_names row marks s slices names) (omega (arith, h)))

parts_length : (dim : ℕ) (ws : List ℕ) (objects : List (List ℕ)) → length (parts_from dim ws objects) ≡ length ws
parts_length dim [] objects = refl
parts_length dim (w ∷ ws) objects = ap suc (parts_length (suc dim) ws objects)

box_length : (marks : List (List ℕ)) (slices : List ℕ) → length slices ≡ length marks → length (box marks slices) ≡ length marks
box_length [] slices len = refl
box_length (row ∷ marks) [] len = absurd (omega (arith, len))
box_length (row ∷ marks) (s ∷ slices) len = ap suc (box_length marks slices (omega (arith, len)))

pub lowest_values : (marks : List (List ℕ)) (query : Query) (slices : List ℕ) → IsQuery (length marks) query → NamesSlices marks slices → lowest (distance query) (box marks slices) ≡ least_values (parts_of query) (box marks slices)
lowest_values marks query slices is names =
    lowest_same (distance query) (joined added 0 (parts_of query)) (distance_joined query (query_dims (length marks) query is)) (box marks slices)
    ∙ lowest_is 0 (parts_of query) (box marks slices) (parts_length 0 query.weights query.objects ∙ is.one_each ∙ sym (box_length marks slices names.one_each)) (box_has_vectors marks slices names)

pub highest_values : (marks : List (List ℕ)) (query : Query) (slices : List ℕ) → IsQuery (length marks) query → NamesSlices marks slices → highest (distance query) (box marks slices) ≡ greatest_values (parts_of query) (box marks slices)
highest_values marks query slices is names =
    highest_same (distance query) (joined added 0 (parts_of query)) (distance_joined query (query_dims (length marks) query is)) (box marks slices)
    ∙ highest_is 0 (parts_of query) (box marks slices) (parts_length 0 query.weights query.objects ∙ is.one_each ∙ sym (box_length marks slices names.one_each)) (box_has_vectors marks slices names)

-- where the slice of a dimension begins, and how many values follow the first
abbrev pub begin_of : List (List ℕ) → List ℕ → ℕ → ℕ
begin_of marks slices dim = get_or (row_at marks dim) (get_or slices dim 0) 0

abbrev pub further_of : List (List ℕ) → List ℕ → ℕ → ℕ
further_of marks slices dim = get_or (row_at marks dim) (get_or slices dim 0 + 1) 0 - 1 - get_or (row_at marks dim) (get_or slices dim 0) 0

pub lowest_at : (marks : List (List ℕ)) (query : Query) (slices : List ℕ) (dim : ℕ) → IsQuery (length marks) query → NamesSlices marks slices → dim < length marks →
    get_or (lowest (distance query) (box marks slices)) dim 0 ≡ least_value (part_of query dim) (begin_of marks slices dim) (further_of marks slices dim)
lowest_at marks query slices dim is names h =
    let e : 0 + dim ≡ dim = omega arith in
    ap (λ (x : List ℕ). get_or x dim 0) (lowest_values marks query slices is names)
    ∙ (least_at 0 query.weights query.objects marks slices dim is.one_each names h ∙ rw e refl)

pub highest_at : (marks : List (List ℕ)) (query : Query) (slices : List ℕ) (dim : ℕ) → IsQuery (length marks) query → NamesSlices marks slices → dim < length marks →
    get_or (highest (distance query) (box marks slices)) dim 0 ≡ greatest_value (part_of query dim) (begin_of marks slices dim) (further_of marks slices dim)
highest_at marks query slices dim is names h =
    let e : 0 + dim ≡ dim = omega arith in
    ap (λ (x : List ℕ). get_or x dim 0) (highest_values marks query slices is names)
    ∙ (greatest_at 0 query.weights query.objects marks slices dim is.one_each names h ∙ rw e refl)

pub lowest_length : (marks : List (List ℕ)) (query : Query) (slices : List ℕ) → IsQuery (length marks) query → NamesSlices marks slices → length (lowest (distance query) (box marks slices)) ≡ length marks
lowest_length marks query slices is names =
    ap (λ (x : List ℕ). length x) (lowest_values marks query slices is names)
    ∙ (lies_length (box marks slices) (least_values (parts_of query) (box marks slices)) (least_values_lie (parts_of query) (box marks slices) (box_has_vectors marks slices names))
    ∙ box_length marks slices names.one_each)

pub highest_length : (marks : List (List ℕ)) (query : Query) (slices : List ℕ) → IsQuery (length marks) query → NamesSlices marks slices → length (highest (distance query) (box marks slices)) ≡ length marks
highest_length marks query slices is names =
    ap (λ (x : List ℕ). length x) (highest_values marks query slices is names)
    ∙ (lies_length (box marks slices) (greatest_values (parts_of query) (box marks slices)) (greatest_values_lie (parts_of query) (box marks slices) (box_has_vectors marks slices names))
    ∙ box_length marks slices names.one_each)

-- The lower bound of a cell is the sum of the least parts over its slices, and the upper bound that of the greatest.
pub low_summed : (marks : List (List ℕ)) (query : Query) (slices : List ℕ) → IsQuery (length marks) query → NamesSlices marks slices →
    low_of (distance query) (box marks slices) ≡ sum_below (λ dim. least_part (part_of query dim) (begin_of marks slices dim) (further_of marks slices dim)) (length marks)
low_summed marks query slices is names =
    let x = lowest (distance query) (box marks slices) in
    let lies : Lies (box marks slices) (least_values (parts_of query) (box marks slices)) = least_values_lie (parts_of query) (box marks slices) (box_has_vectors marks slices names) in
    let found = lowest_found (distance query) (box marks slices) (least_values (parts_of query) (box marks slices)) lies in
    let len : length (lowest (distance query) (box marks slices)) ≡ length query.weights = lowest_length marks query slices is names ∙ sym is.one_each in
    sym found.1
    ∙ (distance_by_dims query (lowest (distance query) (box marks slices)) (query_dims (length marks) query is) len
    ∙ (ap (sum_below (λ dim. part_of query dim (get_or (lowest (distance query) (box marks slices)) dim 0))) is.one_each
    ∙ sum_same (λ dim. part_of query dim (get_or (lowest (distance query) (box marks slices)) dim 0)) (λ dim. least_part (part_of query dim) (begin_of marks slices dim) (further_of marks slices dim)) (length marks)
    (λ dim h. ap (part_of query dim) (lowest_at marks query slices dim is names h) ∙ (least_value_found (part_of query dim) (begin_of marks slices dim) (further_of marks slices dim)).part_is)))

pub high_summed : (marks : List (List ℕ)) (query : Query) (slices : List ℕ) → IsQuery (length marks) query → NamesSlices marks slices →
    high_of (distance query) (box marks slices) ≡ sum_below (λ dim. greatest_part (part_of query dim) (begin_of marks slices dim) (further_of marks slices dim)) (length marks)
high_summed marks query slices is names =
    let lies : Lies (box marks slices) (least_values (parts_of query) (box marks slices)) = least_values_lie (parts_of query) (box marks slices) (box_has_vectors marks slices names) in
    let found = highest_found (distance query) (box marks slices) (least_values (parts_of query) (box marks slices)) lies in
    let len : length (highest (distance query) (box marks slices)) ≡ length query.weights = highest_length marks query slices is names ∙ sym is.one_each in
    sym found.1
    ∙ (distance_by_dims query (highest (distance query) (box marks slices)) (query_dims (length marks) query is) len
    ∙ (ap (sum_below (λ dim. part_of query dim (get_or (highest (distance query) (box marks slices)) dim 0))) is.one_each
    ∙ sum_same (λ dim. part_of query dim (get_or (highest (distance query) (box marks slices)) dim 0)) (λ dim. greatest_part (part_of query dim) (begin_of marks slices dim) (further_of marks slices dim)) (length marks)
    (λ dim h. ap (part_of query dim) (highest_at marks query slices dim is names h) ∙ (greatest_value_found (part_of query dim) (begin_of marks slices dim) (further_of marks slices dim)).part_is)))

-- the lower bound is at most the upper one
pub cell_ordered : (marks : List (List ℕ)) (f : List ℕ → ℕ) (slices : List ℕ) → NamesSlices marks slices → low_of f (box marks slices) ≤ high_of f (box marks slices)
cell_ordered marks f slices names = low_at_most_high f (box marks slices) (box_has_vectors marks slices names)
