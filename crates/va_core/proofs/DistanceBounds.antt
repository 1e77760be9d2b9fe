-- The bounds of a distance over a box are the sums of the extreme parts.
use Rattle.std.proofs.Common.{◌≡◌, ℕ, suc, ◌+◌, ◌*◌, ◌≤◌, ◌<◌, List, [], ◌∷◌, length, drop, get_or, map, drop-cons, refl, ap, ◌∙◌, arith}
use Rattle.std.specs.List.{AllByRecursion}
use Rattle.va_core.specs.Boxes.{Span, low_of, high_of}
use Rattle.va_core.specs.Distance.{Query, distance, square_gap, object_distance, objects_distance}
use Rattle.va_core.specs.Parts.{joined, joined_least, joined_greatest, IsJoin, HasVectors}
use Rattle.va_core.specs.DistanceParts.{added, part_at, parts_from}
use Rattle.va_core.proofs.PartBounds.{low_is_joined, high_is_joined}
use Rattle.va_core.proofs.Pointwise.{low_of_same, high_of_same}

pub sum_is_join : IsJoin added
sum_is_join = record { rises = λ a b c d h g. let e : a + b ≤ c + d = omega (arith, h, g) in e }

object_at_none : (ws o : List ℕ) → object_distance ws o [] ≡ 0
object_at_none [] o = refl
object_at_none (w ∷ ws) [] = refl
object_at_none (w ∷ ws) (q ∷ o) = refl

none_at_none : (ws : List ℕ) (objects : List (List ℕ)) → objects_distance ws objects [] ≡ 0
none_at_none ws [] = refl
none_at_none ws (o ∷ objects) = let a : object_distance ws o [] ≡ 0 = object_at_none ws o in let b : objects_distance ws objects [] ≡ 0 = none_at_none ws objects in omega (arith, a, b)

none_unweighted : (objects : List (List ℕ)) (x : List ℕ) → objects_distance [] objects x ≡ 0
none_unweighted [] x = refl
none_unweighted (o ∷ objects) x = let b : objects_distance [] objects x ≡ 0 = none_unweighted objects x in omega (arith, b)

-- each object has the numbers of so many dimensions
abbrev pub HaveDims : ℕ → List (List ℕ) → Type 0
HaveDims dims objects = AllByRecursion (λ o. length o ≡ dims) objects

object_step : (w v dim : ℕ) (ws o x : List ℕ) → dim < length o → object_distance (w ∷ ws) (drop dim o) (v ∷ x) ≡ w * square_gap v (get_or o dim 0) + object_distance ws (drop (suc dim) o) x
object_step w v dim ws o x h = rw (drop-cons o dim 0 h) refl

-- sums of two lists in turn
objects_step : (w v dim : ℕ) (ws x : List ℕ) (objects : List (List ℕ)) → HaveDims (dim + suc (length ws)) objects →
    objects_distance (w ∷ ws) (map (drop dim) objects) (v ∷ x) ≡ part_at w dim objects v + objects_distance ws (map (drop (suc dim)) objects) x
objects_step w v dim ws x [] h = refl
objects_step w v dim ws x (o ∷ objects) h =
    let len : length o ≡ dim + suc (length ws) = h.0 in
    let here : object_distance (w ∷ ws) (drop dim o) (v ∷ x) ≡ w * square_gap v (get_or o dim 0) + object_distance ws (drop (suc dim) o) x = object_step w v dim ws o x (omega (arith, len)) in
    let rest : objects_distance (w ∷ ws) (map (drop dim) objects) (v ∷ x) ≡ part_at w dim objects v + objects_distance ws (map (drop (suc dim)) objects) x = objects_step w v dim ws x objects h.1 in
    rw (here, rest) (omega arith)

have_more : (dim n : ℕ) (objects : List (List ℕ)) → HaveDims (dim + suc n) objects → HaveDims (suc dim + n) objects
have_more dim n [] h = tt
have_more dim n (o ∷ objects) h = (let e : length o ≡ dim + suc n = h.0 in omega (arith, e), have_more dim n objects h.1)

pub joined_sum : (a dim : ℕ) (ws x : List ℕ) (objects : List (List ℕ)) → HaveDims (dim + length ws) objects →
    joined added a (parts_from dim ws objects) x ≡ a + objects_distance ws (map (drop dim) objects) x
joined_sum a dim [] x objects h = let e : objects_distance [] (map (drop dim) objects) x ≡ 0 = none_unweighted (map (drop dim) objects) x in omega (arith, e)
joined_sum a dim (w ∷ ws) [] objects h = let e : objects_distance (w ∷ ws) (map (drop dim) objects) [] ≡ 0 = none_at_none (w ∷ ws) (map (drop dim) objects) in omega (arith, e)
joined_sum a dim (w ∷ ws) (v ∷ x) objects h =
    let rest : joined added (a + part_at w dim objects v) (parts_from (suc dim) ws objects) x ≡ (a + part_at w dim objects v) + objects_distance ws (map (drop (suc dim)) objects) x =
    joined_sum (a + part_at w dim objects v) (suc dim) ws x objects (have_more dim (length ws) objects h) in
    let step : objects_distance (w ∷ ws) (map (drop dim) objects) (v ∷ x) ≡ part_at w dim objects v + objects_distance ws (map (drop (suc dim)) objects) x = objects_step w v dim ws x objects h in
    omega (arith, rest, step)

drop_none : (objects : List (List ℕ)) → map (drop 0) objects ≡ objects
drop_none [] = refl
drop_none (o ∷ objects) = ap (λ os. o ∷ os) (drop_none objects)

zero_more : (n : ℕ) (objects : List (List ℕ)) → HaveDims n objects → HaveDims (0 + n) objects
zero_more n [] h = tt
zero_more n (o ∷ objects) h = (let e : length o ≡ n = h.0 in omega (arith, e), zero_more n objects h.1)

pub distance_joined : (q : Query) → HaveDims (length q.weights) q.objects → (x : List ℕ) → distance q x ≡ joined added 0 (parts_from 0 q.weights q.objects) x
distance_joined q h x =
    let e : joined added 0 (parts_from 0 q.weights q.objects) x ≡ 0 + objects_distance q.weights (map (drop 0) q.objects) x = joined_sum 0 0 q.weights x q.objects (zero_more (length q.weights) q.objects h) in
    let d : objects_distance q.weights (map (drop 0) q.objects) x ≡ distance q x = ap (λ os. objects_distance q.weights os x) (drop_none q.objects) in
    omega (arith, e, d)

pub distance_low : (q : Query) (box : List Span) → HaveDims (length q.weights) q.objects → HasVectors box → low_of (distance q) box ≡ joined_least added 0 (parts_from 0 q.weights q.objects) box
distance_low q box h v = low_of_same (distance q) (joined added 0 (parts_from 0 q.weights q.objects)) (distance_joined q h) box ∙ low_is_joined added sum_is_join 0 (parts_from 0 q.weights q.objects) box v

pub distance_high : (q : Query) (box : List Span) → HaveDims (length q.weights) q.objects → HasVectors box → high_of (distance q) box ≡ joined_greatest added 0 (parts_from 0 q.weights q.objects) box
distance_high q box h v = high_of_same (distance q) (joined added 0 (parts_from 0 q.weights q.objects)) (distance_joined q h) box ∙ high_is_joined added sum_is_join 0 (parts_from 0 q.weights q.objects) box v
