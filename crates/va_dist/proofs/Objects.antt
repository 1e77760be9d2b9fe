-- Objects that stand one after another in bytes.
use Rattle.std.proofs.Common.{◌≡◌, ℕ, zero, suc, ◌+◌, ◌*◌, ◌^◌, ◌<◌, ◌≤◌, List, [], ◌∷◌, ◌++◌, Some, slice_get, length, take, drop, get_or, refl, ap, ◌∙◌, take_all, arith}
use Rattle.std.specs.List.{AllByRecursion}
use Rattle.std.proofs.lemmas.List.{drop-drop, drop-append-le, take-append-le, drop_all, length-drop}
use Rattle.std.proofs.Math.Nat.{mul-le-mul_left}
use Rattle.va_core.specs.Distance.{IsQuery, square_gap, objects_distance, object_distance}
use Rattle.va_core.specs.DistanceParts.{part_at}
use Rattle.va_core.specs.Vectors.{IsVector}
use Rattle.va_core.proofs.Members.{all_append}
use Rattle.va_dist.specs.Objects.{objects_in, query_in}

pub objects_count : (dims count : ℕ) (bytes : List ℕ) → length (objects_in dims count bytes) ≡ count
objects_count dims zero bytes = refl
objects_count dims (suc count) bytes = ap suc (objects_count dims count (drop dims bytes))

-- where an object stands
pub object_at : (dims count i : ℕ) (bytes : List ℕ) → i < count → slice_get (objects_in dims count bytes) i ≡ Some (take dims (drop (i * dims) bytes))
object_at dims zero i bytes h = absurd (omega (arith, h))
object_at dims (suc count) zero bytes h = let none : 0 * dims ≡ 0 = omega arith in rw none refl
object_at dims (suc count) (suc i) bytes h =
    let place : dims + i * dims ≡ suc i * dims = omega arith in
    object_at dims count i (drop dims bytes) (omega (arith, h))
    ∙ ap (λ (xs : List ℕ). Some (take dims xs)) (drop-drop (i * dims) dims bytes ∙ ap (λ (n : ℕ). drop n bytes) place)

pub object_inside : (dims count i : ℕ) → i < count → i * dims + dims ≤ count * dims
object_inside dims zero i h = absurd (omega (arith, h))
object_inside dims (suc count) zero h = omega arith
object_inside dims (suc count) (suc i) h = let rest : i * dims + dims ≤ count * dims = object_inside dims count i (omega (arith, h)) in omega (arith, rest)

-- one object more
pub objects_more : (dims count : ℕ) (bytes object : List ℕ) → length bytes ≡ count * dims → length object ≡ dims → objects_in dims (count + 1) (bytes ++ object) ≡ objects_in dims count bytes ++ object ∷ []
objects_more dims zero [] object len is = ap (λ (xs : List ℕ). xs ∷ []) (take_all dims object (omega (arith, is)))
objects_more dims zero (x ∷ bytes) object len is = absurd (omega (arith, len))
objects_more dims (suc count) bytes object len is =
    let first : take dims (bytes ++ object) ≡ take dims bytes = take-append-le dims bytes object (omega (arith, len)) in
    let behind : drop dims (bytes ++ object) ≡ drop dims bytes ++ object = drop-append-le dims bytes object (omega (arith, len)) in
    let left : length (drop dims bytes) ≡ count * dims = omega (arith, length-drop dims bytes, len) in
    let rest : objects_in dims (count + 1) (drop dims bytes ++ object) ≡ objects_in dims count (drop dims bytes) ++ object ∷ [] = objects_more dims count (drop dims bytes) object left is in
    let more : suc count + 1 ≡ suc (count + 1) = omega arith in
    rw (more, first, behind, rest) refl

-- the distance from the objects that are left, once one was counted
pub objects_step : (weights : List ℕ) (objects : List (List ℕ)) (i : ℕ) (object vector : List ℕ) → slice_get objects i ≡ Some object →
    objects_distance weights (drop i objects) vector ≡ object_distance weights object vector + objects_distance weights (drop (i + 1) objects) vector
objects_step weights [] i object vector h = cc
objects_step weights (first ∷ objects) zero object vector h = let e : first ≡ object = cc in rw e refl
objects_step weights (first ∷ objects) (suc i) object vector h =
    let more : suc i + 1 ≡ suc (i + 1) = omega arith in
    rw more (objects_step weights objects i object vector h)

pub none_left : (weights : List ℕ) (objects : List (List ℕ)) (i : ℕ) (vector : List ℕ) → length objects ≤ i → objects_distance weights (drop i objects) vector ≡ 0
none_left weights objects i vector h = rw (drop_all i objects h) refl

-- a query that takes one object more
pub query_more : (count : ℕ) (bytes object weights : List ℕ) → IsQuery (length weights) (query_in count bytes weights) → count < 16 → length bytes ≡ count * length weights → IsVector (length weights) object →
    IsQuery (length weights) (query_in (count + 1) (bytes ++ object) weights)
query_more count bytes object weights is few len fits =
    let more : objects_in (length weights) (count + 1) (bytes ++ object) ≡ objects_in (length weights) count bytes ++ object ∷ [] = objects_more (length weights) count bytes object len fits.one_each in
    let n : length (objects_in (length weights) (count + 1) (bytes ++ object)) ≡ count + 1 = objects_count (length weights) (count + 1) (bytes ++ object) in
    record {
      some_objects = omega (arith, n);
      most_objects = omega (arith, n, few);
      objects = rw more (all_append (λ o. IsVector (length weights) o) (objects_in (length weights) count bytes) (object ∷ []) is.objects (fits, tt));
      one_each = is.one_each;
      weights = is.weights;
    }

-- and a first one
pub query_of_one : (object weights : List ℕ) → IsVector (length weights) object → AllByRecursion (λ w. w < 2 ^ 16) weights → IsQuery (length weights) (query_in 1 object weights)
query_of_one object weights fits small =
    let first : take (length weights) object ≡ object = take_all (length weights) object (omega (arith, fits.one_each)) in
    record {
      some_objects = omega arith;
      most_objects = omega arith;
      objects = (rw first fits, tt);
      one_each = refl;
      weights = small;
    }

-- the part of a dimension from the objects that are left, once one was counted
pub part_step : (w dim value : ℕ) (objects : List (List ℕ)) (i : ℕ) (object : List ℕ) → slice_get objects i ≡ Some object →
    part_at w dim (drop i objects) value ≡ w * square_gap value (get_or object dim 0) + part_at w dim (drop (i + 1) objects) value
part_step w dim value [] i object h = cc
part_step w dim value (first ∷ objects) zero object h = let e : first ≡ object = cc in rw e refl
part_step w dim value (first ∷ objects) (suc i) object h =
    let more : suc i + 1 ≡ suc (i + 1) = omega arith in
    rw more (part_step w dim value objects i object h)

pub no_part_left : (w dim value : ℕ) (objects : List (List ℕ)) (i : ℕ) → length objects ≤ i → part_at w dim (drop i objects) value ≡ 0
no_part_left w dim value objects i h = rw (drop_all i objects h) refl

pub product_most : (weight gap : ℕ) → weight < 65536 → gap ≤ 65025 → weight * gap ≤ 65535 * 65025
product_most weight gap h g = let up : weight * gap ≤ weight * 65025 = mul-le-mul_left weight g in omega (arith, up, h)
