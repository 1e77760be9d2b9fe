-- Distances fit 64 bits.
use Rattle.std.proofs.Common.{◌≡◌, ℕ, ◌*◌, ◌-◌, ◌^◌, ◌<◌, ◌≤◌, min, max, List, [], ◌∷◌, length, mul-le-mul, arith}
use Rattle.std.specs.List.{AllByRecursion}
use Rattle.va_core.specs.Distance.{Query, IsQuery, distance, object_distance, objects_distance, square_gap}
use Rattle.va_core.specs.Vectors.{AreBytes, IsVector}

gap_most : (x y : ℕ) → x < 256 → y < 256 → max x y - min x y ≤ 255
gap_most x y h g = omega (arith, h, g)

square_most : (x y : ℕ) → x < 256 → y < 256 → square_gap x y ≤ 65025
square_most x y h g = let gap : max x y - min x y ≤ 255 = gap_most x y h g in mul-le-mul gap gap

term_most : (w x y : ℕ) → w < 2 ^ 16 → x < 256 → y < 256 → w * square_gap x y ≤ 65535 * 65025
term_most w x y f h g = let most : w ≤ 65535 = omega (arith, f) in mul-le-mul most (square_most x y h g)

object_most : (weights object vector : List ℕ) → AllByRecursion (λ weight. weight < 2 ^ 16) weights → AreBytes object → AreBytes vector →
    object_distance weights object vector ≤ length weights * (65535 * 65025)
object_most [] object vector f h g = omega arith
object_most (w ∷ weights) [] vector f h g = omega arith
object_most (w ∷ weights) (q ∷ object) [] f h g = omega arith
object_most (w ∷ weights) (q ∷ object) (x ∷ vector) f h g =
    let here : w * square_gap x q ≤ 65535 * 65025 = term_most w x q f.0 g.0 h.0 in
    let rest : object_distance weights object vector ≤ length weights * (65535 * 65025) = object_most weights object vector f.1 h.1 g.1 in
    omega (arith, here, rest)

objects_most : (weights : List ℕ) (objects : List (List ℕ)) (vector : List ℕ) → length weights ≤ 256 → AllByRecursion (λ weight. weight < 2 ^ 16) weights →
    AllByRecursion (λ object. AreBytes object) objects → AreBytes vector → objects_distance weights objects vector ≤ length objects * (256 * (65535 * 65025))
objects_most weights [] vector few f h g = omega arith
objects_most weights (object ∷ objects) vector few f h g =
    let here : object_distance weights object vector ≤ length weights * (65535 * 65025) = object_most weights object vector f h.0 g in
    let rest : objects_distance weights objects vector ≤ length objects * (256 * (65535 * 65025)) = objects_most weights objects vector few f h.1 g in
    omega (arith, here, rest, few)

pub objects_bytes : (dims : ℕ) (objects : List (List ℕ)) → AllByRecursion (λ object. IsVector dims object) objects → AllByRecursion (λ object. AreBytes object) objects
objects_bytes dims [] all = tt
objects_bytes dims (object ∷ objects) all = (all.0.bytes, objects_bytes dims objects all.1)

-- a distance over some dimensions is far below 2^64, so that some thousand of them still add up
pub distance_small : (dims : ℕ) (query : Query) (vector : List ℕ) → dims ≤ 256 → IsQuery dims query → AreBytes vector → distance query vector < 2 ^ 44
distance_small dims query vector most fits bytes =
    let count : length query.weights ≡ dims = fits.one_each in
    let few : length query.objects ≤ 16 = fits.most_objects in
    let sum : objects_distance query.weights query.objects vector ≤ length query.objects * (256 * (65535 * 65025)) =
    objects_most query.weights query.objects vector (omega (arith, count, most)) fits.weights (objects_bytes dims query.objects fits.objects) bytes in
    omega (arith, sum, few)

pub distance_fits : (dims : ℕ) (query : Query) (vector : List ℕ) → dims ≤ 256 → IsQuery dims query → AreBytes vector → distance query vector < 2 ^ 64
distance_fits dims query vector most fits bytes = omega (arith, distance_small dims query vector most fits bytes)
