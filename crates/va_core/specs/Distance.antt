-- The distance of a vector from a query.
use Rattle.std.specs.Prelude.{◌≡◌, ℕ, ◌+◌, ◌*◌, ◌-◌, ◌^◌, ◌<◌, ◌≤◌, min, max, List, [], ◌∷◌, length, map}
use Rattle.std.specs.List.{AllByRecursion}
use Rattle.va_core.specs.declared.pair.Pair.{Pair}
use Rattle.va_core.specs.Places.{Item}
use Rattle.va_core.specs.Vectors.{IsVector}

-- one or more objects, and a weight for each dimension
pub record Query : Type 0 where
  pub objects : List (List ℕ)
  pub weights : List ℕ

-- 1 to 16 objects of so many dimensions, and a weight below 2^16 for each dimension
pub record IsQuery (dims : ℕ) (query : Query) : Type 0 where
  pub some_objects : 1 ≤ length query.objects
  pub most_objects : length query.objects ≤ 16
  pub objects : AllByRecursion (λ object. IsVector dims object) query.objects
  pub one_each : length query.weights ≡ dims
  pub weights : AllByRecursion (λ weight. weight < 2 ^ 16) query.weights

-- the square of the difference
abbrev pub square_gap : ℕ → ℕ → ℕ
square_gap x y = (max x y - min x y) * (max x y - min x y)

-- the sum over the dimensions
abbrev pub object_distance : List ℕ → List ℕ → List ℕ → ℕ
object_distance (w ∷ weights) (q ∷ object) (x ∷ vector) = w * square_gap x q + object_distance weights object vector
object_distance _ _ _ = 0

-- the sum over the objects
abbrev pub objects_distance : List ℕ → List (List ℕ) → List ℕ → ℕ
objects_distance weights [] vector = 0
objects_distance weights (object ∷ objects) vector = object_distance weights object vector + objects_distance weights objects vector

abbrev pub distance : Query → List ℕ → ℕ
distance query vector = objects_distance query.weights query.objects vector

abbrev pub pair_of : Query → Item → Pair
pair_of query item = record { dist = distance query item.vector; id = item.id }

-- the pairs of the items
abbrev pub pairs_of : Query → List Item → List Pair
pairs_of query items = map (pair_of query) items
