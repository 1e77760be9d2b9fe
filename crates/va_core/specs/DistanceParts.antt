-- The distance of a query, joined from one part for each dimension.
use Rattle.std.specs.Prelude.{ℕ, suc, ◌+◌, ◌*◌, List, [], ◌∷◌, get_or}
use Rattle.va_core.specs.Distance.{Query, square_gap}

abbrev pub added : ℕ → ℕ → ℕ
added a b = a + b

-- what a value in a dimension adds to the distance, over the objects
abbrev pub part_at : ℕ → ℕ → List (List ℕ) → ℕ → ℕ
part_at w dim [] v = 0
part_at w dim (q ∷ objects) v = w * square_gap v (get_or q dim 0) + part_at w dim objects v

-- the parts from a dimension on
abbrev pub parts_from : ℕ → List ℕ → List (List ℕ) → List (ℕ → ℕ)
parts_from dim [] objects = []
parts_from dim (w ∷ weights) objects = part_at w dim objects ∷ parts_from (suc dim) weights objects

abbrev pub parts_of : Query → List (ℕ → ℕ)
parts_of query = parts_from 0 query.weights query.objects

-- the part of one dimension
abbrev pub part_of : Query → ℕ → ℕ → ℕ
part_of query dim = part_at (get_or query.weights dim 0) dim query.objects
