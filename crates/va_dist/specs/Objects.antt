-- The objects of a query as bytes, one after another.
use Rattle.std.specs.Prelude.{◌≡◌, ℕ, zero, suc, ◌*◌, ◌≤◌, List, [], ◌∷◌, length, take, drop}
use Rattle.va_core.specs.Distance.{Query, IsQuery}

-- so many objects of `dims` bytes each
abbrev pub objects_in : ℕ → ℕ → List ℕ → List (List ℕ)
objects_in dims zero bytes = []
objects_in dims (suc count) bytes = take dims bytes ∷ objects_in dims count (drop dims bytes)

abbrev pub query_in : ℕ → List ℕ → List ℕ → Query
query_in count bytes weights = record { objects = objects_in (length weights) count bytes; weights = weights }

-- the bytes are those of so many objects, and there is room for 16
pub record HoldsQuery (count : ℕ) (bytes weights : List ℕ) (capacity : ℕ) : Type 0 where
  pub query : IsQuery (length weights) (query_in count bytes weights)
  pub few : count ≤ 16
  pub some_dims : 1 ≤ length weights
  pub most_dims : length weights ≤ 256
  pub filled : length bytes ≡ count * length weights
  pub room : 16 * length weights ≤ capacity
