-- The slices that a packed code gives.
use Rattle.std.specs.Prelude.{ℕ, ◌+◌, Bool, true, false, ◌&&◌, ◌==◌, nat_lt, List, [], ◌∷◌, get_or, replicate, if◌then◌else◌}
use Rattle.va_core.specs.Codes.{packed}
use Rattle.va_core.specs.Marks.{cell}
use Rattle.va_core.specs.Shape.{Shape}
use Rattle.va_pack.specs.Unpacked.{unpacked}

-- the same numbers in the same order
abbrev pub are_same : List ℕ → List ℕ → Bool
are_same [] [] = true
are_same (x ∷ xs) (y ∷ ys) = x == y && are_same xs ys
are_same _ _ = false

-- a slice for each dimension, and none of them is empty
abbrev pub have_values : List (List ℕ) → List ℕ → Bool
have_values [] [] = true
have_values (row ∷ marks) (slice ∷ slices) = nat_lt (get_or row slice 0) (get_or row (slice + 1) 0) && have_values marks slices
have_values _ _ = false

-- whether a packed code names a cell: no bit of its padding is 1, and none of its slices is empty
abbrev pub is_cell_code : Shape → List (List ℕ) → List ℕ → Bool
is_cell_code shape marks code = are_same (packed shape (unpacked shape code)) code && have_values marks (unpacked shape code)

-- the slices of a packed code, and where it names no cell those of the vector of zeros
abbrev pub slices_of : Shape → List (List ℕ) → List ℕ → List ℕ
slices_of shape marks code = if is_cell_code shape marks code then unpacked shape code else cell marks (replicate shape.dims 0)
