-- The marks of a shape, and the slices that they cut the values of each dimension into. (The partition points of the
-- VA-File. Here they are whole numbers, one row for each dimension.)
use Rattle.std.specs.Prelude.{◌≡◌, ℕ, zero, suc, ◌+◌, ◌*◌, ◌-◌, ◌/◌, ◌^◌, ◌<◌, ◌≤◌, nat_lt, nat_le, ◌==◌, Bool, List, [], ◌∷◌, length, get_or, map, count_by, take, drop, Option, None, Some, if◌then◌else◌}
use Rattle.std.specs.List.{range_with_len}
use Rattle.va_core.specs.Shape.{Shape, bits_of}

-- how many of the coordinates are at most v
abbrev pub at_most : ℕ → List ℕ → ℕ
at_most v coordinates = count_by (λ x. nat_le x v) coordinates

-- the least number that passes the test, of the k numbers from v on; v + k where none does
abbrev pub least_from : (ℕ → Bool) → ℕ → ℕ → ℕ
least_from test zero v = v
least_from test (suc k) v = if test v then v else least_from test k (v + 1)

-- Mark t of a dimension of b bits. Over some coordinates it is the least value up to which there are more than t of
-- 2^b equal parts of them. Over none the values are cut evenly.
abbrev pub mark_of : ℕ → List ℕ → ℕ → ℕ
mark_of b coordinates t =
    if t == 0 then 0
    else (if t == 2 ^ b then 256
    else (if length coordinates == 0 then t * 2 ^ (8 - b)
    else least_from (λ v. nat_lt (t * length coordinates / 2 ^ b) (at_most v coordinates)) 256 0))

-- all marks of the dimension
unfoldable pub row_of : ℕ → List ℕ → List ℕ
row_of b coordinates = map (mark_of b coordinates) (range_with_len 0 (2 ^ b + 1))

-- the coordinates of the vectors in a dimension
abbrev pub column : ℕ → List (List ℕ) → List ℕ
column dim vectors = map (λ x. get_or x dim 0) vectors

-- the marks over a list of vectors
unfoldable pub marks_of : Shape → List (List ℕ) → List (List ℕ)
marks_of shape vectors = map (λ dim. row_of (bits_of shape dim) (column dim vectors)) (range_with_len 0 shape.dims)

-- the marks of a dimension begin with 0, rise weakly and end with 256
pub record IsRow (row : List ℕ) : Type 0 where
  pub two : 2 ≤ length row
  pub first : get_or row 0 0 ≡ 0
  pub rises : (t : ℕ) → t + 1 < length row → get_or row t 0 ≤ get_or row (t + 1) 0
  pub last : get_or row (length row - 1) 0 ≡ 256

abbrev pub row_at : List (List ℕ) → ℕ → List ℕ
row_at marks dim = get_or marks dim []

-- a row for each dimension, with a mark more than the dimension has slices
pub record HasShape (shape : Shape) (marks : List (List ℕ)) : Type 0 where
  pub one_each : length marks ≡ shape.dims
  pub counts : (dim : ℕ) → dim < shape.dims → length (row_at marks dim) ≡ 2 ^ bits_of shape dim + 1

abbrev pub AreValid : List (List ℕ) → Type 0
AreValid marks = (dim : ℕ) → dim < length marks → IsRow (row_at marks dim)

-- The slice of a value: how many marks are at most it, but for the first and the last.
abbrev pub slice_of : List ℕ → ℕ → ℕ
slice_of row v = at_most v (take (length row - 2) (drop 1 row))

-- the values of a slice: from its mark up to the next one; where the two are equal there are none
abbrev pub interval : List ℕ → ℕ → Option (ℕ × ℕ)
interval row slice =
    if nat_lt (get_or row slice 0) (get_or row (slice + 1) 0)
    then Some (get_or row slice 0, get_or row (slice + 1) 0 - 1)
    else None

-- the slices of a vector, dimension by dimension
abbrev pub cell : List (List ℕ) → List ℕ → List ℕ
cell (row ∷ marks) (x ∷ vector) = slice_of row x ∷ cell marks vector
cell _ _ = []
