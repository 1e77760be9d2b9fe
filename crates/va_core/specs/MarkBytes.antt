-- Marks as bytes: dimension after dimension, each mark in two bytes, the greater first.
use Rattle.std.specs.Prelude.{ℕ, ◌+◌, ◌*◌, ◌/◌, ◌%◌, ◌^◌, ◌<◌, List, [], ◌∷◌, get_or, map}
use Rattle.std.specs.List.{flat_map, range_with_len}
use Rattle.va_core.specs.Shape.{Shape, bits_of, sum_below}
use Rattle.va_core.specs.Marks.{IsRow}

-- a dimension has as many slices as its bits can name, and one mark more, each of two bytes
abbrev pub row_len : Shape → ℕ → ℕ
row_len shape dim = 2 * (2 ^ bits_of shape dim + 1)

-- where the marks of a dimension begin
abbrev pub row_begin : Shape → ℕ → ℕ
row_begin shape dim = sum_below (row_len shape) dim

unfoldable pub marks_len : Shape → ℕ
marks_len shape = row_begin shape shape.dims

abbrev pub two_bytes : ℕ → List ℕ
two_bytes mark = mark / 256 ∷ mark % 256 ∷ []

abbrev pub row_bytes : List ℕ → List ℕ
row_bytes row = flat_map two_bytes row

abbrev pub marks_bytes : List (List ℕ) → List ℕ
marks_bytes marks = flat_map row_bytes marks

-- the mark that stands at an offset
abbrev pub mark_in : List ℕ → ℕ → ℕ
mark_in bytes at = get_or bytes at 0 * 256 + get_or bytes (at + 1) 0

-- so many marks from an offset on
abbrev pub row_in : List ℕ → ℕ → ℕ → List ℕ
row_in bytes at count = map (λ t. mark_in bytes (at + 2 * t)) (range_with_len 0 count)

-- the marks of a dimension, and those of all dimensions, as they stand in the bytes
abbrev pub row_read : Shape → List ℕ → ℕ → List ℕ
row_read shape bytes dim = row_in bytes (row_begin shape dim) (2 ^ bits_of shape dim + 1)

unfoldable pub marks_read : Shape → List ℕ → List (List ℕ)
marks_read shape bytes = map (row_read shape bytes) (range_with_len 0 shape.dims)

-- the first dimension whose marks aren't valid
pub record IsFirstInvalid (shape : Shape) (bytes : List ℕ) (dim : ℕ) : Type 0 where
  pub a_dimension : dim < shape.dims
  pub invalid : IsRow (row_read shape bytes dim) → ⊥
  pub valid_before : (other : ℕ) → other < dim → IsRow (row_read shape bytes other)
