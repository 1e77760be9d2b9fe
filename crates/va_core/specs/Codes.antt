-- Packed codes: the slices of a cell as a string of bits, dimension 0 first, each slice with its most significant bit
-- first, and then zero bits up to a whole byte.
use Rattle.std.specs.Prelude.{◌≡◌, ℕ, zero, suc, ◌+◌, ◌*◌, ◌-◌, ◌/◌, ◌%◌, ◌^◌, ◌<◌, List, [], ◌∷◌, ◌++◌, length, get_or}
use Rattle.va_core.specs.Shape.{Shape, bits_of, code_bytes}

-- one slice for each dimension, each in the bits of its dimension
pub record AreSlices (shape : Shape) (slices : List ℕ) : Type 0 where
  pub one_each : length slices ≡ shape.dims
  pub fit : (dim : ℕ) → dim < shape.dims → get_or slices dim 0 < 2 ^ bits_of shape dim

-- A string of bits is read as a binary number. To the string n the slices from a dimension on are added at its end.
abbrev pub string_of : (ℕ → ℕ) → ℕ → ℕ → List ℕ → ℕ
string_of bits dim n [] = n
string_of bits dim n (slice ∷ slices) = string_of bits (suc dim) (n * 2 ^ bits dim + slice) slices

-- the bits that are left over in the last byte
abbrev pub padding : Shape → ℕ
padding shape = 8 * code_bytes shape - shape.bits

-- a number in so many bytes, the most significant first
abbrev pub big_endian : ℕ → ℕ → List ℕ
big_endian zero n = []
big_endian (suc count) n = big_endian count (n / 256) ++ n % 256 ∷ []

unfoldable pub packed : Shape → List ℕ → List ℕ
packed shape slices = big_endian (code_bytes shape) (string_of (bits_of shape) 0 0 slices * 2 ^ padding shape)

-- a bit that is left over in the last byte is 1
abbrev pub HasPadding : Shape → List ℕ → Type 0
HasPadding shape bytes = get_or bytes (code_bytes shape - 1) 0 % 2 ^ padding shape ≡ 0 → ⊥
