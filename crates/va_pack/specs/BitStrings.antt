-- Strings of bits as lists, the first bit first.
use Rattle.std.specs.Prelude.{◌≡◌, ℕ, zero, suc, ◌/◌, ◌%◌, List, [], ◌∷◌, ◌++◌, replicate}
use Rattle.std.specs.List.{flat_map}
use Rattle.va_core.specs.Shape.{Shape, IsShape, bits_of}
use Rattle.va_core.specs.Codes.{AreSlices, packed, padding}

-- the last `count` bits of a number, the most significant first
abbrev pub bits_in : ℕ → ℕ → List ℕ
bits_in zero n = []
bits_in (suc count) n = bits_in count (n / 2) ++ n % 2 ∷ []

abbrev pub bits_of_bytes : List ℕ → List ℕ
bits_of_bytes bytes = flat_map (bits_in 8) bytes

-- the bits of the slices from a dimension on
abbrev pub bits_of_slices : Shape → ℕ → List ℕ → List ℕ
bits_of_slices shape dim [] = []
bits_of_slices shape dim (slice ∷ slices) = bits_in (bits_of shape dim) slice ++ bits_of_slices shape (suc dim) slices

-- the bits of a packed code are those of its slices, and then zeros
abbrev pub PacksBits : Type 0
PacksBits = (shape : Shape) (slices : List ℕ) → IsShape shape → AreSlices shape slices →
    bits_of_bytes (packed shape slices) ≡ bits_of_slices shape 0 slices ++ replicate (padding shape) 0
