-- The slices that a packed code names.
use Rattle.std.specs.Prelude.{◌≡◌, ℕ, zero, suc, ◌/◌, ◌%◌, ◌^◌, List, [], ◌∷◌, ◌++◌}
use Rattle.va_core.specs.Cells.{NamesSlices}
use Rattle.va_core.specs.Codes.{AreSlices, packed, padding}
use Rattle.va_core.specs.Shape.{Shape, bits_of}
use Rattle.va_pack.specs.Held.{number_of}

-- the slices of the first dimensions in a string of bits, which is read as a binary number
abbrev pub slices_in : (ℕ → ℕ) → ℕ → ℕ → List ℕ
slices_in bits zero n = []
slices_in bits (suc dim) n = slices_in bits dim (n / 2 ^ bits dim) ++ n % 2 ^ bits dim ∷ []

unfoldable pub unpacked : Shape → List ℕ → List ℕ
unpacked shape bytes = slices_in (bits_of shape) shape.dims (number_of bytes / 2 ^ padding shape)

-- bytes are a packed code, and none of its slices is empty under these marks
pub record IsNamed (shape : Shape) (marks : List (List ℕ)) (bytes : List ℕ) : Type 0 where
  pub are : AreSlices shape (unpacked shape bytes)
  pub same : packed shape (unpacked shape bytes) ≡ bytes
  pub names : NamesSlices marks (unpacked shape bytes)
