-- Worked examples of strings of bits, computed from the definitions.
use Rattle.std.proofs.Common.{◌≡◌, [], ◌∷◌, refl}
use Rattle.va_pack.specs.BitStrings.{bits_in, bits_of_bytes, bits_of_slices}

of_three_bits : bits_in 3 6 ≡ 1 ∷ 1 ∷ 0 ∷ []
of_three_bits = refl

of_a_byte : bits_of_bytes (0xA0 ∷ []) ≡ 1 ∷ 0 ∷ 1 ∷ 0 ∷ 0 ∷ 0 ∷ 0 ∷ 0 ∷ []
of_a_byte = refl

of_two_slices : bits_of_slices (record { dims = 2; bits = 3; capacity = 4 }) 0 (2 ∷ 1 ∷ []) ≡ 1 ∷ 0 ∷ 1 ∷ []
of_two_slices = refl
