-- How many bits and slices a dimension of a shape can have.
use Rattle.std.proofs.Common.{◌≡◌, ⊎_elim, ℕ, ◌+◌, ◌*◌, ◌/◌, ◌%◌, ◌^◌, ◌≤◌, ◌<◌, Bool, true, false, ltb, if◌then◌else◌, refl, sym, ◌∙◌, ap, arith}
use Rattle.std.proofs.lemmas.Bool.{cases_eq}
use Rattle.std.proofs.Math.Nat.{div-le_of_le-mul, div-add-mod, pow-le-pow_right}
use Rattle.va_core.specs.Shape.{Shape, IsShape, bits_of}

-- where a dimension is left for one bit more, the even share is below 8
less_than_full : (dims share rest bits : ℕ) → dims * share + rest ≡ bits → bits ≤ 8 * dims → 0 < rest → share ≤ 8 → share ≤ 7
less_than_full dims share rest bits is most some le = ⊎_elim
    (λ full. absurd (let e : dims * 8 + rest ≡ bits = ap (λ (s : ℕ). dims * s + rest) (sym full) ∙ is in omega (arith, e)))
    (λ ne. omega (arith, ne))
    (cases_eq share 8)

bits_when : (b : Bool) (dim rest share : ℕ) → ltb dim rest ≡ b → share ≤ 8 → (0 < rest → share ≤ 7) → share + (if b then 1 else 0) ≤ 8
bits_when true dim rest share is le less = let e : share ≤ 7 = less (grind (arith, is)) in omega (arith, e)
bits_when false dim rest share is le less = omega arith

pub bits_within : (shape : Shape) (dim : ℕ) → IsShape shape → bits_of shape dim ≤ 8
bits_within shape dim is =
    let share : shape.bits / shape.dims ≤ 8 = div-le_of_le-mul shape.dims (omega (arith, is.most_bits)) in
    bits_when (ltb dim (shape.bits % shape.dims)) dim (shape.bits % shape.dims) (shape.bits / shape.dims) refl share
    (λ some. less_than_full shape.dims (shape.bits / shape.dims) (shape.bits % shape.dims) shape.bits (div-add-mod shape.bits shape.dims) is.most_bits some share)

pub slices_within : (shape : Shape) (dim : ℕ) → IsShape shape → 2 ^ bits_of shape dim ≤ 256
slices_within shape dim is = pow-le-pow_right {n = 2} (omega arith) {i = bits_of shape dim} {j = 8} (bits_within shape dim is)
