-- The bits that are left over in the last byte.
use Rattle.std.proofs.Common.{◌≡◌, ℕ, ◌+◌, ◌*◌, ◌-◌, ◌/◌, ◌%◌, ◌^◌, ◌<◌, ◌≤◌, List, length, get_or, take, ap, sym, ◌∙◌, arith, ⊎_elim}
use Rattle.std.proofs.lemmas.Bool.{cases_eq}
use Rattle.std.proofs.lemmas.List.{take_all}
use Rattle.std.proofs.lemmas.Nat.{pow-add, pow_pos, shr_split, mod_below, mod-mul-add}
use Rattle.va_core.specs.Shape.{Shape, IsShape, code_bytes}
use Rattle.va_core.specs.Codes.{HasPadding, padding}
use Rattle.va_pack.specs.Held.{number_of}
use Rattle.va_pack.proofs.Numbers.{number_of_more}

-- the last bits of a number are those of its last byte
low_of_last : (front byte padding : ℕ) → padding ≤ 8 → (front * 256 + byte) % 2 ^ padding ≡ byte % 2 ^ padding
low_of_last front byte padding few =
    let counts : 8 - padding + padding ≡ 8 = omega arith in
    let power : 2 ^ (8 - padding + padding) ≡ 2 ^ (8 - padding) * 2 ^ padding = pow-add 2 (8 - padding) padding in
    let power' : 2 ^ 8 ≡ 2 ^ (8 - padding) * 2 ^ padding = rw counts at power in
    let parts : byte / 2 ^ padding * 2 ^ padding + byte % 2 ^ padding ≡ byte = shr_split byte padding in
    let moved : front * 2 ^ 8 ≡ front * (2 ^ (8 - padding) * 2 ^ padding) = ap (λ x. front * x) power' in
    let all : front * 256 + byte ≡ (front * 2 ^ (8 - padding) + byte / 2 ^ padding) * 2 ^ padding + byte % 2 ^ padding = omega arith in
    ap (λ n. n % 2 ^ padding) all
    ∙ mod-mul-add (front * 2 ^ (8 - padding) + byte / 2 ^ padding) (2 ^ padding) (byte % 2 ^ padding) (mod_below byte (2 ^ padding) (pow_pos padding))

padding_value : (front byte n value padding : ℕ) → padding ≤ 8 → value < 2 ^ padding → front * 256 + byte ≡ n * 2 ^ padding + value → byte % 2 ^ padding ≡ value
padding_value front byte n value padding few fits same =
    sym (low_of_last front byte padding few) ∙ ap (λ m. m % 2 ^ padding) same ∙ mod-mul-add n (2 ^ padding) value fits

-- where bytes are a string and then `value` in the bits that are left over, those bits of the last byte are `value`
pub padding_of_number : (shape : Shape) (bytes : List ℕ) (n value : ℕ) → IsShape shape → length bytes ≡ code_bytes shape → value < 2 ^ padding shape → number_of bytes ≡ n * 2 ^ padding shape + value → get_or bytes (code_bytes shape - 1) 0 % 2 ^ padding shape ≡ value
padding_of_number shape bytes n value is counts fits same =
    let some : 1 ≤ shape.bits = is.some_bits in
    let last = code_bytes shape - 1 in
    let inside : last < length bytes = omega arith in
    let whole : take (last + 1) bytes ≡ bytes = take_all (last + 1) bytes (omega arith) in
    padding_value (number_of (take last bytes)) (get_or bytes last 0) n value (padding shape) (omega arith) fits
    (sym (number_of_more bytes last inside) ∙ ap number_of whole ∙ same)

pub no_padding : (shape : Shape) (bytes : List ℕ) → (HasPadding shape bytes → ⊥) → get_or bytes (code_bytes shape - 1) 0 % 2 ^ padding shape ≡ 0
no_padding shape bytes none =
    let low = get_or bytes (code_bytes shape - 1) 0 % 2 ^ padding shape in
    ⊎_elim (λ (zero : low ≡ 0). zero) (λ (some : low ≡ 0 → ⊥). absurd (none some)) (cases_eq low 0)
