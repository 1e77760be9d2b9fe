-- Packed codes and their numbers: what was written is the code, what was read packs to it, and one cell has it.
use Rattle.std.proofs.Common.{◌≡◌, ℕ, zero, suc, [], ◌∷◌, ◌/◌, ◌+◌, ◌*◌, ◌-◌, ◌%◌, ◌^◌, ◌<◌, List, length, get_or, take, refl, ap, sym, ◌∙◌, arith, add-zero}
use Rattle.std.proofs.lemmas.List.{length-append, take_all}
use Rattle.std.proofs.lemmas.Nat.{same_from_place, pow_pos}
use Rattle.va_core.specs.Shape.{Shape, IsShape, bits_of, code_bytes}
use Rattle.va_core.specs.Codes.{AreSlices, big_endian, packed, padding, string_of}
use Rattle.va_pack.specs.declared.bits.HeldBits.{HeldBits}
use Rattle.va_pack.specs.Held.{AreHeld, HasRead, bits_before, number_of, written}
use Rattle.va_pack.proofs.Shifts.{appended_fits}
use Rattle.va_pack.proofs.Numbers.{big_endian_of_number, number_of_big_endian}
use Rattle.va_pack.proofs.Strings.{bits_below_all, string_below, string_fits, same_slices}
use Rattle.va_pack.proofs.Padding.{padding_of_number}

string_fits_code : (shape : Shape) (slices : List ℕ) → IsShape shape → AreSlices shape slices → string_below shape slices shape.dims * 2 ^ padding shape < 2 ^ (8 * code_bytes shape)
string_fits_code shape slices is are =
    let string : ℕ = string_below shape slices shape.dims in
    let fits : string < 2 ^ shape.bits = rw (bits_below_all shape shape.dims is.some_dims refl) at (string_fits shape slices are shape.dims (omega arith)) in
    let counts : shape.bits + padding shape ≡ 8 * code_bytes shape = omega arith in
    let all : string * 2 ^ padding shape + 0 < 2 ^ (shape.bits + padding shape) = appended_fits string 0 shape.bits (padding shape) fits (pow_pos (padding shape)) in
    rw (add-zero, counts) at all

pub number_of_packed : (shape : Shape) (slices : List ℕ) → IsShape shape → AreSlices shape slices → number_of (packed shape slices) ≡ string_below shape slices shape.dims * 2 ^ padding shape
unfolding packed
number_of_packed shape slices is are =
    let number = λ (all : List ℕ). string_of (bits_of shape) 0 0 all * 2 ^ padding shape in
    ap (λ all. number_of (big_endian (code_bytes shape) (number all))) (sym (take_all shape.dims slices (omega (arith, are.one_each))))
    ∙ number_of_big_endian (code_bytes shape) (string_below shape slices shape.dims * 2 ^ padding shape) (string_fits_code shape slices is are)

-- bytes with the number of a cell's code are that code
pub packed_of_number : (shape : Shape) (slices bytes : List ℕ) → length slices ≡ shape.dims → length bytes ≡ code_bytes shape → ((at : ℕ) → get_or bytes at 0 < 256) → number_of bytes ≡ string_below shape slices shape.dims * 2 ^ padding shape → bytes ≡ packed shape slices
unfolding packed
packed_of_number shape slices bytes one_each counts are same =
    sym (big_endian_of_number (code_bytes shape) bytes counts are)
    ∙ ap (big_endian (code_bytes shape)) same
    ∙ ap (λ all. big_endian (code_bytes shape) (string_of (bits_of shape) 0 0 all * 2 ^ padding shape)) (take_all shape.dims slices (omega (arith, one_each)))

-- what was written is the code, once the slices and the zeros behind them were
pub written_is_packed : (shape : Shape) (slices bytes : List ℕ) (held : HeldBits) → length slices ≡ shape.dims → length bytes ≡ code_bytes shape → ((at : ℕ) → get_or bytes at 0 < 256) → AreHeld held → bits_before held ≡ 8 * code_bytes shape → written held bytes ≡ string_below shape slices shape.dims * 2 ^ padding shape → bytes ≡ packed shape slices
written_is_packed shape slices bytes held one_each counts are is place same =
    let none : held.count ≡ 0 = omega (arith, is.few, place) in
    let value : held.value < 2 ^ 0 = rw none at is.fit in
    let whole : take held.at bytes ≡ bytes = take_all held.at bytes (omega (arith, is.few, place)) in
    let string : number_of (take held.at bytes) * 2 ^ 0 + held.value ≡ string_below shape slices shape.dims * 2 ^ padding shape = rw none at same in
    packed_of_number shape slices bytes one_each counts are (ap number_of (sym whole) ∙ omega (arith, string, value))

-- slices that were read from all bytes pack to them, where no bit that is left over is 1
pub read_is_packed : (shape : Shape) (slices bytes : List ℕ) (held : HeldBits) → IsShape shape → length slices ≡ shape.dims → length bytes ≡ code_bytes shape → ((at : ℕ) → get_or bytes at 0 < 256) → AreHeld held → 8 * held.at ≡ shape.bits + held.count → get_or bytes (code_bytes shape - 1) 0 % 2 ^ padding shape ≡ 0 → HasRead held bytes (string_below shape slices shape.dims) → packed shape slices ≡ bytes
read_is_packed shape slices bytes held is one_each counts are is_held place clear read =
    let string = string_below shape slices shape.dims in
    let left : held.count ≡ padding shape = omega (arith, is_held.few, place) in
    let whole : take held.at bytes ≡ bytes = take_all held.at bytes (omega (arith, is_held.few, place)) in
    let fits : held.value < 2 ^ padding shape = rw left at is_held.fit in
    let same : number_of bytes ≡ string * 2 ^ padding shape + held.value = rw (whole, left) at read in
    let none : held.value ≡ 0 = sym (padding_of_number shape bytes string held.value is counts fits same) ∙ clear in
    sym (packed_of_number shape slices bytes one_each counts are (same ∙ omega (arith, none)))

-- no two cells have one code
pub one_cell : (shape : Shape) (xs ys : List ℕ) → IsShape shape → AreSlices shape xs → AreSlices shape ys → packed shape xs ≡ packed shape ys → xs ≡ ys
one_cell shape xs ys is are_x are_y same =
    let number : string_below shape xs shape.dims * 2 ^ padding shape ≡ string_below shape ys shape.dims * 2 ^ padding shape =
    sym (number_of_packed shape xs is are_x) ∙ ap number_of same ∙ number_of_packed shape ys is are_y in
    let string : string_below shape xs shape.dims ≡ string_below shape ys shape.dims =
    (same_from_place (string_below shape xs shape.dims) 0 (string_below shape ys shape.dims) 0 (2 ^ padding shape)
    (pow_pos (padding shape)) (pow_pos (padding shape)) (omega (arith, number))).0 in
    sym (take_all shape.dims xs (omega (arith, are_x.one_each)))
    ∙ same_slices shape xs ys are_x are_y shape.dims (omega arith) string
    ∙ take_all shape.dims ys (omega (arith, are_y.one_each))

-- a packed code has the bytes of its shape
length-big_endian : (count n : ℕ) → length (big_endian count n) ≡ count
length-big_endian zero n = refl
length-big_endian (suc count) n = length-append (big_endian count (n / 256)) (n % 256 ∷ []) ∙ let rest : length (big_endian count (n / 256)) ≡ count = length-big_endian count (n / 256) in omega (arith, rest)

pub length-packed : (shape : Shape) (slices : List ℕ) → length (packed shape slices) ≡ code_bytes shape
unfolding packed
length-packed shape slices = length-big_endian (code_bytes shape) (string_of (bits_of shape) 0 0 slices * 2 ^ padding shape)

-- in the code of a cell no bit that is left over is 1
pub packed_has_no_padding : (shape : Shape) (slices : List ℕ) → IsShape shape → AreSlices shape slices → length (packed shape slices) ≡ code_bytes shape → get_or (packed shape slices) (code_bytes shape - 1) 0 % 2 ^ padding shape ≡ 0
packed_has_no_padding shape slices is are counts =
    padding_of_number shape (packed shape slices) (string_below shape slices shape.dims) 0 is counts (pow_pos (padding shape)) (rw add-zero (number_of_packed shape slices is are))
