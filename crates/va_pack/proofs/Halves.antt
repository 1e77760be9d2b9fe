-- Codes in which each slice has half a byte, or a whole one.
use Rattle.std.proofs.Common.{◌≡◌, ℕ, zero, suc, ◌+◌, ◌*◌, ◌-◌, ◌/◌, ◌%◌, ◌^◌, ◌<◌, ◌≤◌, List, length, get_or, take, refl, ap, sym, subst, ◌∙◌, arith, ⊎_elim}
use Rattle.std.proofs.lemmas.Bool.{cases_eq, le-ltb}
use Rattle.std.proofs.lemmas.List.{take_all}
use Rattle.std.proofs.lemmas.Nat.{div-mul-add, mod-mul-add}
use Rattle.va_core.specs.Shape.{Shape, IsShape, bits_of, code_bytes}
use Rattle.va_core.specs.Codes.{AreSlices, HasPadding, packed, padding}
use Rattle.va_pack.specs.Halves.{AreHalves}
use Rattle.va_pack.specs.Held.{number_of}
use Rattle.va_pack.proofs.Codes.{packed_of_number}
use Rattle.va_pack.proofs.Numbers.{number_of_more}
use Rattle.va_pack.proofs.Padding.{no_padding}
use Rattle.va_pack.proofs.Strings.{string_below, string_next}

-- where the bits are so many for each dimension, each dimension has so many
even_bits : (shape : Shape) (width : ℕ) → 1 ≤ shape.dims → shape.bits ≡ width * shape.dims → (dim : ℕ) → bits_of shape dim ≡ width
even_bits shape width some is dim =
    let sum : shape.bits ≡ width * shape.dims + 0 = omega arith in
    let each : shape.bits / shape.dims ≡ width = ap (λ n. n / shape.dims) sum ∙ div-mul-add width shape.dims 0 (omega arith) in
    let none : shape.bits % shape.dims ≡ 0 = ap (λ n. n % shape.dims) sum ∙ mod-mul-add width shape.dims 0 (omega arith) in
    rw (each, none, le-ltb dim 0 (omega arith)) (omega arith)

-- a slice of so many bits more
next_slice : (shape : Shape) (width : ℕ) (xs : List ℕ) (dim : ℕ) → ((dim : ℕ) → bits_of shape dim ≡ width) → dim < length xs → string_below shape xs (dim + 1) ≡ string_below shape xs dim * 2 ^ width + get_or xs dim 0
next_slice shape width xs dim even inside =
    string_next shape xs dim inside ∙ ap (λ w. string_below shape xs dim * 2 ^ w + get_or xs dim 0) (even dim)

-- two slices of half a byte are a byte
pairs_read : (shape : Shape) (bytes xs : List ℕ) → ((dim : ℕ) → bits_of shape dim ≡ 4) → AreHalves bytes xs → length xs ≤ 2 * length bytes → (at : ℕ) → 2 * at ≤ length xs → string_below shape xs (2 * at) ≡ number_of (take at bytes)
pairs_read shape bytes xs even are fits zero inside = refl
pairs_read shape bytes xs even are fits (suc at) inside =
    let before : string_below shape xs (2 * at) ≡ number_of (take at bytes) = pairs_read shape bytes xs even are fits at (omega arith) in
    let first = next_slice shape 4 xs (2 * at) even (omega arith) in
    let second = next_slice shape 4 xs (2 * at + 1) even (omega arith) in
    let high = are.high at (omega arith) in
    let low = are.low at (omega arith) in
    let more = number_of_more bytes at (omega arith) in
    let two : 2 * suc at ≡ 2 * at + 1 + 1 = omega arith in
    let one : suc at ≡ at + 1 = omega arith in
    ap (string_below shape xs) two ∙ omega (arith, before, first, second, high, low, more) ∙ ap (λ n. number_of (take n bytes)) (sym one)

halves_fit : (bytes xs : List ℕ) → ((at : ℕ) → get_or bytes at 0 < 256) → AreHalves bytes xs → (dim : ℕ) → dim < length xs → get_or xs dim 0 < 16
halves_fit bytes xs small are dim inside =
    let at = dim / 2 in
    let byte = small at in
    ⊎_elim
    (λ (even : dim % 2 ≡ 0). let is : 2 * at ≡ dim = omega arith in
    let high : get_or xs dim 0 ≡ get_or bytes at 0 / 16 = subst (λ n. get_or xs n 0 ≡ get_or bytes at 0 / 16) is (are.high at (omega arith)) in
    omega (arith, high, byte))
    (λ (odd : dim % 2 ≡ 0 → ⊥). let is : 2 * at + 1 ≡ dim = omega arith in
    let low : get_or xs dim 0 ≡ get_or bytes at 0 % 16 = subst (λ n. get_or xs n 0 ≡ get_or bytes at 0 % 16) is (are.low at (omega arith)) in
    omega (arith, low))
    (cases_eq (dim % 2) 0)

pub halves_are_slices : (shape : Shape) (bytes xs : List ℕ) → IsShape shape → shape.bits ≡ 4 * shape.dims → length xs ≡ shape.dims → ((at : ℕ) → get_or bytes at 0 < 256) → AreHalves bytes xs → AreSlices shape xs
halves_are_slices shape bytes xs is bits one_each small are = record {
  one_each = one_each;
  fit = λ dim inside. subst (λ w. get_or xs dim 0 < 2 ^ w) (sym (even_bits shape 4 is.some_dims bits dim)) (halves_fit bytes xs small are dim (omega arith));
}

-- the number of the bytes, where their last half is left over or not
halves_number : (shape : Shape) (bytes xs : List ℕ) → ((dim : ℕ) → bits_of shape dim ≡ 4) → shape.bits ≡ 4 * shape.dims → length xs ≡ shape.dims → length bytes ≡ code_bytes shape → get_or bytes (code_bytes shape - 1) 0 % 2 ^ padding shape ≡ 0 → AreHalves bytes xs → number_of bytes ≡ string_below shape xs shape.dims * 2 ^ padding shape
halves_number shape bytes xs even bits one_each whole clear are =
    let at = shape.dims / 2 in
    let fits : length xs ≤ 2 * length bytes = omega arith in
    let pairs : string_below shape xs (2 * at) ≡ number_of (take at bytes) = pairs_read shape bytes xs even are fits at (omega arith) in
    ⊎_elim
    (λ (two : shape.dims % 2 ≡ 0).
    let all : 2 * at ≡ shape.dims = omega arith in
    let none : padding shape ≡ 0 = omega arith in
    let bytes_all : take at bytes ≡ bytes = take_all at bytes (omega arith) in
    let string : string_below shape xs shape.dims ≡ number_of bytes = ap (string_below shape xs) (sym all) ∙ pairs ∙ ap number_of bytes_all in
    rw none (omega (arith, string)))
    (λ (odd : shape.dims % 2 ≡ 0 → ⊥).
    let all : 2 * at + 1 ≡ shape.dims = omega arith in
    let four : padding shape ≡ 4 = omega arith in
    let last : code_bytes shape - 1 ≡ at = omega arith in
    let zeros : get_or bytes at 0 % 2 ^ 4 ≡ 0 = rw (last, four) at clear in
    let high = are.high at (omega arith) in
    let next = next_slice shape 4 xs (2 * at) even (omega arith) in
    let more = number_of_more bytes at (omega arith) in
    let bytes_all : take (at + 1) bytes ≡ bytes = take_all (at + 1) bytes (omega arith) in
    let string : string_below shape xs shape.dims ≡ string_below shape xs (2 * at + 1) = ap (string_below shape xs) (sym all) in
    ap number_of (sym bytes_all) ∙ rw four (omega (arith, zeros, high, next, more, pairs, string)))
    (cases_eq (shape.dims % 2) 0)

pub halves_packed : (shape : Shape) (bytes xs : List ℕ) → IsShape shape → shape.bits ≡ 4 * shape.dims → length xs ≡ shape.dims → length bytes ≡ code_bytes shape → ((at : ℕ) → get_or bytes at 0 < 256) → (HasPadding shape bytes → ⊥) → AreHalves bytes xs → packed shape xs ≡ bytes
halves_packed shape bytes xs is bits one_each whole small clear are =
    sym (packed_of_number shape xs bytes one_each whole small
    (halves_number shape bytes xs (even_bits shape 4 is.some_dims bits) bits one_each whole (no_padding shape bytes clear) are))

-- slices of a whole byte are the bytes
bytes_read : (shape : Shape) (xs : List ℕ) → ((dim : ℕ) → bits_of shape dim ≡ 8) → (dim : ℕ) → dim ≤ length xs → string_below shape xs dim ≡ number_of (take dim xs)
bytes_read shape xs even zero inside = refl
bytes_read shape xs even (suc dim) inside =
    let before : string_below shape xs dim ≡ number_of (take dim xs) = bytes_read shape xs even dim (omega arith) in
    let next = next_slice shape 8 xs dim even (omega arith) in
    let more = number_of_more xs dim (omega arith) in
    let one : suc dim ≡ dim + 1 = omega arith in
    ap (string_below shape xs) one ∙ omega (arith, before, next, more) ∙ ap (λ n. number_of (take n xs)) (sym one)

pub bytes_are_slices : (shape : Shape) (xs : List ℕ) → IsShape shape → shape.bits ≡ 8 * shape.dims → length xs ≡ shape.dims → ((at : ℕ) → get_or xs at 0 < 256) → AreSlices shape xs
bytes_are_slices shape xs is bits one_each small = record {
  one_each = one_each;
  fit = λ dim inside. subst (λ w. get_or xs dim 0 < 2 ^ w) (sym (even_bits shape 8 is.some_dims bits dim)) (small dim);
}

pub bytes_packed : (shape : Shape) (xs : List ℕ) → IsShape shape → shape.bits ≡ 8 * shape.dims → length xs ≡ shape.dims → ((at : ℕ) → get_or xs at 0 < 256) → packed shape xs ≡ xs
bytes_packed shape xs is bits one_each small =
    let none : padding shape ≡ 0 = omega arith in
    let string = bytes_read shape xs (even_bits shape 8 is.some_dims bits) shape.dims (omega arith) in
    let all : take shape.dims xs ≡ xs = take_all shape.dims xs (omega arith) in
    let number : string_below shape xs shape.dims ≡ number_of xs = string ∙ ap number_of all in
    sym (packed_of_number shape xs xs one_each (omega arith) small (rw none (omega (arith, number))))
