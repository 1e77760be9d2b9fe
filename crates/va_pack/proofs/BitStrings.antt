-- The bits of numbers, and of packed codes.
use Rattle.std.proofs.Common.{◌≡◌, ℕ, zero, suc, ◌+◌, ◌*◌, ◌/◌, ◌%◌, ◌^◌, ◌<◌, ◌≤◌, List, [], ◌∷◌, ◌++◌, length, get_or, take, replicate, refl, ap, sym, ◌∙◌, arith, add-zero, add-one}
use Rattle.std.proofs.lemmas.Grind.{flat_map-append}
use Rattle.std.proofs.lemmas.List.{append_assoc, append-nil, replicate_more, take_all, take_more, length-take-le}
use Rattle.std.proofs.lemmas.Nat.{pow_pos, shr-shr, shr_high}
use Rattle.std.proofs.Math.Nat.{pow-succ'}
use Rattle.va_core.specs.Shape.{Shape, bits_of, code_bytes}
use Rattle.va_core.specs.Codes.{AreSlices, big_endian, packed, padding, string_of}
use Rattle.va_pack.specs.BitStrings.{PacksBits, bits_in, bits_of_bytes, bits_of_slices}
use Rattle.va_pack.proofs.Strings.{bits_below, bits_below_all, string_below, string_next}

-- the bits but for the last `behind`, and those
bits_split : (before behind n : ℕ) → bits_in (before + behind) n ≡ bits_in before (n / 2 ^ behind) ++ bits_in behind n
bits_split before zero n =
    let none : before + 0 ≡ before = omega arith in
    let whole : n / 1 ≡ n = omega arith in
    rw (none, whole) (sym (append-nil (bits_in before n)))
bits_split before (suc behind) n =
    let count : before + suc behind ≡ suc (before + behind) = omega arith in
    let halved : n / 2 / 2 ^ behind ≡ n / 2 ^ suc behind = shr-shr n 1 behind ∙ ap (λ k. n / 2 ^ k) (omega arith) in
    ap (λ all. bits_in all n) count
    ∙ ap (λ all. all ++ n % 2 ∷ []) (bits_split before behind (n / 2))
    ∙ append_assoc (bits_in before (n / 2 / 2 ^ behind)) (bits_in behind (n / 2)) (n % 2 ∷ [])
    ∙ ap (λ all. bits_in before all ++ (bits_in behind (n / 2) ++ n % 2 ∷ [])) halved

-- what stands before the last bits doesn't matter to them
last_bits : (count n value : ℕ) → bits_in count (n * 2 ^ count + value) ≡ bits_in count value
last_bits zero n value = refl
last_bits (suc count) n value =
    let double : 2 ^ suc count ≡ 2 * 2 ^ count = pow-succ' 2 count in
    let half : (n * 2 ^ suc count + value) / 2 ≡ n * 2 ^ count + value / 2 = rw double (omega arith) in
    let odd : (n * 2 ^ suc count + value) % 2 ≡ value % 2 = rw double (omega arith) in
    rw (half, odd) (ap (λ all. all ++ value % 2 ∷ []) (last_bits count n (value / 2)))

bits_of_zero : (count : ℕ) → bits_in count 0 ≡ replicate count 0
bits_of_zero zero = refl
bits_of_zero (suc count) = ap (λ all. all ++ 0 ∷ []) (bits_of_zero count) ∙ replicate_more count 0 ∙ ap (λ all. replicate all 0) (add-one count)

-- a number with a short one behind it
bits_appended : (before behind n value : ℕ) → value < 2 ^ behind → bits_in (before + behind) (n * 2 ^ behind + value) ≡ bits_in before n ++ bits_in behind value
bits_appended before behind n value fits =
    bits_split before behind (n * 2 ^ behind + value)
    ∙ ap (λ front. bits_in before front ++ bits_in behind (n * 2 ^ behind + value)) (shr_high n behind value fits)
    ∙ ap (λ back. bits_in before n ++ back) (last_bits behind n value)

bits_of_big_endian : (count n : ℕ) → bits_of_bytes (big_endian count n) ≡ bits_in (8 * count) n
bits_of_big_endian zero n = refl
bits_of_big_endian (suc count) n =
    let counts : 8 * suc count ≡ 8 * count + 8 = omega arith in
    let parts : n / 256 * 2 ^ 8 + n % 256 ≡ n = omega arith in
    let fits : n % 256 < 2 ^ 8 = omega arith in
    flat_map-append (bits_in 8) (big_endian count (n / 256)) (n % 256 ∷ [])
    ∙ ap (λ front. front ++ bits_in 8 (n % 256)) (bits_of_big_endian count (n / 256))
    ∙ sym (bits_appended (8 * count) 8 (n / 256) (n % 256) fits)
    ∙ ap (bits_in (8 * count + 8)) parts
    ∙ ap (λ all. bits_in all n) (sym counts)

bits_of_push : (shape : Shape) (dim slice : ℕ) (slices : List ℕ) → bits_of_slices shape dim (slices ++ slice ∷ []) ≡ bits_of_slices shape dim slices ++ bits_in (bits_of shape (dim + length slices)) slice
bits_of_push shape dim slice [] = append-nil (bits_in (bits_of shape dim) slice) ∙ ap (λ d. bits_in (bits_of shape d) slice) (sym (add-zero dim))
bits_of_push shape dim slice (first ∷ slices) =
    let dims : suc dim + length slices ≡ dim + suc (length slices) = omega arith in
    ap (λ all. bits_in (bits_of shape dim) first ++ all) (bits_of_push shape (suc dim) slice slices)
    ∙ sym (append_assoc (bits_in (bits_of shape dim) first) (bits_of_slices shape (suc dim) slices) (bits_in (bits_of shape (suc dim + length slices)) slice))
    ∙ ap (λ all. (bits_in (bits_of shape dim) first ++ bits_of_slices shape (suc dim) slices) ++ bits_in (bits_of shape all) slice) dims

bits_of_string : (shape : Shape) (slices : List ℕ) → AreSlices shape slices → (dim : ℕ) → dim ≤ shape.dims → bits_in (bits_below shape dim) (string_below shape slices dim) ≡ bits_of_slices shape 0 (take dim slices)
bits_of_string shape slices are zero p = refl
bits_of_string shape slices are (suc dim) p =
    let inside : dim < length slices = omega (arith, are.one_each) in
    let slice = get_or slices dim 0 in
    let dims : 0 + length (take dim slices) ≡ dim = omega (arith, length-take-le dim slices (omega arith)) in
    ap (λ all. bits_in (bits_below shape (suc dim)) (string_below shape slices all)) (sym (add-one dim))
    ∙ ap (bits_in (bits_below shape dim + bits_of shape dim)) (string_next shape slices dim inside)
    ∙ bits_appended (bits_below shape dim) (bits_of shape dim) (string_below shape slices dim) slice (are.fit dim (omega arith))
    ∙ ap (λ all. all ++ bits_in (bits_of shape dim) slice) (bits_of_string shape slices are dim (omega arith))
    ∙ ap (λ all. bits_of_slices shape 0 (take dim slices) ++ bits_in (bits_of shape all) slice) (sym dims)
    ∙ sym (bits_of_push shape 0 slice (take dim slices))
    ∙ ap (bits_of_slices shape 0) (sym (take_more slices dim 0 inside))
    ∙ ap (λ all. bits_of_slices shape 0 (take all slices)) (add-one dim)

pub packed_bits : PacksBits
unfolding packed
packed_bits shape slices is are =
    let whole : take shape.dims slices ≡ slices = take_all shape.dims slices (omega (arith, are.one_each)) in
    let string : ℕ = string_below shape slices shape.dims in
    let counts : 8 * code_bytes shape ≡ bits_below shape shape.dims + padding shape = rw (bits_below_all shape shape.dims is.some_dims refl) (omega arith) in
    ap (λ all. bits_of_bytes (big_endian (code_bytes shape) (string_of (bits_of shape) 0 0 all * 2 ^ padding shape))) (sym whole)
    ∙ bits_of_big_endian (code_bytes shape) (string * 2 ^ padding shape)
    ∙ ap (λ all. bits_in all (string * 2 ^ padding shape)) counts
    ∙ ap (bits_in (bits_below shape shape.dims + padding shape)) (sym (add-zero (string * 2 ^ padding shape)))
    ∙ bits_appended (bits_below shape shape.dims) (padding shape) string 0 (pow_pos (padding shape))
    ∙ ap (λ back. bits_in (bits_below shape shape.dims) string ++ back) (bits_of_zero (padding shape))
    ∙ ap (λ front. front ++ replicate (padding shape) 0) (bits_of_string shape slices are shape.dims (omega arith) ∙ ap (bits_of_slices shape 0) whole)
