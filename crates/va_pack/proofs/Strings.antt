-- The string of the slices, and the bits, of the dimensions below one.
use Rattle.std.proofs.Common.{◌≡◌, ◌≢◌, below_more, ℕ, zero, suc, ◌+◌, ◌*◌, ◌/◌, ◌%◌, ◌^◌, ◌<◌, ◌≤◌, List, [], ◌∷◌, ◌++◌, length, get_or, take, set, min, refl, ap, sym, ◌∙◌, arith, add-zero, add-one}
use Rattle.std.proofs.lemmas.Bool.{cases_lt, lt-ltb, le-ltb}
use Rattle.std.proofs.lemmas.List.{take_more, take_more_set, take_more_same, get_or-set_other, get_or-set_same, length-take-le}
use Rattle.std.proofs.lemmas.Nat.{same_from_place}
use Rattle.va_core.specs.Shape.{Shape, bits_of, sum_below}
use Rattle.va_core.specs.Codes.{AreSlices, string_of}
use Rattle.va_pack.proofs.Shifts.{appended_fits}

abbrev pub bits_below : Shape → ℕ → ℕ
bits_below shape dim = sum_below (bits_of shape) dim

abbrev pub string_below : Shape → List ℕ → ℕ → ℕ
string_below shape slices dim = string_of (bits_of shape) 0 0 (take dim slices)

pub bits_next : (shape : Shape) (dim : ℕ) → bits_below shape (dim + 1) ≡ bits_below shape dim + bits_of shape dim
bits_next shape dim = rw add-one refl

-- each dimension has an equal part of the bits, and each of the first few one more
bits_below_is : (shape : Shape) (dim : ℕ) → bits_below shape dim ≡ dim * (shape.bits / shape.dims) + min dim (shape.bits % shape.dims)
bits_below_is shape zero = omega arith
bits_below_is shape (suc dim) = grind (arith, bits_below_is shape dim, lt-ltb, le-ltb, cases_lt dim (shape.bits % shape.dims))

pub bits_below_all : (shape : Shape) (dim : ℕ) → 1 ≤ shape.dims → dim ≡ shape.dims → bits_below shape dim ≡ shape.bits
bits_below_all shape dim some last = ap (bits_below shape) last ∙ bits_below_is shape shape.dims ∙ omega arith

bits_below_grow : (shape : Shape) (dim last : ℕ) → dim ≤ last → bits_below shape dim ≤ bits_below shape last
bits_below_grow shape dim last p = rw (bits_below_is shape dim, bits_below_is shape last) (grind arith)

-- the bits of a dimension lie within those of the shape
pub bits_end_within : (shape : Shape) (dim : ℕ) → dim < shape.dims → bits_below shape dim + bits_of shape dim ≤ shape.bits
bits_end_within shape dim p =
    let grow : bits_below shape (dim + 1) ≤ bits_below shape shape.dims = bits_below_grow shape (dim + 1) shape.dims (omega arith) in
    omega (arith, grow, bits_next shape dim, bits_below_all shape shape.dims (omega arith) refl)

string_push : (bits : ℕ → ℕ) (dim n : ℕ) (slices : List ℕ) (slice : ℕ) → string_of bits dim n (slices ++ slice ∷ []) ≡ string_of bits dim n slices * 2 ^ bits (dim + length slices) + slice
string_push bits dim n [] slice = rw add-zero refl
string_push bits dim n (first ∷ slices) slice =
    let dims : suc dim + length slices ≡ dim + suc (length slices) = omega arith in
    rw (← dims) (string_push bits (suc dim) (n * 2 ^ bits dim + first) slices slice)

string_push_next : (shape : Shape) (slices : List ℕ) (dim slice : ℕ) → dim < length slices → string_of (bits_of shape) 0 0 (take dim slices ++ slice ∷ []) ≡ string_below shape slices dim * 2 ^ bits_of shape dim + slice
string_push_next shape slices dim slice inside =
    let dims : 0 + length (take dim slices) ≡ dim = omega (arith, length-take-le dim slices (omega arith)) in
    string_push (bits_of shape) 0 0 (take dim slices) slice ∙ ap (λ d. string_below shape slices dim * 2 ^ bits_of shape d + slice) dims

pub string_next : (shape : Shape) (slices : List ℕ) (dim : ℕ) → dim < length slices → string_below shape slices (dim + 1) ≡ string_below shape slices dim * 2 ^ bits_of shape dim + get_or slices dim 0
string_next shape slices dim inside =
    ap (string_of (bits_of shape) 0 0) (take_more slices dim 0 inside) ∙ string_push_next shape slices dim (get_or slices dim 0) inside

pub string_set : (shape : Shape) (slices : List ℕ) (dim slice : ℕ) → dim < length slices → string_below shape (set slices dim slice) (dim + 1) ≡ string_below shape slices dim * 2 ^ bits_of shape dim + slice
string_set shape slices dim slice inside =
    ap (string_of (bits_of shape) 0 0) (take_more_set slices dim slice inside) ∙ string_push_next shape slices dim slice inside

-- the slices below a dimension fit, and its own does
pub slices_fit : (bits : ℕ → ℕ) (slices : List ℕ) (dim slice : ℕ) → dim < length slices → ((other : ℕ) → other < dim → get_or slices other 0 < 2 ^ bits other) → slice < 2 ^ bits dim → (other : ℕ) → other < dim + 1 → get_or (set slices dim slice) other 0 < 2 ^ bits other
slices_fit bits slices dim slice inside below fits = below_more (λ other. get_or (set slices dim slice) other 0 < 2 ^ bits other) dim
    (λ other p. let differ : other ≢ dim = omega arith in rw (get_or-set_other slices dim other slice 0 differ) (below other p))
    (rw (get_or-set_same slices dim slice 0 inside) fits)

pub string_suc : (shape : Shape) (slices : List ℕ) (dim : ℕ) → dim < length slices → string_below shape slices (suc dim) ≡ string_below shape slices dim * 2 ^ bits_of shape dim + get_or slices dim 0
string_suc shape slices dim inside = ap (string_below shape slices) (sym (add-one dim)) ∙ string_next shape slices dim inside

-- the string has no more bits than its dimensions
pub string_fits : (shape : Shape) (slices : List ℕ) → AreSlices shape slices → (dim : ℕ) → dim ≤ shape.dims → string_below shape slices dim < 2 ^ bits_below shape dim
string_fits shape slices are zero p = omega arith
string_fits shape slices are (suc dim) p =
    rw (string_suc shape slices dim (omega (arith, are.one_each)))
    (appended_fits (string_below shape slices dim) (get_or slices dim 0) (bits_below shape dim) (bits_of shape dim)
    (string_fits shape slices are dim (omega arith)) (are.fit dim (omega arith)))

-- one string is that of one list of slices
pub same_slices : (shape : Shape) (xs ys : List ℕ) → AreSlices shape xs → AreSlices shape ys → (dim : ℕ) → dim ≤ shape.dims → string_below shape xs dim ≡ string_below shape ys dim → take dim xs ≡ take dim ys
same_slices shape xs ys are_x are_y zero p same = refl
same_slices shape xs ys are_x are_y (suc dim) p same =
    let inside_x : dim < length xs = omega (arith, are_x.one_each) in
    let inside_y : dim < length ys = omega (arith, are_y.one_each) in
    let parts : (string_below shape xs dim ≡ string_below shape ys dim) × (get_or xs dim 0 ≡ get_or ys dim 0) =
    same_from_place (string_below shape xs dim) (get_or xs dim 0) (string_below shape ys dim) (get_or ys dim 0) (2 ^ bits_of shape dim)
    (are_x.fit dim (omega arith)) (are_y.fit dim (omega arith)) (sym (string_suc shape xs dim inside_x) ∙ same ∙ string_suc shape ys dim inside_y) in
    let front : take dim xs ≡ take dim ys = same_slices shape xs ys are_x are_y dim (omega arith) parts.0 in
    ap (λ count. take count xs) (sym (add-one dim)) ∙ take_more_same xs ys dim 0 inside_x inside_y front parts.1 ∙ ap (λ count. take count ys) (add-one dim)
