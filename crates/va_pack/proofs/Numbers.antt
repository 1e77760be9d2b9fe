-- Bytes and the number that they write.
use Rattle.std.proofs.Common.{◌≡◌, ℕ, zero, suc, ◌+◌, ◌*◌, ◌/◌, ◌%◌, ◌^◌, ◌<◌, ◌≤◌, List, [], ◌∷◌, ◌++◌, length, get_or, take, set, refl, ap, sym, ◌∙◌, arith, ⊎_elim}
use Rattle.std.proofs.lemmas.Bool.{cases_lt}
use Rattle.std.proofs.lemmas.List.{take_more, take_more_set, take_all, length-take, length-take-le, get_or-take, get_or_past}
use Rattle.std.proofs.lemmas.List.Sums.{fold_push}
use Rattle.std.proofs.lemmas.Nat.{pow-add, div_below}
use Rattle.va_core.specs.Codes.{big_endian}
use Rattle.va_pack.specs.Held.{number_of}

pub number_of_push : (bytes : List ℕ) (byte : ℕ) → number_of (bytes ++ byte ∷ []) ≡ number_of bytes * 256 + byte
number_of_push bytes byte = fold_push (λ n byte. n * 256 + byte) 0 bytes byte

pub number_of_more : (bytes : List ℕ) (at : ℕ) → at < length bytes → number_of (take (at + 1) bytes) ≡ number_of (take at bytes) * 256 + get_or bytes at 0
number_of_more bytes at inside = ap number_of (take_more bytes at 0 inside) ∙ number_of_push (take at bytes) (get_or bytes at 0)

pub number_of_set : (bytes : List ℕ) (at byte : ℕ) → at < length bytes → number_of (take (at + 1) (set bytes at byte)) ≡ number_of (take at bytes) * 256 + byte
number_of_set bytes at byte inside = ap number_of (take_more_set bytes at byte inside) ∙ number_of_push (take at bytes) byte

-- a number that so many bytes can write is the number of those bytes
pub number_of_big_endian : (count n : ℕ) → n < 2 ^ (8 * count) → number_of (big_endian count n) ≡ n
number_of_big_endian zero n fits = omega arith
number_of_big_endian (suc count) n fits =
    let bits : 8 * suc count ≡ 8 * count + 8 = omega arith in
    let power : 2 ^ (8 * count + 8) ≡ 2 ^ (8 * count) * 2 ^ 8 = pow-add 2 (8 * count) 8 in
    let below : n < 2 ^ (8 * count) * 256 = let fits' : n < 2 ^ (8 * count + 8) = rw bits at fits in omega arith in
    let front : number_of (big_endian count (n / 256)) ≡ n / 256 =
    number_of_big_endian count (n / 256) (div_below n 256 (2 ^ (8 * count)) (omega arith) below) in
    number_of_push (big_endian count (n / 256)) (n % 256) ∙ ap (λ m. m * 256 + n % 256) front ∙ omega arith

big_endian_push : (count n byte : ℕ) → byte < 256 → big_endian (suc count) (n * 256 + byte) ≡ big_endian count n ++ byte ∷ []
big_endian_push count n byte fits =
    let front : (n * 256 + byte) / 256 ≡ n = omega arith in
    let last : (n * 256 + byte) % 256 ≡ byte = omega arith in
    rw (front, last) refl

front_bytes : (count : ℕ) (bytes : List ℕ) → ((at : ℕ) → get_or bytes at 0 < 256) → (at : ℕ) → get_or (take count bytes) at 0 < 256
front_bytes count bytes are at =
    ⊎_elim (λ (before : at < count). rw (get_or-take count bytes at 0 before) (are at))
    (λ (past : count ≤ at). let outside : length (take count bytes) ≤ at = rw (length-take count bytes) (omega arith) in
    rw (get_or_past (take count bytes) at 0 outside) (omega arith)) (cases_lt at count)

-- bytes are what their number is in so many bytes
pub big_endian_of_number : (count : ℕ) (bytes : List ℕ) → length bytes ≡ count → ((at : ℕ) → get_or bytes at 0 < 256) → big_endian count (number_of bytes) ≡ bytes
big_endian_of_number zero [] counts are = refl
big_endian_of_number zero (byte ∷ bytes) counts are = absurd (omega arith)
big_endian_of_number (suc count) bytes counts are =
    let inside : count < length bytes = omega arith in
    let whole : take (count + 1) bytes ≡ bytes = take_all (count + 1) bytes (omega arith) in
    let front : big_endian count (number_of (take count bytes)) ≡ take count bytes =
    big_endian_of_number count (take count bytes) (length-take-le count bytes (omega arith)) (front_bytes count bytes are) in
    ap (λ all. big_endian (suc count) (number_of all)) (sym whole)
    ∙ ap (big_endian (suc count)) (number_of_more bytes count inside)
    ∙ big_endian_push count (number_of (take count bytes)) (get_or bytes count 0) (are count)
    ∙ ap (λ all. all ++ get_or bytes count 0 ∷ []) front
    ∙ sym (take_more bytes count 0 inside) ∙ whole
