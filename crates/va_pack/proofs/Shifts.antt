-- Strings of bits as numbers, joined and cut.
use Rattle.std.proofs.Common.{◌≡◌, ℕ, ◌+◌, ◌*◌, ◌/◌, ◌%◌, ◌^◌, ◌<◌, ◌≤◌, List, length, get_or, take, set, sym, ◌∙◌, arith}
use Rattle.std.proofs.lemmas.Nat.{pow-add, shr_split, shr_below}
use Rattle.std.proofs.Math.Nat.{pow-le-pow_right}
use Rattle.va_pack.specs.Held.{number_of}
use Rattle.va_pack.proofs.Numbers.{number_of_set, number_of_more}

-- a string of `count` bits with `width` more behind it
pub appended_fits : (value slice count width : ℕ) → value < 2 ^ count → slice < 2 ^ width → value * 2 ^ width + slice < 2 ^ (count + width)
appended_fits value slice count width p q =
    let power : 2 ^ (count + width) ≡ 2 ^ count * 2 ^ width = pow-add 2 count width in rw power (grind arith)

-- the same with a byte behind it
pub byte_appended_fits : (value byte count all : ℕ) → value < 2 ^ count → byte < 256 → all ≡ value * 2 ^ 8 + byte → all < 2 ^ (count + 8)
byte_appended_fits value byte count all p q is = rw is (appended_fits value byte count 8 p q)

-- the first `width` bits of a string
pub high_fits : (value count width rest : ℕ) → value < 2 ^ count → count ≡ width + rest → value / 2 ^ rest < 2 ^ width
high_fits value count width rest p is = shr_below value width rest (rw is at p)

pub fits_byte : (value width : ℕ) → width ≤ 8 → value < 2 ^ width → value < 256
fits_byte value width narrow p = let power : 2 ^ width ≤ 2 ^ 8 = grind (arith, pow-le-pow_right) in omega arith

-- a string of which the last `rest` bits are cut off behind another
pub cut : (n value width rest : ℕ) → (n * 2 ^ width + value / 2 ^ rest) * 2 ^ rest + value % 2 ^ rest ≡ n * 2 ^ (width + rest) + value
cut n value width rest =
    let power : 2 ^ (width + rest) ≡ 2 ^ width * 2 ^ rest = pow-add 2 width rest in
    let parts : value / 2 ^ rest * 2 ^ rest + value % 2 ^ rest ≡ value = shr_split value rest in
    rw power (omega arith)

-- a slice is put behind the bits that are held, and fills no byte
pub put_within : (n count width value slice all : ℕ) → all ≡ value * 2 ^ width + slice → n * 2 ^ (count + width) + all ≡ (n * 2 ^ count + value) * 2 ^ width + slice
put_within n count width value slice all is =
    let power : 2 ^ (count + width) ≡ 2 ^ count * 2 ^ width = pow-add 2 count width in
    rw (is, power) (omega arith)

-- a slice is put behind the bits that are held, and the byte that they fill is written
pub put_beyond : (bytes : List ℕ) (at count width rest value slice all high low : ℕ) → at < length bytes → count + width ≡ rest + 8 → all ≡ value * 2 ^ width + slice → high ≡ all / 2 ^ rest → low ≡ all % 2 ^ rest → number_of (take (at + 1) (set bytes at high)) * 2 ^ rest + low ≡ (number_of (take at bytes) * 2 ^ count + value) * 2 ^ width + slice
put_beyond bytes at count width rest value slice all high low inside counts is high_is low_is =
    let n = number_of (take at bytes) in
    let swapped : count + width ≡ 8 + rest = omega arith in
    let whole : n * 2 ^ (8 + rest) + all ≡ (n * 2 ^ count + value) * 2 ^ width + slice = rw (← swapped) (put_within n count width value slice all is) in
    rw (high_is, low_is, number_of_set bytes at (all / 2 ^ rest) inside) (cut n all 8 rest ∙ whole)

-- a slice is got from the bits that are held
pub get_within : (number n count width rest value high low : ℕ) → width + rest ≡ count → high ≡ value / 2 ^ rest → low ≡ value % 2 ^ rest → number ≡ n * 2 ^ count + value → number ≡ (n * 2 ^ width + high) * 2 ^ rest + low
get_within number n count width rest value high low counts high_is low_is read =
    read ∙ rw (← counts, high_is, low_is) (sym (cut n value width rest))

-- a slice is got from the bits that are held and the next byte
pub get_beyond : (bytes : List ℕ) (at n count width rest value all high low : ℕ) → at < length bytes → width + rest ≡ count + 8 → all ≡ value * 2 ^ 8 + get_or bytes at 0 → high ≡ all / 2 ^ rest → low ≡ all % 2 ^ rest → number_of (take at bytes) ≡ n * 2 ^ count + value → number_of (take (at + 1) bytes) ≡ (n * 2 ^ width + high) * 2 ^ rest + low
get_beyond bytes at n count width rest value all high low inside counts is high_is low_is read =
    get_within (number_of (take (at + 1) bytes)) n (count + 8) width rest all high low counts high_is low_is
    (number_of_more bytes at inside ∙ rw read (sym (put_within n count 8 value (get_or bytes at 0) all is)))
