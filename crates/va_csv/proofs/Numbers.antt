-- A record of numbers needs no quotes.
use Rattle.std.proofs.Common.{◌≡◌, ℕ, suc, ◌<◌, ◌^◌, Fits, w8, get_or, List, [], ◌∷◌, ◌++◌, length, map, false, eqb, refl, ap, arith}
use Rattle.std.specs.Fmt.{decimal}
use Rattle.std.specs.Int.{IsInRange}
use Rattle.std.specs.List.{AllByRecursion, join_with_byte}
use Rattle.std.specs.Str.Parse.{AllDigits}
use Rattle.std.proofs.lemmas.Bool.Decides.{nat_tests}
use Rattle.std.proofs.lemmas.Fmt.{decimal_is_IsNumeral, decimal_nonempty}
use Rattle.std.proofs.lemmas.List.{append-nil}
use Rattle.std.proofs.lemmas.Str.Parse.{digit_from_value}
use Rattle.csv.specs.Writing.{default_writer, field_text, fields_text, is_blank, needs_byte, needs_quotes, row_text}
use Rattle.va_csv.specs.Lines.{row_of}

digit_plain : (c : ℕ) → IsInRange 48 57 c → needs_byte default_writer c ≡ false
digit_plain c k =
    let comma : eqb c 44 ≡ false = grind (arith, nat_tests) in
    let mark : eqb c 34 ≡ false = grind (arith, nat_tests) in
    let return : eqb c 13 ≡ false = grind (arith, nat_tests) in
    let feed : eqb c 10 ≡ false = grind (arith, nat_tests) in
    rw (comma, mark, return, feed) refl

digits_plain : (digits : List ℕ) → AllDigits 10 digits → needs_quotes default_writer digits ≡ false
digits_plain [] d = refl
digits_plain (c ∷ digits) d = rw (digit_plain c (digit_from_value c d.0)) (digits_plain digits d.1)

number_plain : (n : ℕ) → n < 2 ^ 64 → field_text default_writer (decimal n) ≡ decimal n
number_plain n small = rw (digits_plain (decimal n) (decimal_is_IsNumeral n small).0.1) refl

numbers_plain : (n : ℕ) (numbers : List ℕ) → n < 2 ^ 64 → AllByRecursion (λ m. m < 2 ^ 64) numbers →
    decimal n ++ fields_text default_writer (map decimal numbers) ≡ join_with_byte 44 (map decimal (n ∷ numbers))
unfolding fields_text
numbers_plain n [] small all = append-nil (decimal n)
numbers_plain n (m ∷ numbers) small all =
    rw (number_plain m all.0) (ap (λ t. decimal n ++ 44 ∷ t) (numbers_plain m numbers all.0 all.1))

shows : (n : ℕ) (numbers : List ℕ) → n < 2 ^ 64 → is_blank default_writer (map decimal (n ∷ numbers)) ≡ false
unfolding is_blank
shows n [] small =
    let some = decimal_nonempty n small in
    let tested : eqb (length (decimal n)) 0 ≡ false = grind (arith, nat_tests) in
    rw (number_plain n small) tested
shows n (m ∷ numbers) small = refl

pub bytes_small : (bytes : List ℕ) → ((i : ℕ) → Fits w8 (get_or bytes i 0)) → AllByRecursion (λ m. m < 2 ^ 64) bytes
bytes_small [] fits = tt
bytes_small (byte ∷ bytes) fits = (omega (arith, (fits 0).fits), bytes_small bytes (λ i. fits (suc i)))

-- a vector's record is its numbers with commas
pub row_plain : (id : ℕ) (vector : List ℕ) → id < 2 ^ 64 → AllByRecursion (λ m. m < 2 ^ 64) vector →
    row_text default_writer (map decimal (id ∷ vector)) ≡ row_of id vector
row_plain id vector small all =
    rw (shows id vector small, number_plain id small) (ap (λ t. t ++ 10 ∷ []) (numbers_plain id vector small all))
