-- The number that a text is the numeral of.
use Rattle.std.proofs.Common.{◌≡◌, ℕ, ◌<◌, ◌≤◌, ◌^◌, Bool, true, false, ◌&&◌, leb, if◌then◌else◌, List, [], ◌∷◌, length, get_or, Option, Some, None, Result, Ok, refl, sym, ap, ◌∙◌, subst, leb-true, eq-zero-or-pos, inl, inr, arith}
use Rattle.std.specs.Fmt.{decimal}
use Rattle.std.specs.Str.{bytes_eq}
use Rattle.std.specs.Str.Parse.{AllDigits, IsNumeral, ParsesUnsigned, digits_value, without_leading_plus}
use Rattle.std.proofs.lemmas.Bool.Decides.{nat_tests}
use Rattle.std.proofs.lemmas.Fmt.{decimal-digits_value, decimal_is_IsNumeral, decimal_digit, decimal_nonempty, first_decimal, parse-decimal}
use Rattle.std.proofs.lemmas.Slice.Eq.{bytes_eq-Decides}
use Rattle.std.proofs.lemmas.Str.Parse.{digit_at, numerals_by_value, tells_digits, without_leading_plus_none}
use Rattle.va_words.specs.Options.{begins_above_zero}
use Rattle.va_words.specs.Words.{number_to}

number_at : (same least most : Bool) (value n : ℕ) → (if same && (least && most) then Some value else None) ≡ Some n →
    (same ≡ true) × (least ≡ true) × (most ≡ true) × (value ≡ n)
number_at true true true value n e = (refl, refl, refl, cc)
number_at true true false value n e = cc
number_at true false most value n e = cc
number_at false least most value n e = cc

-- a text that is read is the numeral of the number
pub spelled : (most : ℕ) (text : List ℕ) (n : ℕ) → number_to most text ≡ Some n → (text ≡ decimal n) × (1 ≤ n) × (n ≤ most)
spelled most text n e =
    let value = digits_value 10 text in
    let h = number_at (bytes_eq (decimal value) text) (leb 1 value) (leb value most) value n e in
    let same : decimal value ≡ text = (bytes_eq-Decides (decimal value) text).0 h.0 in
    (sym same ∙ ap decimal h.3, omega (arith, leb-true 1 value h.1, h.3), omega (arith, leb-true value most h.2, h.3))

-- and a numeral is read
pub read_back : (most n : ℕ) → 1 ≤ n → n ≤ most → most < 2 ^ 64 → number_to most (decimal n) ≡ Some n
read_back most n least fits small =
    let value : digits_value 10 (decimal n) ≡ n = (decimal_is_IsNumeral n (omega arith)).1 in
    let same : bytes_eq (decimal n) (decimal n) ≡ true = (bytes_eq-Decides (decimal n) (decimal n)).1 refl in
    let low : leb 1 n ≡ true = grind (arith, nat_tests) in
    let high : leb n most ≡ true = grind (arith, nat_tests) in
    rw (value, same, low, high) refl

-- what is no numeral isn't read
pub unread : (most : ℕ) (text : List ℕ) → ((n : ℕ) → 1 ≤ n → n ≤ most → text ≡ decimal n → ⊥) → number_to most text ≡ None
unread most text none = from (number_to most text) refl
  where
    from : (answer : Option ℕ) → number_to most text ≡ answer → number_to most text ≡ None
    from None e = e
    from (Some n) e = let h = spelled most text n e in absurd (none n h.1 h.2 h.0)

above_zero : (text : List ℕ) → 0 < length text → 48 < get_or text 0 0 → get_or text 0 0 ≤ 57 → begins_above_zero text ≡ true
above_zero [] some low high = absurd (omega arith)
above_zero (byte ∷ text) some low high =
    let a : leb 49 byte ≡ true = grind (arith, nat_tests) in
    let b : leb byte 57 ≡ true = grind (arith, nat_tests) in
    rw (a, b) refl

numeral_begins : (n : ℕ) → 1 ≤ n → n < 2 ^ 64 → begins_above_zero (decimal n) ≡ true
numeral_begins n least small =
    let some = decimal_nonempty n small in
    let digit = digit_at (decimal n) 0 (decimal_is_IsNumeral n small).0.1 some in
    above_zero (decimal n) some (first_decimal n (omega arith) small) digit.1

-- a text that begins otherwise is no numeral
pub begins_otherwise : (most : ℕ) (text : List ℕ) → most < 2 ^ 64 → begins_above_zero text ≡ false → number_to most text ≡ None
begins_otherwise most text small other = unread most text (λ n least fits is.
    let begins : begins_above_zero text ≡ true = subst (λ (t : List ℕ). begins_above_zero t ≡ true) (sym is) (numeral_begins n least (omega arith)) in
    let bad : true ≡ false = sym begins ∙ other in cc)

first_digit : (text : List ℕ) → begins_above_zero text ≡ true → (0 < length text) × (48 < get_or text 0 0)
first_digit [] begins = cc
first_digit (byte ∷ text) begins = (omega arith, low (leb 49 byte) (leb byte 57) refl begins)
  where
    low : (a b : Bool) → leb 49 byte ≡ a → (a && b) ≡ true → 48 < byte
    low true b e both = omega (arith, leb-true 49 byte e)
    low false b e both = cc

no_plus : (text : List ℕ) → begins_above_zero text ≡ true → without_leading_plus text ≡ text
no_plus text begins = without_leading_plus_none text (λ e. omega (arith, (first_digit text begins).1))

above_none : (n : ℕ) (text : List ℕ) → decimal n ≡ text → 48 < get_or text 0 0 → 1 ≤ n
above_none n text is first = elim (eq-zero-or-pos n) [
  | inl none ↦
      let zero : 48 ∷ [] ≡ text = sym (decimal_digit 0 (omega arith)) ∙ ap decimal (sym none) ∙ is in
      let at : 48 ≡ get_or text 0 0 = ap (λ t. get_or t 0 0) zero in absurd (omega (arith, at, first))
  | inr some ↦ omega (arith, some)
]

-- what std reads is the number of the numeral
pub parsed : (text : List ℕ) (n most : ℕ) → begins_above_zero text ≡ true → IsNumeral 10 (without_leading_plus text) →
    n ≡ digits_value 10 (without_leading_plus text) → n ≤ most → most < 2 ^ 64 → number_to most text ≡ Some n
parsed text n most begins numeral value_is fits small =
    let first = first_digit text begins in
    let plain = no_plus text begins in
    let digits : AllDigits 10 text = (rw plain at numeral).1 in
    let value : n ≡ digits_value 10 text = rw plain at value_is in
    let is : decimal n ≡ text =
    ap decimal value ∙ decimal-digits_value (numerals_by_value _ tells_digits) text digits first.0 (λ zero. absurd (omega (arith, first.1, zero))) (omega (arith, value)) in
    subst (λ (t : List ℕ). number_to most t ≡ Some n) is (read_back most n (above_none n text is first.1) fits small)

-- and what it doesn't is none
pub unparsed : {E : Type 0} (text : List ℕ) (r : Result ℕ E) (most : ℕ) → ParsesUnsigned 32 10 text r → most < 2 ^ 32 →
    ((n : ℕ) → n ≤ most → r ≡ Ok n → ⊥) → number_to most text ≡ None
unparsed text r most reads small none =
    unread most text (λ n least fits is. none n fits (parse-decimal 32 n text r (omega arith) (omega arith) is reads))
