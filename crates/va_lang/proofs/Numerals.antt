-- A number has one numeral.
use Rattle.std.proofs.Common.{◌≡◌, ℕ, zero, suc, ◌+◌, ◌/◌, ◌%◌, ◌^◌, ◌<◌, ◌≤◌, Bool, true, false, ◌&&◌, not, List, [], ◌∷◌, Some, None, length, get_or, ltb, eqb, if◌then◌else◌, refl, ap, sym, ◌∙◌, inl, inr, eq-zero-or-pos, arith, rules}
use Rattle.std.specs.Fmt.{decimal, digits, digits_onto}
use Rattle.std.proofs.lemmas.Bool.Decides.{nat_tests}
use Rattle.std.proofs.lemmas.Str.Parse.{IsNumeralModel, numerals_by_fold}
use Rattle.std.proofs.lemmas.Fmt.{digits_decimal, digits_value-decimal, decimal-digits_value, decimal_nonempty, first_decimal, decimal_digit}
use Rattle.va_lang.specs.Grammar.{value_after, all_digits, has_one_form, is_numeral, number_below}
use Rattle.va_core.proofs.Tests.{and_both, both_and, not_true}
use Rattle.va_core.specs.Texts.{lacks}

-- the digits and their value are those of the library
own : IsNumeralModel (λ ds. all_digits ds ≡ true) (value_after 0)
own = numerals_by_fold _ (search rules) value_after (search rules)

form_some : (text : List ℕ) → has_one_form text ≡ true → 0 < length text
form_some [] e = cc
form_some (b ∷ text) e = omega arith

form_first : (text : List ℕ) → has_one_form text ≡ true → get_or text 0 0 ≡ 48 → length text ≡ 1
form_first [] e f = cc
form_first (b ∷ []) e f = refl
form_first (b ∷ c ∷ text) e f = absurd (not_zero b f (not_true (eqb b 48) e))
  where
    not_zero : (b : ℕ) → b ≡ 48 → eqb b 48 ≡ false → ⊥
    not_zero b f e = grind (arith, nat_tests)

number_at : (numeral : Bool) (value limit n : ℕ) → (if numeral && ltb value limit then Some value else None) ≡ Some n →
    (numeral ≡ true) × (value < limit) × (value ≡ n)
number_at true value limit n e = below (ltb value limit) refl e
  where
    below : (c : Bool) → ltb value limit ≡ c → (if c then Some value else None) ≡ Some n → (true ≡ true) × (value < limit) × (value ≡ n)
    below true less e = (refl, grind (arith, nat_tests), cc)
    below false less e = cc
number_at false value limit n e = cc

module _ (limit : ℕ) (fits : limit ≤ 2 ^ 64) where
  -- a numeral is what the number is written as
  pub number_spelled : (text : List ℕ) (n : ℕ) → number_below limit text ≡ Some n → (text ≡ decimal n) × (n < limit)
  number_spelled text n e =
      let h = number_at (is_numeral text) (value_after 0 text) limit n e in
      let k = and_both (has_one_form text) (all_digits text) h.0 in
      let spelled : decimal (value_after 0 text) ≡ text =
      decimal-digits_value own text k.1 (form_some text k.0) (form_first text k.0) (omega (arith, h.1, fits)) in
      (sym spelled ∙ ap decimal h.2, omega (arith, h.1, h.2))

  form_after : (text : List ℕ) → 0 < length text → 48 < get_or text 0 0 → has_one_form text ≡ true
  form_after [] some first = absurd (omega arith)
  form_after (b ∷ []) some first = refl
  form_after (b ∷ c ∷ text) some first = not_zero b first
    where
      not_zero : (b : ℕ) → 48 < b → not (eqb b 48) ≡ true
      not_zero b first = grind (arith, nat_tests)

  decimal_form : (n : ℕ) → n < 2 ^ 64 → has_one_form (decimal n) ≡ true
  decimal_form n small = elim (eq-zero-or-pos n) [
    | inl none ↦ rw (none, decimal_digit 0 (omega arith)) refl
    | inr some ↦ form_after (decimal n) (decimal_nonempty n small) (first_decimal n some small)
  ]

  -- what a number is written as is read back
  pub number_back : (n : ℕ) → n < limit → number_below limit (decimal n) ≡ Some n
  number_back n less =
      let small : n < 2 ^ 64 = omega (arith, less, fits) in
      let tested : ltb n limit ≡ true = grind (arith, nat_tests) in
      rw (decimal_form n small, digits_decimal own n small, digits_value-decimal own n small, tested) refl
