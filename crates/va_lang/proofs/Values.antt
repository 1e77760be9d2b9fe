-- The values of digits.
use Rattle.std.proofs.Common.{◌≡◌, ℕ, ◌+◌, ◌*◌, ◌-◌, ◌^◌, ◌<◌, ◌≤◌, Bool, true, false, ◌&&◌, List, [], ◌∷◌, Some, None, length, get_or, ltb, if◌then◌else◌, refl, arith}
use Rattle.std.proofs.lemmas.Bool.Decides.{nat_tests}
use Rattle.va_lang.specs.Grammar.{all_digits, value_after}

value_grows : (n : ℕ) (digits : List ℕ) → n ≤ value_after n digits
value_grows n [] = omega arith
value_grows n (d ∷ digits) =
    let h : 10 * n + (d - 48) ≤ value_after (10 * n + (d - 48)) digits = value_grows (10 * n + (d - 48)) digits in omega (arith, h)

-- the digits that are left make the number at least as large as the first of them
pub value_more : (n : ℕ) (digits : List ℕ) → 0 < length digits → 10 * n + (get_or digits 0 0 - 48) ≤ value_after n digits
value_more n [] h = absurd (omega arith)
value_more n (d ∷ digits) h = value_grows (10 * n + (d - 48)) digits

pub too_large : (n : ℕ) (rest text : List ℕ) → 0 < length rest → value_after n rest ≡ value_after 0 text →
    2 ^ 64 ≤ 10 * n + (get_or rest 0 0 - 48) → 2 ^ 64 ≤ value_after 0 text
too_large n rest text some same large =
    let h : 10 * n + (get_or rest 0 0 - 48) ≤ value_after n rest = value_more n rest some in omega (arith, h, same)

pub none_else : (digits : Bool) (value : ℕ) → 2 ^ 64 ≤ value → None ≡ (if digits && ltb value (2 ^ 64) then Some value else None)
none_else true value h = grind (arith, nat_tests)
none_else false value h = refl

some_at : (value : ℕ) → value < 2 ^ 64 → Some value ≡ (if true && ltb value (2 ^ 64) then Some value else None)
some_at value h = grind (arith, nat_tests)

pub some_else : (value : ℕ) (rest text : List ℕ) → length rest < 1 → all_digits rest ≡ all_digits text → value_after value rest ≡ value_after 0 text →
    value < 2 ^ 64 → Some value ≡ (if all_digits text && ltb (value_after 0 text) (2 ^ 64) then Some (value_after 0 text) else None)
some_else value [] text h digits same fits = rw (← digits, ← same) (some_at value fits)
some_else value (d ∷ rest) text h digits same fits = absurd (omega arith)
