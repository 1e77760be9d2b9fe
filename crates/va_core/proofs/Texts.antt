-- What a text of several parts lacks, and what no numeral holds.
use Rattle.std.proofs.Common.{◌≡◌, ℕ, zero, suc, ◌+◌, ◌/◌, ◌%◌, ◌<◌, Bool, true, false, not, List, [], ◌∷◌, ◌++◌, ltb, eqb, if◌then◌else◌, refl, arith}
use Rattle.std.specs.Fmt.{decimal, digits, digits_onto}
use Rattle.std.proofs.lemmas.Bool.Decides.{nat_tests}
use Rattle.va_core.specs.Texts.{lacks}
use Rattle.va_core.proofs.Tests.{and_both, both_and}

pub lacks_both : (byte : ℕ) (a b : List ℕ) → lacks byte a ≡ true → lacks byte b ≡ true → lacks byte (a ++ b) ≡ true
lacks_both byte [] b e f = f
lacks_both byte (x ∷ a) b e f =
    let h = and_both (not (eqb x byte)) (lacks byte a) e in
    both_and (not (eqb x byte)) (lacks byte (a ++ b)) h.0 (lacks_both byte a b h.1 f)

digit_lacks : (byte n : ℕ) → byte < 48 → not (eqb (if ltb (n % 10) 10 then 48 + n % 10 else 87 + n % 10) byte) ≡ true
digit_lacks byte n low =
    let below : n % 10 < 10 = omega arith in
    let tested : ltb (n % 10) 10 ≡ true = grind (arith, nat_tests) in
    rw tested (grind (arith, nat_tests))

last_lacks : (c : Bool) (byte glyph : ℕ) (after more : List ℕ) → lacks byte (glyph ∷ after) ≡ true → lacks byte more ≡ true →
    lacks byte (if c then glyph ∷ after else more) ≡ true
last_lacks true byte glyph after more e f = e
last_lacks false byte glyph after more e f = f

digits_lack : (byte : ℕ) → byte < 48 → (k n : ℕ) (after : List ℕ) → lacks byte after ≡ true → lacks byte (digits_onto k 10 false n after) ≡ true
digits_lack byte low zero n after e = e
digits_lack byte low (suc k) n after e =
    let glyph = if ltb (n % 10) 10 then 48 + n % 10 else 87 + n % 10 in
    let here : lacks byte (glyph ∷ after) ≡ true = both_and (not (eqb glyph byte)) (lacks byte after) (digit_lacks byte n low) e in
    last_lacks (eqb (n / 10) 0) byte glyph after (digits_onto k 10 false (n / 10) (glyph ∷ after)) here
    (digits_lack byte low k (n / 10) (glyph ∷ after) here)

-- no number holds a byte below the digits
pub decimal_lacks : (byte n : ℕ) → byte < 48 → lacks byte (decimal n) ≡ true
unfolding digits
decimal_lacks byte n low = digits_lack byte low 64 n [] refl
