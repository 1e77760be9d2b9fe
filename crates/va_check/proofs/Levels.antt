-- What follows where the form has no fault, for the code.
use Rattle.std.proofs.Common.{◌≡◌, ℕ, zero, suc, ◌<◌, ◌≤◌, true, List, [], ◌∷◌, length, get_or, Option, None, leb, ap, sym, ◌∙◌, subst, arith}
use Rattle.std.specs.Option.{option_map}
use Rattle.std.proofs.lemmas.Bool.Decides.{nat_tests}
use Rattle.va_cert.specs.declared.certificate.Certificate.{Certificate}
use Rattle.va_cert.specs.Forms.{IsFormed}
use Rattle.va_cert.specs.Reasons.{rises, first_of, form_rows}
use Rattle.va_cert.proofs.Rows.{and_left, and_right}
use Rattle.va_cert.proofs.WellFormed.{formed}
use Rattle.va_check.specs.Says.{part_reason}
use Rattle.va_check.specs.declared.refusal.Part.{Part}

rises_at : (low high : List ℕ) (k : ℕ) → length low ≡ length high → rises low high ≡ true → k < length low → get_or low k 0 ≤ get_or high k 0
rises_at [] high k l h i = absurd (omega (arith, i))
rises_at (v ∷ low) [] k l h i = absurd (omega (arith, l))
rises_at (v ∷ low) (u ∷ high) zero l h i = let t : leb v u ≡ true = and_left (leb v u) (rises low high) h in grind (arith, nat_tests, t)
rises_at (v ∷ low) (u ∷ high) (suc k) l h i = rises_at low high k (omega (arith, l)) (and_right (leb v u) (rises low high) h) (omega (arith, i))

pub rises_each : (low high low' high' : List ℕ) → low' ≡ low → high' ≡ high → length low ≡ length high → rises low high ≡ true → (k : ℕ) → k < length low' → get_or low' k 0 ≤ get_or high' k 0
rises_each low high low' high' e f l h k i =
    subst (λ (x : List ℕ). k < length x → get_or x k 0 ≤ get_or high' k 0) (sym e) (subst (λ (y : List ℕ). k < length low → get_or low k 0 ≤ get_or y k 0) (sym f) (rises_at low high k l h)) i

-- where the form has no fault
pub formed_by : (c : Certificate) (o : Option Part) → option_map part_reason o ≡ first_of (form_rows c) → o ≡ None → IsFormed c
formed_by c o h none = formed c (sym h ∙ ap (λ (p : Option Part). option_map part_reason p) none)
