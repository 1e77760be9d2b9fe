-- The position at which two lists differ.
use Rattle.std.proofs.Common.{◌≡◌, ℕ, zero, suc, ◌<◌, ◌≤◌, List, [], ◌∷◌, length, drop, Some, refl, arith}
use Rattle.va_core.specs.declared.pair.Pair.{Pair}
use Rattle.va_cert.specs.Reasons.{first_difference}

ends_longer_none : (at n : ℕ) (answer : List Pair) → at < length answer → first_difference n (drop at answer) [] ≡ Some n
ends_longer_none at n [] g = absurd (omega (arith, g))
ends_longer_none zero n (p ∷ answer) g = refl
ends_longer_none (suc at) n (p ∷ answer) g = ends_longer_none at n answer (omega (arith, g))

ends_shorter_none : (at n : ℕ) (known : List Pair) → at < length known → first_difference n [] (drop at known) ≡ Some n
ends_shorter_none at n [] g = absurd (omega (arith, g))
ends_shorter_none zero n (p ∷ known) g = refl
ends_shorter_none (suc at) n (p ∷ known) g = ends_shorter_none at n known (omega (arith, g))

-- one list ends before the other
pub ends_longer : (at n : ℕ) (answer known : List Pair) → length known ≤ at → at < length answer → first_difference n (drop at answer) (drop at known) ≡ Some n
ends_longer at n [] known h g = absurd (omega (arith, g))
ends_longer zero n (p ∷ answer) [] h g = refl
ends_longer zero n (p ∷ answer) (q ∷ known) h g = absurd (omega (arith, h))
ends_longer (suc at) n (p ∷ answer) [] h g = ends_longer_none at n answer (omega (arith, g))
ends_longer (suc at) n (p ∷ answer) (q ∷ known) h g = ends_longer at n answer known (omega (arith, h)) (omega (arith, g))

pub ends_shorter : (at n : ℕ) (answer known : List Pair) → length answer ≤ at → at < length known → first_difference n (drop at answer) (drop at known) ≡ Some n
ends_shorter at n answer [] h g = absurd (omega (arith, g))
ends_shorter zero n [] (q ∷ known) h g = refl
ends_shorter zero n (p ∷ answer) (q ∷ known) h g = absurd (omega (arith, h))
ends_shorter (suc at) n [] (q ∷ known) h g = ends_shorter_none at n known (omega (arith, g))
ends_shorter (suc at) n (p ∷ answer) (q ∷ known) h g = ends_shorter at n answer known (omega (arith, h)) (omega (arith, g))
