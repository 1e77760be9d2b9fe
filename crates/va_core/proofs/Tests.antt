-- Tests that hold together, and the test of a range.
use Rattle.std.proofs.Common.{◌≡◌, ◌≤◌, ℕ, Bool, true, false, ◌&&◌, not, refl, arith}
use Rattle.std.proofs.lemmas.Bool.Decides.{nat_tests}
use Rattle.va_core.specs.Shape.{is_within}

-- both hold where the joined test does, and the other way round
pub and_both : (a b : Bool) → (a && b) ≡ true → (a ≡ true) × (b ≡ true)
and_both true b e = (refl, e)
and_both false b e = cc

pub both_and : (a b : Bool) → a ≡ true → b ≡ true → (a && b) ≡ true
both_and a b e f = rw (e, f) refl

pub not_true : (a : Bool) → not a ≡ true → a ≡ false
not_true true e = cc
not_true false e = refl

-- a number in a range lies between its ends, and the other way round
pub at_least : (low high n : ℕ) → is_within low high n ≡ true → low ≤ n
at_least low high n within = grind (arith, nat_tests, within)

pub at_most : (low high n : ℕ) → is_within low high n ≡ true → n ≤ high
at_most low high n within = grind (arith, nat_tests, within)

pub within_range : (low high n : ℕ) → low ≤ n → n ≤ high → is_within low high n ≡ true
within_range low high n least most = grind (arith, nat_tests, least, most)
