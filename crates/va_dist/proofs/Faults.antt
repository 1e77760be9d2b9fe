-- Which refusal a further object meets, by numbers.
use Rattle.std.proofs.Common.{◌≡◌, ◌≢◌, ℕ, true, false, List, length, None, Some, eqb, refl, arith}
use Rattle.std.proofs.lemmas.Bool.Decides.{nat_tests}
use Rattle.va_core.specs.Distance.{Query}
use Rattle.va_dist.specs.Faults.{add_fault}
use Rattle.va_dist.specs.declared.fault.QueryFault.TheVariants.{Length}

pub wrong_length : (query : Query) (object : List ℕ) (count : ℕ) → length query.objects ≡ count → count ≢ 16 → length object ≢ length query.weights → add_fault query object ≡ Some (Length count)
wrong_length query object count has few wrong =
    let a : eqb (length query.objects) 16 ≡ false = grind (arith, nat_tests, has, few) in
    let b : eqb (length object) (length query.weights) ≡ false = grind (arith, nat_tests, wrong) in
    rw (a, b, has) refl

pub right_length : (query : Query) (object : List ℕ) (count : ℕ) → length query.objects ≡ count → count ≢ 16 → length object ≡ length query.weights → add_fault query object ≡ None
right_length query object count has few right =
    let a : eqb (length query.objects) 16 ≡ false = grind (arith, nat_tests, has, few) in
    let b : eqb (length object) (length query.weights) ≡ true = grind (arith, nat_tests, right) in
    rw (a, b) refl
