use Rattle.std.proofs.Common.{◌≡◌, length}
use Rattle.va_bound.proofs.tests.query_of.Given as goal

abbrev pub invariant-loop-number : goal.invariant-loop-number
invariant-loop-number l = length l.query.weights ≡ 2
