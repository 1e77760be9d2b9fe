use Rattle.std.proofs.Common.{◌≡◌, length}
use Rattle.va_dist.proofs.tests.sixteen_objects_of_256_dimensions_are_the_most.Given as goal

abbrev pub invariant-loop : goal.invariant-loop
invariant-loop g l = length l.query.weights ≡ 256
