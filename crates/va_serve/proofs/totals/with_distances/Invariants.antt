use Rattle.std.proofs.Common.{◌≡◌, ◌+◌, min, take}
use Rattle.va_model.specs.Silent.{sum_of_distances}
use Rattle.va_serve.proofs.totals.with_distances.Given as goal

abbrev pub invariant-loop-pair : goal.invariant-loop-pair
invariant-loop-pair l = l.total ≡ min (l.fn.sum + sum_of_distances (take l.pair-index l.pairs)) 18446744073709551615
