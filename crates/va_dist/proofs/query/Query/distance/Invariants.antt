use Rattle.std.proofs.Common.{◌≡◌, ◌+◌, ◌*◌, ◌≤◌, drop}
use Rattle.va_core.specs.Distance as distances
use Rattle.va_dist.proofs.query.Query.distance.Given as goal

abbrev pub invariant-loop-i : goal.invariant-loop-i
invariant-loop-i l = record {
  sum : l.total + distances.objects_distance l.self.weights (drop l.i l.self.objects) l.vector ≡ distances.objects_distance l.self.weights l.self.objects l.vector;
  most : l.total ≤ l.i * (256 * 4261413375);
}
