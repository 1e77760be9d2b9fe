use Rattle.std.proofs.Common.{◌≡◌, ◌+◌, ◌*◌, ◌≤◌, drop}
use Rattle.va_core.specs.Distance as distances
use Rattle.va_dist.proofs.distance.object_distance.Given as goal

abbrev pub invariant-loop-dim : goal.invariant-loop-dim
invariant-loop-dim l = record {
  sum : l.total + distances.object_distance (drop l.dim l.weights) (drop l.dim l.object) (drop l.dim l.vector) ≡ distances.object_distance l.weights l.object l.vector;
  most : l.total ≤ l.dim * 4261413375;
}
