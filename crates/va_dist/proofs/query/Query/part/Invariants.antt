use Rattle.std.proofs.Common.{◌≡◌, ◌+◌, ◌*◌, ◌≤◌, drop}
use Rattle.va_core.specs.DistanceParts.{part_at}
use Rattle.va_dist.proofs.query.Query.part.Given as goal

abbrev pub invariant-loop-object : goal.invariant-loop-object
invariant-loop-object l = record {
  sum : l.total + part_at l.weight l.dim (drop l.object l.self.objects) l.value ≡ part_at l.weight l.dim l.self.objects l.value;
  most : l.total ≤ l.object * (65535 * 65025);
}
