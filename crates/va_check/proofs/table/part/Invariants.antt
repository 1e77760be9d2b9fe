use Rattle.std.proofs.Common.{◌≡◌, ◌+◌, ◌*◌, ◌≤◌, drop}
use Rattle.va_core.specs.DistanceParts.{part_at}
use Rattle.va_check.proofs.table.part.Given as goal

abbrev pub invariant-loop-object : goal.invariant-loop-object
invariant-loop-object l = record {
  small : l.sum ≤ l.object-index * (65535 * 65025);
  sum : l.sum + part_at l.weight l.dim (drop l.object-index l.objects) l.value ≡ part_at l.weight l.dim l.objects l.value;
}
