use Rattle.std.proofs.Common.{◌≡◌, ◌*◌, ◌≤◌, drop}
use Rattle.va_check.proofs.Tabled.{sum_from}
use Rattle.va_check.proofs.table.distance.Given as goal

abbrev pub invariant-loop-dim : goal.invariant-loop-dim
invariant-loop-dim l = record {
  small : l.total ≤ l.dim * (16 * (65535 * 65025));
  sum : sum_from l.dim l.table l.total (drop l.dim l.vector) ≡ sum_from 0 l.table 0 l.vector;
}
