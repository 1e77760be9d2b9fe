use Rattle.std.proofs.Common.{◌≡◌, ◌*◌, ◌≤◌, drop}
use Rattle.va_core.specs.Boxes.{box_between}
use Rattle.va_check.proofs.Tabled.{least_from, greatest_from}
use Rattle.va_check.proofs.table.bounds.Given as goal

abbrev pub invariant-loop-dim : goal.invariant-loop-dim
invariant-loop-dim l = record {
  least_small : l.least ≤ l.dim * (16 * (65535 * 65025));
  greatest_small : l.greatest ≤ l.dim * (16 * (65535 * 65025));
  least : least_from l.dim l.table l.least (box_between (drop l.dim l.low) (drop l.dim l.high)) ≡ least_from 0 l.table 0 (box_between l.low l.high);
  greatest : greatest_from l.dim l.table l.greatest (box_between (drop l.dim l.low) (drop l.dim l.high)) ≡ greatest_from 0 l.table 0 (box_between l.low l.high);
}
