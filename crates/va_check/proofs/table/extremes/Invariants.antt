use Rattle.std.proofs.Common.{◌≡◌, ◌*◌, ◌-◌, ◌≤◌}
use Rattle.va_core.specs.Parts.{least_part, greatest_part}
use Rattle.va_check.specs.Tables.{in_table}
use Rattle.va_check.proofs.table.extremes.Given as goal

abbrev pub invariant-loop-at : goal.invariant-loop-at
invariant-loop-at l = record {
  from : l.low ≤ l.at;
  upto : l.at ≤ l.high;
  least : l.least ≡ least_part (in_table l.table l.dim) l.at (l.high - l.at);
  greatest : l.greatest ≡ greatest_part (in_table l.table l.dim) l.at (l.high - l.at);
  least_small : l.least ≤ 16 * (65535 * 65025);
  greatest_small : l.greatest ≤ 16 * (65535 * 65025);
}

abbrev pub decreases-loop-at : goal.decreases-loop-at
decreases-loop-at l = l.at
