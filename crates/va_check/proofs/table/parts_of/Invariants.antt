use Rattle.std.proofs.Common.{◌≡◌, ℕ, ◌*◌, ◌<◌, ◌≤◌, length, get_or}
use Rattle.va_check.specs.Tables.{part_number}
use Rattle.va_check.proofs.table.parts_of.Given as goal

abbrev pub invariant-loop-at : goal.invariant-loop-at
invariant-loop-at l = record {
  len : length l.table.items ≡ l.at;
  number : (k : ℕ) → k < l.at → get_or l.table.items k 0 ≡ part_number l.cert k;
  small : (k : ℕ) → k < l.at → get_or l.table.items k 0 ≤ 16 * (65535 * 65025);
}
