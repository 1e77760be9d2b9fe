use Rattle.std.proofs.Common.{◌+◌, ◌-◌, ◌<◌, ◌≤◌, length, get_or}
use Rattle.va_marks.proofs.row.slice_from.Given as goal

abbrev pub invariant-loop-slice : goal.invariant-loop-slice
invariant-loop-slice l = record {
  inside : l.slice + 1 < length l.marks;
  low : get_or l.marks l.slice 0 ≤ l.value;
}

abbrev pub decreases-loop-slice : goal.decreases-loop-slice
decreases-loop-slice l = length l.marks - l.slice
