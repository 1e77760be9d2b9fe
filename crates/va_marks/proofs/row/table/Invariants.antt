use Rattle.std.proofs.Common.{◌≡◌, ℕ, ◌+◌, ◌<◌, ◌≤◌, length, get_or}
use Rattle.va_core.specs.Marks.{slice_of}
use Rattle.va_marks.proofs.row.table.Given as goal

abbrev pub invariant-loop-value : goal.invariant-loop-value
invariant-loop-value l = record {
  one_each : length l.slices.items ≡ l.value;
  inside : l.slice + 1 < length l.marks;
  low : get_or l.marks l.slice 0 ≤ l.value;
  exact : (v : ℕ) → v < l.value → get_or l.slices.items v 0 ≡ slice_of l.marks v;
}
