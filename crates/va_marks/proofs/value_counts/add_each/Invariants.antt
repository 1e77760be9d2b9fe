use Rattle.std.proofs.Common.{◌≡◌, ℕ, ◌<◌, ◌≤◌, length, get_or}
use Rattle.va_marks.specs.Counts.{counts_at, plus_one}
use Rattle.va_marks.proofs.value_counts.add_each.Given as goal

abbrev pub invariant-loop-dim : goal.invariant-loop-dim
invariant-loop-dim l = record {
  one_each : length l.columns.items ≡ length l.vector;
  done : (dim : ℕ) → dim < l.dim → counts_at l.columns.items dim ≡ plus_one (counts_at l.fn.columns.items dim) (get_or l.vector dim 0);
  rest : (dim : ℕ) → l.dim ≤ dim → counts_at l.columns.items dim ≡ counts_at l.fn.columns.items dim;
}
