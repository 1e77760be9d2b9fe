use Rattle.std.proofs.Common.{◌+◌, ◌<◌, ◌≤◌, ℕ, length}
use Rattle.va_core.specs.Marks.{row_at}
use Rattle.va_bound.proofs.making.most_slices.Given as goal

abbrev pub invariant-loop-dim : goal.invariant-loop-dim
invariant-loop-dim l = record {
  fits : (dim : ℕ) → dim < l.dim → length (row_at l.marks dim) ≤ l.most + 1;
  most : l.most ≤ 256;
}
