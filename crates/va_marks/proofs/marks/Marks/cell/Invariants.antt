use Rattle.std.proofs.Common.{◌≡◌, ℕ, ◌<◌, get_or}
use Rattle.va_core.specs.Marks.{row_at, slice_of}
use Rattle.va_marks.proofs.marks.Marks.cell.Given as goal

abbrev pub invariant-loop-dim : goal.invariant-loop-dim
invariant-loop-dim l = (dim : ℕ) → dim < l.dim → get_or l.out dim 0 ≡ slice_of (row_at l.self-inside.rows.items dim) (get_or l.vector dim 0)
