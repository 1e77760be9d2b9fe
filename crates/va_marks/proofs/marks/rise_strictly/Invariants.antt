use Rattle.std.proofs.Common.{ℕ, ◌<◌}
use Rattle.va_core.specs.Marks.{row_at}
use Rattle.va_marks.specs.Tables.{RisesStrictly}
use Rattle.va_marks.proofs.marks.rise_strictly.Given as goal

abbrev pub invariant-loop-row : goal.invariant-loop-row
invariant-loop-row l = (dim : ℕ) → dim < l.row-index → RisesStrictly (row_at l.rows dim)
