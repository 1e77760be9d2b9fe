use Rattle.va_marks.specs.Rows.{AreRows, row_by_counts}
use Rattle.va_marks.proofs.tally.counted_rows.Given as goal

abbrev pub invariant-loop-dim : goal.invariant-loop-dim
invariant-loop-dim l = AreRows (row_by_counts l.fn.shape l.fn.added l.columns) l.dim l.rows.items
