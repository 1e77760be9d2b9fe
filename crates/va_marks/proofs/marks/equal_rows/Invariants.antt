use Rattle.std.proofs.Common.{[]}
use Rattle.va_core.specs.Shape.{bits_of}
use Rattle.va_core.specs.Marks.{row_of}
use Rattle.va_marks.specs.Rows.{AreRows}
use Rattle.va_marks.proofs.marks.equal_rows.Given as goal

abbrev pub invariant-loop-dim : goal.invariant-loop-dim
invariant-loop-dim l = AreRows (λ dim. row_of (bits_of l.fn.shape dim) []) l.dim l.rows.items
