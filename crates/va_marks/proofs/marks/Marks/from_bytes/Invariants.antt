use Rattle.std.proofs.Common.{◌≡◌}
use Rattle.va_core.specs.MarkBytes.{row_begin, row_read}
use Rattle.va_marks.specs.Rows.{AreRows}
use Rattle.va_marks.proofs.marks.Marks.from_bytes.Given as goal

abbrev pub invariant-loop-dim : goal.invariant-loop-dim
invariant-loop-dim l = record {
  place : l.at ≡ row_begin l.fn.shape l.dim;
  rows : AreRows (row_read l.fn.shape l.bytes) l.dim l.rows.items;
}
