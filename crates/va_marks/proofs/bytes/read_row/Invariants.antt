use Rattle.std.proofs.Common.{◌≡◌}
use Rattle.va_core.specs.MarkBytes.{row_in}
use Rattle.va_marks.proofs.bytes.read_row.Given as goal

abbrev pub invariant-loop-t : goal.invariant-loop-t
invariant-loop-t l = l.marks.items ≡ row_in l.bytes l.fn.at l.t
