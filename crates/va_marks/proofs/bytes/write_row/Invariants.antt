use Rattle.std.proofs.Common.{◌≡◌, ◌+◌, ◌*◌, ◌++◌, take}
use Rattle.va_core.specs.MarkBytes.{row_bytes}
use Rattle.va_marks.proofs.bytes.write_row.Given as goal

abbrev pub invariant-loop-mark : goal.invariant-loop-mark
invariant-loop-mark l = record {
  place : l.at ≡ l.fn.at + 2 * l.mark-index;
  written : take l.at l.out ≡ take l.fn.at l.fn.out ++ row_bytes (take l.mark-index l.marks);
}
