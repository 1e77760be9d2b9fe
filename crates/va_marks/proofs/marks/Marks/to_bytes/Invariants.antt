use Rattle.std.proofs.Common.{◌≡◌, take, length}
use Rattle.va_core.specs.MarkBytes.{marks_bytes}
use Rattle.va_marks.proofs.marks.Marks.to_bytes.Given as goal

abbrev pub invariant-loop-row : goal.invariant-loop-row
invariant-loop-row l = record {
  place : l.at ≡ length (marks_bytes (take l.row-index l.row-items));
  written : take l.at l.out ≡ marks_bytes (take l.row-index l.row-items);
}
