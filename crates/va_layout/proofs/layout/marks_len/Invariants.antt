use Rattle.std.proofs.Common.{◌≡◌, ◌≤◌, ◌*◌}
use Rattle.va_core.specs.MarkBytes.{row_begin}
use Rattle.va_layout.proofs.layout.marks_len.Given as goal

abbrev pub invariant-loop-dim : goal.invariant-loop-dim
invariant-loop-dim l = record {
  len : l.len ≡ row_begin l.shape l.dim;
  small : l.len ≤ 514 * l.dim;
}
