use Rattle.std.proofs.Common.{rules}
use Rattle.va_core.specs.MarkBytes.{marks_len}
use Rattle.va_layout.proofs.layout.marks_len.Goals as goal

pub returns : goal.returns
unfolding marks_len
returns c = search rules
