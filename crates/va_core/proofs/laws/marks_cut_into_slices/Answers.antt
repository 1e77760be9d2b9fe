use Rattle.va_core.proofs.Slices.{interval_holds}
use Rattle.va_core.proofs.MarkBytes.{marks_few, marks_bytes_len}
use Rattle.va_core.proofs.laws.marks_cut_into_slices.Goals as goal

pub returns-clause-slice : goal.returns-clause-slice
returns-clause-slice c = interval_holds

pub returns-clause-few : goal.returns-clause-few
returns-clause-few c = marks_few

pub returns-clause-bytes : goal.returns-clause-bytes
returns-clause-bytes c = marks_bytes_len
