use Rattle.va_disk.proofs.Frames.{writes_weaker}
use Rattle.va_layout.proofs.Writes.{rest_of_torn}
use Rattle.va_rows.proofs.writing.set_gate.Goals as goal

pub returns-clause-rest : goal.returns-clause-rest
returns-clause-rest g c = λ told. rw c.slot_at.ensures at (rest_of_torn c.slot_at.result 1 _ _ (c.commit.ensures.torn told))

pub returns-clause-frame : goal.returns-clause-frame
returns-clause-frame g c = writes_weaker c.commit.ensures.frame (λ honest x torn told. rw c.slot_at.ensures at (rest_of_torn c.slot_at.result 1 _ _ (torn told)))
