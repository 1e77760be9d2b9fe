use Rattle.va_core.proofs.Reading.{reads_grow}
use Rattle.va_core.proofs.laws.reads_grow_at_their_end.Goals as goal

pub returns : goal.returns
returns c = reads_grow
