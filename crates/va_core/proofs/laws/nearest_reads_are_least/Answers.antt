use Rattle.va_core.proofs.Reading.{nearest_reads_least, substitutes_tell}
use Rattle.va_core.proofs.laws.nearest_reads_are_least.Goals as goal

pub returns-clause-least : goal.returns-clause-least
returns-clause-least c = nearest_reads_least

pub returns-clause-tell : goal.returns-clause-tell
returns-clause-tell c = substitutes_tell
