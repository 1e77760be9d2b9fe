use Rattle.va_cursor.proofs.Needing.{reads_least, reads_needed}
use Rattle.va_cursor.proofs.laws.reads_are_least.Goals as goal

pub returns-clause-needed : goal.returns-clause-needed
returns-clause-needed c = reads_needed

pub returns-clause-least : goal.returns-clause-least
returns-clause-least c = reads_least
