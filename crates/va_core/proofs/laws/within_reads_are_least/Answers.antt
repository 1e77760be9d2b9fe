use Rattle.va_core.proofs.Reading.{within_reads_least}
use Rattle.va_core.proofs.laws.within_reads_are_least.Goals as goal

pub returns : goal.returns
returns c = within_reads_least
