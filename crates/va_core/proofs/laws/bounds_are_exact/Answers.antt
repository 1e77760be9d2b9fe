use Rattle.va_core.proofs.Reading.{surround, attained}
use Rattle.va_core.proofs.laws.bounds_are_exact.Goals as goal

pub returns-clause-surround : goal.returns-clause-surround
returns-clause-surround c = surround

pub returns-clause-attained : goal.returns-clause-attained
returns-clause-attained c = attained
