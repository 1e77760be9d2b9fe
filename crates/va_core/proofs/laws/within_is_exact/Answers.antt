use Rattle.va_core.proofs.Nearest.{within_exact, within_ascending}
use Rattle.va_core.proofs.laws.within_is_exact.Goals as goal

pub returns-clause-exact : goal.returns-clause-exact
returns-clause-exact c = within_exact

pub returns-clause-ascends : goal.returns-clause-ascends
returns-clause-ascends c = within_ascending
