use Rattle.va_core.proofs.Reading.{candidate_exact, needed_most}
use Rattle.va_core.proofs.laws.needed_are_candidates.Goals as goal

pub returns-clause-exact : goal.returns-clause-exact
returns-clause-exact c = candidate_exact

pub returns-clause-most : goal.returns-clause-most
returns-clause-most c = needed_most
