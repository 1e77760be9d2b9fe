use Rattle.va_layout.proofs.Standing.{opens_once}
use Rattle.va_layout.proofs.laws.stands_for_one.Goals as goal

pub returns-clause-opens : goal.returns-clause-opens
returns-clause-opens c = λ image a b first second. opens_once first second

pub returns-clause-stands : goal.returns-clause-stands
returns-clause-stands c = λ image a b first second. opens_once first.opens second.opens
