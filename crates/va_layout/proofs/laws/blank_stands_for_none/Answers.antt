use Rattle.va_layout.proofs.Standing.{none_blank}
use Rattle.va_layout.proofs.laws.blank_stands_for_none.Goals as goal

pub returns-clause-opens : goal.returns-clause-opens
returns-clause-opens c = λ image kept blank opens. none_blank blank opens

pub returns-clause-stands : goal.returns-clause-stands
returns-clause-stands c = λ image kept blank stands. none_blank blank stands.opens
