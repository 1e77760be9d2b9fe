use Rattle.va_layout.proofs.Apart.{follow_on}
use Rattle.va_layout.proofs.laws.parts_follow_on.Goals as goal

pub returns : goal.returns
returns c = λ shape. follow_on shape
