use Rattle.va_check.proofs.Made.{made_is_judged}
use Rattle.va_check.proofs.laws.made_is_judged.Goals as goal

pub returns : goal.returns
returns c = made_is_judged
