use Rattle.va_core.proofs.Nearest.{answer_exact}
use Rattle.va_core.proofs.laws.answer_is_exact.Goals as goal

pub returns : goal.returns
returns c = answer_exact
