use Rattle.va_model.proofs.Lending as lending
use Rattle.va_model.proofs.laws.replies_lend_lines.Goals as goal

pub returns : goal.returns
returns c = lending.replies_lend
