use Rattle.va_lang.proofs.OneLine.{reply_one_line}
use Rattle.va_lang.proofs.laws.one_line.Goals as goal

pub returns : goal.returns
returns c = reply_one_line
