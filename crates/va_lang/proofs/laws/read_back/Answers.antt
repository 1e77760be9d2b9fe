use Rattle.va_lang.proofs.ReadBack.{command_back}
use Rattle.va_lang.proofs.laws.read_back.Goals as goal

pub returns : goal.returns
returns c = command_back
