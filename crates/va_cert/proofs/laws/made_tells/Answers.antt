use Rattle.va_cert.proofs.Telling.{made_tells}
use Rattle.va_cert.proofs.laws.made_tells.Goals as goal

pub returns : goal.returns
returns c = made_tells
