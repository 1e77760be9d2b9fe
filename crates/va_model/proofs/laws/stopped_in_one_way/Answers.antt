use Rattle.va_model.proofs.Telling as telling
use Rattle.va_model.proofs.laws.stopped_in_one_way.Goals as goal

pub returns : goal.returns
returns c = telling.stopped_in_one_way
