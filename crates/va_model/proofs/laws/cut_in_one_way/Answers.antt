use Rattle.va_model.proofs.Cuts as cuts
use Rattle.va_model.proofs.laws.cut_in_one_way.Goals as goal

pub returns : goal.returns
returns c = cuts.cut_in_one_way
