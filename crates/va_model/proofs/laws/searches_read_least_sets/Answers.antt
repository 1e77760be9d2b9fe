use Rattle.va_model.proofs.Least as least
use Rattle.va_model.proofs.laws.searches_read_least_sets.Goals as goal

pub returns : goal.returns
returns c = least.reads_least
