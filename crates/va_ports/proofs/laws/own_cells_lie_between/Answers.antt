use Rattle.va_ports.proofs.Own.{own_between}
use Rattle.va_ports.proofs.laws.own_cells_lie_between.Goals as goal

pub returns : goal.returns
returns c = λ contents query sound own. own_between contents sound query contents.cells own
