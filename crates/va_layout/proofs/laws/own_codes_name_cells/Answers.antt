use Rattle.va_layout.proofs.Approximations.{own_names}
use Rattle.va_layout.proofs.laws.own_codes_name_cells.Goals as goal

pub returns : goal.returns
returns c = λ shape marks item fit valid is. own_names fit valid is
