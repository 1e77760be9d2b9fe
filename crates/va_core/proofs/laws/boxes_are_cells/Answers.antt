use Rattle.va_core.proofs.Reading.{own_box_holds, box_has_one_cell}
use Rattle.va_core.proofs.laws.boxes_are_cells.Goals as goal

pub returns-clause-own : goal.returns-clause-own
returns-clause-own c = own_box_holds

pub returns-clause-one : goal.returns-clause-one
returns-clause-one c = box_has_one_cell
