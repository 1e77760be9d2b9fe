use Rattle.std.proofs.Common.{◌≡◌, map, take}
use Rattle.va_maker.specs.Rows.{coded_row}
use Rattle.va_maker.proofs.rows.boxes_of.Given as goal

abbrev pub invariant-loop-cell : goal.invariant-loop-cell
invariant-loop-cell l = l.rows.items ≡ map (coded_row l.marks) (take l.cell-index l.cells)
