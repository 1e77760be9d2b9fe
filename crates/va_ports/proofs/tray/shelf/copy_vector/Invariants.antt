use Rattle.std.proofs.Common.{◌≡◌, length, drop}
use Rattle.va_ports.specs.TrayCells.{vector_at}
use Rattle.va_ports.proofs.tray.shelf.copy_vector.Given as goal

abbrev pub invariant-loop-cell : goal.invariant-loop-cell
invariant-loop-cell l = vector_at (length l.out) l.cells l.place ≡ vector_at (length l.out) (drop l.cell-index l.cells) l.place
