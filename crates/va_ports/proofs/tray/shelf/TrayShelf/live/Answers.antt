use Rattle.std.proofs.Common.{◌+◌, ◌≤◌, length, arith}
use Rattle.va_ports.specs.TrayCells.{cells_of}
use Rattle.va_ports.proofs.Places.{few_cells}
use Rattle.va_ports.proofs.TrayCells.{length_cells}
use Rattle.va_ports.proofs.tray.shelf.TrayShelf.live.Goals as goal

pub overflow_cast-result : goal.overflow_cast-result
overflow_cast-result c =
    let t = c.args.self.now in
    let few : 0 + length (cells_of t.cells.items) ≤ t.shape.capacity = few_cells 0 t.shape.capacity (cells_of t.cells.items) (omega arith) t.places in
    let most = t.is_shape.most_capacity in
    omega (arith, few, most, length_cells t.cells.items)
