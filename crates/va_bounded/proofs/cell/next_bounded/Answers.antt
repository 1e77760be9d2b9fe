use Rattle.va_core.proofs.CellBounds.{cell_ordered}
use Rattle.va_core.specs.Cells.{NamesSlices}
use Rattle.va_core.specs.Distance as distances
use Rattle.va_bounded.proofs.cell.next_bounded.Goals as goal

pub returns-in-Ok-Some-clause-order : goal.returns-in-Ok-Some-clause-order
returns-in-Ok-Some-clause-order g c =
    let marks = (g.S.Shelf.contents c.args.shelf.now).marks in
    let query = c.requires.bounds.0 in
    let are = c.requires.bounds.1 in
    let names : NamesSlices marks c.next_cell.new.code = rw (c.in-Ok-Some.field-0-is) at c.in-Ok-Some.ensures.names in
    rw (c.both-low.ensures.low marks query are names, c.both-low.ensures.high marks query are names)
    (cell_ordered marks (distances.distance query) c.next_cell.new.code names)
