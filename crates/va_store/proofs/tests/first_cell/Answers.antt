use Rattle.std.proofs.Common.{[]}
use Rattle.va_store.proofs.tests.first_cell.Goals as goal

pub returns : goal.returns
returns g c = g.met.S.Shelf.passes_both c.args.shelf.now c.rewind.new.self c.next_cell.new.self [] [] c.rewind.ensures.passes c.next_cell.ensures.passes
