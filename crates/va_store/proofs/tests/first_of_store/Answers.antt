use Rattle.std.proofs.Common.{rules, []}
use Rattle.va_store.specs.Known.{Fits}
use Rattle.va_store.proofs.Shelving.{fits_passed}
use Rattle.va_store.proofs.tests.first_of_store.Goals as goal

pub returns-clause-fits : goal.returns-clause-fits
returns-clause-fits g c =
    let lent = c.shelf.result in
    let end = c.first_cell.new.shelf in
    let fits : Fits g.D.Storage end.store.now end.disk.now = fits_passed g.D.Storage lent.store.now end.store.now lent.disk.now end.disk.now [] c.shelf.ensures.fits c.first_cell.ensures.2 in
    search rules
