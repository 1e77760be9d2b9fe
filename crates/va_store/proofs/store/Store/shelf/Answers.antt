use Rattle.std.proofs.Common.{subst, sym}
use Rattle.va_store.specs.Known.{Fits, Known}
use Rattle.va_store.specs.Shelved.{IsShelved}
use Rattle.va_store.proofs.Owning.{cells_are_items, cells_are_own}
use Rattle.va_store.proofs.Shelving.{fits_started, shelved_started}
use Rattle.va_store.proofs.store.Store.shelf.Goals as goal

pub invariant_of-result : goal.invariant_of-result
invariant_of-result g c =
    let D = g.D.Storage in
    let disk = c.args.disk.now in
    record {
      shelved = subst (λ (known : Known). IsShelved D.told known (D.size disk) (D.image disk)) (sym c.start.ensures)
          (shelved_started D c.args.self.now disk c.is_orderly.ensures c.requires.fits);
    }

pub returns-clause-fits : goal.returns-clause-fits
returns-clause-fits g c = subst (λ (known : Known). Fits g.D.Storage known c.args.disk.now) (sym c.start.ensures) (fits_started g.D.Storage c.args.self.now c.args.disk.now c.requires.fits)

pub returns-clause-items : goal.returns-clause-items
returns-clause-items g c = λ kept is opens. cells_are_items c.args.self.now kept (g.D.Storage.image c.args.disk.now) c.is_orderly.ensures is opens

pub returns-clause-own : goal.returns-clause-own
returns-clause-own g c = λ told whole kept is stands.
    cells_are_own c.args.self.now kept (g.D.Storage.image c.args.disk.now) c.is_orderly.ensures is (c.requires.fits.known_in told whole).selected stands
