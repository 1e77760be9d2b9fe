use Rattle.std.proofs.Common.{refl}
use Rattle.va_store.proofs.Shelving.{passes_scanned, unchanged_next}
use Rattle.va_store.proofs.shelf.StoreShelfShelf.next_cell.Goals as goal

pub returns-in-Ok-clause-passes : goal.returns-in-Ok-clause-passes
returns-in-Ok-clause-passes g c =
    let s = c.args.self.now in
    let now = c.next_cell.ensures in (
      refl,
      refl,
      passes_scanned g.D.Storage s.store.now c.next_cell.new.store s.disk.now c.next_cell.new.disk now.scan now.changed
          (unchanged_next g.D.Storage s.store.now c.next_cell.new.store s.disk.now c.next_cell.new.slices s.shelved c.in-Ok.next c.in-Ok.ensures.met c.in-Ok.ensures.end),
    )

pub returns-in-Err-clause-passes : goal.returns-in-Err-clause-passes
returns-in-Err-clause-passes g c =
    let s = c.args.self.now in
    let now = c.next_cell.ensures in
    (refl, refl, passes_scanned g.D.Storage s.store.now c.next_cell.new.store s.disk.now c.next_cell.new.disk now.scan now.changed (λ told whole. c.in-Err.ensures.failed))
