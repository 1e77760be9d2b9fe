use Rattle.std.proofs.Common.{rules, ◌∷◌, refl, ap, ◌∙◌}
use Rattle.va_core.specs.Distance.{distance}
use Rattle.va_ports.proofs.Searching.{stopped_shelf, stopped_mismatch}
use Rattle.va_bounded.specs.BoundedCells.{cell_of}
use Rattle.va_bounded.proofs.reading.read_distance.Goals as goal

pub returns-in-Err-clause-stopped : goal.returns-in-Err-clause-stopped
returns-in-Err-clause-stopped g c reads =
    stopped_shelf g.S.Shelf (g.S.Shelf.contents c.args.shelf.now) c.args.query.now (cell_of c.args.cell ∷ reads) c.args.shelf.now c.fetch.new.self c.in-Err.fault c.in-Err.ensures.failed

pub returns-then-dist-cell-clause-stopped : goal.returns-then-dist-cell-clause-stopped
returns-then-dist-cell-clause-stopped g c reads =
    stopped_mismatch g.S.Shelf (g.S.Shelf.contents c.args.shelf.now) c.args.query.now (cell_of c.args.cell) reads c.args.shelf.now c.fetch.new.self _ _ _ _ c.in-Ok.ensures.passes
    (record {
      at = refl;
      outside = search rules;
      numbers = λ t. (c.distance-dist.ensures.distance ∙ ap (distance c.args.query.now) (c.in-Ok.ensures.vector t), (c.requires.bounds t).low, (c.requires.bounds t).high);
    })
