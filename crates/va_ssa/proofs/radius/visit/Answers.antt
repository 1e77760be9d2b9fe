use Rattle.std.proofs.Common.{◌∷◌, ◌++◌, [], List, ℕ, ap, arith}
use Rattle.std.proofs.lemmas.Result.{err_from_is_err_and}
use Rattle.va_core.specs.Approximations.{need_within}
use Rattle.va_ports.specs.Searches.{bounds_of}
use Rattle.va_ports.proofs.Searching.{took_none, took_as, stopped_as}
use Rattle.va_bounded.specs.BoundedCells.{cell_of, wide_cells}
use Rattle.va_bounded.proofs.Deciding.{near_is, far_is}
use Rattle.va_ssa.proofs.radius.visit.Goals as goal

pub returns-then-radius-cell-clause-took : goal.returns-then-radius-cell-clause-took
returns-then-radius-cell-clause-took g c =
    let cs = g.S.Shelf.contents c.args.shelf.now in
    let query = c.args.query.now in
    let cell = c.args.cell in
    took_as g.S.Shelf cs query [] (need_within (bounds_of cs query) (cell_of cell ∷ []) c.args.radius) c.args.shelf.now c.args.shelf.now c.args.fetched.now.items c.args.fetched.now.items
    (far_is cs query cell c.requires.bounds c.args.radius (omega arith))
    (took_none g.S.Shelf cs query c.args.shelf.now c.args.shelf.now c.args.fetched.now.items (g.met.S.Shelf.passes_none c.args.shelf.now))

pub returns-in_err-dist-clause-stopped : goal.returns-in_err-dist-clause-stopped
returns-in_err-dist-clause-stopped g c =
    let cs = g.S.Shelf.contents c.args.shelf.now in
    let query = c.args.query.now in
    let cell = c.args.cell in
    let p = err_from_is_err_and c.from_residual.result c.from_residual.ensures.1 in
    rw (p.1, p.2) (λ reads. stopped_as g.S.Shelf cs query (wide_cells cs query (cell_of cell ∷ []) ++ reads) (need_within (bounds_of cs query) (cell_of cell ∷ []) c.args.radius ++ reads) c.args.shelf.now c.known_distance.new.shelf _
    (λ t. ap (λ (l : List (ℕ × ℕ)). l ++ reads) (near_is cs query cell c.requires.bounds c.args.radius (omega arith) t)) (c.in_err-dist.ensures.stopped reads))
