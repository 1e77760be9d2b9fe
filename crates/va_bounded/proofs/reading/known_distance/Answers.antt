use Rattle.std.proofs.Common.{◌∷◌, ◌++◌, [], List, ℕ, ap, sym, arith}
use Rattle.std.proofs.lemmas.Result.{err_from_is_err_and}
use Rattle.va_ports.proofs.Searching.{took_none, took_one, took_as, stopped_as}
use Rattle.va_bounded.specs.BoundedCells.{cell_of, wide_cells}
use Rattle.va_bounded.proofs.Deciding.{wide_is, narrow_is}
use Rattle.va_bounded.proofs.reading.known_distance.Goals as goal

pub returns-in_err-dist-clause-stopped : goal.returns-in_err-dist-clause-stopped
returns-in_err-dist-clause-stopped g c =
    let cs = g.S.Shelf.contents c.args.shelf.now in
    let query = c.args.query.now in
    let cell = c.args.cell in
    let p = err_from_is_err_and c.from_residual.result c.from_residual.ensures.1 in
    rw (p.1, p.2) (λ reads. stopped_as g.S.Shelf cs query (cell_of cell ∷ reads) (wide_cells cs query (cell_of cell ∷ []) ++ reads) c.args.shelf.now c.read_distance.new.shelf _
    (λ t. ap (λ (l : List (ℕ × ℕ)). l ++ reads) (wide_is cs query cell c.requires.bounds (omega arith) t)) (c.in_err-dist.ensures.stopped reads))

pub returns-then-cell-clause-took : goal.returns-then-cell-clause-took
returns-then-cell-clause-took g c =
    let cs = g.S.Shelf.contents c.args.shelf.now in
    let query = c.args.query.now in
    let cell = c.args.cell in
    rw (c.push_reserved.ensures.items) (took_as g.S.Shelf cs query (cell_of cell ∷ []) (wide_cells cs query (cell_of cell ∷ [])) c.args.shelf.now c.read_distance.new.shelf c.args.fetched.now.items _
    (wide_is cs query cell c.requires.bounds (omega arith))
    (took_one g.S.Shelf cs query (cell_of cell) c.args.shelf.now c.read_distance.new.shelf c.args.fetched.now.items c.in_ok-dist.ensures.passes
    (λ t. rw (sym (c.in_ok-dist.ensures.distance t), sym (c.requires.bounds t).low, sym (c.requires.bounds t).high) c.in_ok-dist.ensures.between)))

pub returns-clause-took : goal.returns-clause-took
returns-clause-took g c =
    let cs = g.S.Shelf.contents c.args.shelf.now in
    let query = c.args.query.now in
    let cell = c.args.cell in
    took_as g.S.Shelf cs query [] (wide_cells cs query (cell_of cell ∷ [])) c.args.shelf.now c.args.shelf.now c.args.fetched.now.items c.args.fetched.now.items
    (narrow_is cs query cell c.requires.bounds (omega arith))
    (took_none g.S.Shelf cs query c.args.shelf.now c.args.shelf.now c.args.fetched.now.items (g.met.S.Shelf.passes_none c.args.shelf.now))
