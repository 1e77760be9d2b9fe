use Rattle.std.proofs.Common.{◌≡◌, ◌∷◌, ◌++◌, [], List, ℕ, true, false, ltb, ap, rules}
use Rattle.va_core.specs.Approximations.{paired}
use Rattle.va_core.specs.Ranking.{lesser}
use Rattle.va_ports.proofs.Searching.{took_none, took_as, stopped_as}
use Rattle.va_ports.specs.Searches.{Stopped}
use Rattle.va_ports.specs.declared.search.SearchFault.{SearchFault}
use Rattle.va_bounded.specs.BoundedCells.{cell_of, wide_cells}
use Rattle.va_ssa.specs.ScanReads.{scanned_next}
use Rattle.va_bounded.specs.Keeps.{KeepsLeast}
use Rattle.va_bounded.proofs.Giving.{err_is}
use Rattle.va_ssa.proofs.ScanSteps.{far_kept, far_scanned, near_scanned}
use Rattle.va_bounded.proofs.Keeping.{near_kept}
use Rattle.va_ssa.proofs.nearest.visit.Goals as goal

pub returns-then-not-is_near-clause-kept : goal.returns-then-not-is_near-clause-kept
returns-then-not-is_near-clause-kept g c k before keeps =
    let kept = c.args.keep.now in
    let cell = c.args.cell in
    let far : ltb (lesser kept.pairs (paired cell.low cell.id)) kept.most ≡ false = search rules in
    far_kept g.S.Shelf.told (g.S.Shelf.contents c.args.shelf.now) c.args.query.now cell c.requires.bounds k before kept keeps c.requires.order far

pub returns-then-not-is_near-clause-took : goal.returns-then-not-is_near-clause-took
returns-then-not-is_near-clause-took g c k before keeps =
    let cs = g.S.Shelf.contents c.args.shelf.now in
    let query = c.args.query.now in
    let kept = c.args.keep.now in
    let cell = c.args.cell in
    let far : ltb (lesser kept.pairs (paired cell.low cell.id)) kept.most ≡ false = search rules in
    took_as g.S.Shelf cs query [] (scanned_next cs query k before (cell_of cell ∷ [])) c.args.shelf.now c.args.shelf.now c.args.fetched.now.items c.args.fetched.now.items
    (far_scanned g.S.Shelf.told cs query cell c.requires.bounds k before kept keeps far)
    (took_none g.S.Shelf cs query c.args.shelf.now c.args.shelf.now c.args.fetched.now.items (g.met.S.Shelf.passes_none c.args.shelf.now))

pub returns-in_err-dist-clause-stopped : goal.returns-in_err-dist-clause-stopped
returns-in_err-dist-clause-stopped g c =
    let cs = g.S.Shelf.contents c.args.shelf.now in
    let query = c.args.query.now in
    let kept = c.args.keep.now in
    let cell = c.args.cell in
    let near : ltb (lesser kept.pairs (paired cell.low cell.id)) kept.most ≡ true = search rules in
    err_is c.from_residual.result c.in_err-dist.field-0.0
    (λ (why : SearchFault). (k : ℕ) (before reads : List (ℕ × ℕ)) → KeepsLeast g.S.Shelf.told cs query k before kept → Stopped g.S.Shelf cs query (scanned_next cs query k before (cell_of cell ∷ []) ++ reads) c.args.shelf.now c.known_distance.new.shelf why)
    c.from_residual.ensures.1
    (λ k before reads keeps. stopped_as g.S.Shelf cs query (wide_cells cs query (cell_of cell ∷ []) ++ reads) (scanned_next cs query k before (cell_of cell ∷ []) ++ reads) c.args.shelf.now c.known_distance.new.shelf _
    (λ t. ap (λ (l : List (ℕ × ℕ)). l ++ reads) (near_scanned g.S.Shelf.told cs query cell c.requires.bounds k before kept keeps near t)) (c.in_err-dist.ensures.stopped reads))

pub returns-clause-kept : goal.returns-clause-kept
returns-clause-kept g c k before keeps =
    near_kept g.S.Shelf.told (g.S.Shelf.contents c.args.shelf.now) c.args.query.now c.args.cell c.requires.bounds k before c.args.keep.now keeps c.in_ok-dist.dist c.offer.new.self c.in_ok-dist.ensures.distance c.offer.ensures

pub returns-clause-took : goal.returns-clause-took
returns-clause-took g c k before keeps =
    let cs = g.S.Shelf.contents c.args.shelf.now in
    let query = c.args.query.now in
    let kept = c.args.keep.now in
    let cell = c.args.cell in
    let near : ltb (lesser kept.pairs (paired cell.low cell.id)) kept.most ≡ true = search rules in
    took_as g.S.Shelf cs query (wide_cells cs query (cell_of cell ∷ [])) (scanned_next cs query k before (cell_of cell ∷ [])) c.args.shelf.now c.known_distance.new.shelf c.args.fetched.now.items c.known_distance.new.fetched.items
    (near_scanned g.S.Shelf.told cs query cell c.requires.bounds k before kept keeps near) c.in_ok-dist.ensures.took
