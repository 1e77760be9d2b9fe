use Rattle.std.proofs.Common.{◌≡◌, List, map, ap, ◌∙◌}
use Rattle.va_core.specs.declared.pair.Pair.{Pair}
use Rattle.va_core.specs.Ranking.{ascending, within}
use Rattle.va_core.proofs.Ranking.{ascending_is_only, sorted_in_order}
use Rattle.va_ports.proofs.Own.{clamped_own, own_between}
use Rattle.va_ports.proofs.Searching.{stopped_memory}
use Rattle.va_ports.specs.Shelves.{id_of}
use Rattle.va_ssa.specs.Within.{cells_within}
use Rattle.va_bounded.specs.Keeps.{clamped_pairs}
use Rattle.va_bounded.proofs.Giving.{want_stops}
use Rattle.va_ssa.proofs.LeastRead.{within_least}
use Rattle.va_ssa.proofs.radius.within.Goals as goal

pub returns-in_err-bounds-clause-stopped : goal.returns-in_err-bounds-clause-stopped
returns-in_err-bounds-clause-stopped g c =
    let cs = g.S.Shelf.contents c.args.shelf.now in
    let reads = cells_within cs c.args.query.now c.args.radius in
    want_stops g.S.Shelf cs c.args.query.now g.met.S.Shelf.passes_none reads c.args.shelf.now c.from_residual.result c.from_residual.ensures.1

pub returns-in_default-clause-stopped : goal.returns-in_default-clause-stopped
returns-in_default-clause-stopped g c =
    let cs = g.S.Shelf.contents c.args.shelf.now in
    stopped_memory g.S.Shelf cs c.args.query.now g.met.S.Shelf.passes_none (cells_within cs c.args.query.now c.args.radius) c.args.shelf.now

pub returns-in_default-with_capacity-clause-stopped : goal.returns-in_default-with_capacity-clause-stopped
returns-in_default-with_capacity-clause-stopped g c =
    let cs = g.S.Shelf.contents c.args.shelf.now in
    stopped_memory g.S.Shelf cs c.args.query.now g.met.S.Shelf.passes_none (cells_within cs c.args.query.now c.args.radius) c.args.shelf.now

pub returns-clause-known : goal.returns-clause-known
returns-clause-known g c told =
    ascending_is_only c.scan.new.pairs.items c.sort_unstable.new.self.items c.sort_unstable.ensures.permutation (sorted_in_order c.sort_unstable.new.self.items c.sort_unstable.ensures.sorted)
    ∙ ap ascending (c.in_ok-scan.ensures.pairs told)

pub returns-clause-pairs : goal.returns-clause-pairs
returns-clause-pairs g c told own =
    let cs = g.S.Shelf.contents c.args.shelf.now in
    let query = c.args.query.now in
    let known : c.sort_unstable.new.self.items ≡ within (clamped_pairs cs query cs.cells) c.args.radius =
    ascending_is_only c.scan.new.pairs.items c.sort_unstable.new.self.items c.sort_unstable.ensures.permutation (sorted_in_order c.sort_unstable.new.self.items c.sort_unstable.ensures.sorted)
    ∙ ap ascending (c.in_ok-scan.ensures.pairs told) in
    known ∙ ap (λ (l : List Pair). within l c.args.radius) (clamped_own cs query cs.cells (own_between cs (g.met.S.Shelf.sound c.args.shelf.now) query cs.cells own))

pub returns-clause-least : goal.returns-clause-least
returns-clause-least g c told own =
    let cs = g.S.Shelf.contents c.args.shelf.now in
    let took = c.in_ok-scan.ensures.took in
    within_least cs (g.met.S.Shelf.sound c.args.shelf.now) c.args.query.now c.args.radius c.scan.new.fetched.items own (took.listed ∙ ap (map id_of) (took.exact told))
