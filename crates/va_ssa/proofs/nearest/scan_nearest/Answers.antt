use Rattle.std.proofs.Common.{◌≡◌, ℕ, List, [], map, ap, ◌∙◌, subst}
use Rattle.va_core.specs.declared.pair.Pair.{Pair}
use Rattle.va_core.specs.Ranking.{answer}
use Rattle.va_keep.specs.Kept.{Kept}
use Rattle.va_ports.proofs.Own.{clamped_own, own_between}
use Rattle.va_ports.proofs.Searching.{stopped_memory}
use Rattle.va_ports.specs.Searches.{Took}
use Rattle.va_ports.specs.Shelves.{id_of}
use Rattle.va_ssa.specs.ScanReads.{clamped_scanned}
use Rattle.va_bounded.specs.Keeps.{KeepsLeast}
use Rattle.va_bounded.specs.Keeps.{clamped_pairs}
use Rattle.va_bounded.proofs.Giving.{want_stops}
use Rattle.va_ssa.proofs.ScanSteps.{scanned_between}
use Rattle.va_bounded.proofs.Keeping.{kept_answer}
use Rattle.va_ssa.proofs.nearest.scan_nearest.Goals as goal

pub returns-in_err-bounds-clause-stopped : goal.returns-in_err-bounds-clause-stopped
returns-in_err-bounds-clause-stopped g c =
    let cs = g.S.Shelf.contents c.args.shelf.now in
    let reads = clamped_scanned cs c.args.query.now c.args.k in
    want_stops g.S.Shelf cs c.args.query.now g.met.S.Shelf.passes_none reads c.args.shelf.now c.from_residual.result c.from_residual.ensures.1

pub returns-in_err-keep-clause-stopped : goal.returns-in_err-keep-clause-stopped
returns-in_err-keep-clause-stopped g c =
    let cs = g.S.Shelf.contents c.args.shelf.now in
    let reads = clamped_scanned cs c.args.query.now c.args.k in
    want_stops g.S.Shelf cs c.args.query.now g.met.S.Shelf.passes_none reads c.args.shelf.now c.from_residual-in_err-keep.result c.from_residual-in_err-keep.ensures.1

pub returns-in_default-clause-stopped : goal.returns-in_default-clause-stopped
returns-in_default-clause-stopped g c =
    let cs = g.S.Shelf.contents c.args.shelf.now in
    stopped_memory g.S.Shelf cs c.args.query.now g.met.S.Shelf.passes_none (clamped_scanned cs c.args.query.now c.args.k) c.args.shelf.now

pub returns-clause-known : goal.returns-clause-known
returns-clause-known g c told =
    let cs = g.S.Shelf.contents c.args.shelf.now in
    let query = c.args.query.now in
    let keeps : KeepsLeast g.S.Shelf.told cs query c.args.k cs.cells c.scan.new.keep =
    subst (λ (n : ℕ). KeepsLeast g.S.Shelf.told cs query n cs.cells c.scan.new.keep) (ap (λ (x : Kept). x.most) c.in_ok-keep.ensures) c.in_ok-scan.ensures.kept in
    c.into_sorted.ensures.held ∙ kept_answer g.S.Shelf.told cs query c.args.k c.scan.new.keep (g.met.S.Shelf.sound c.args.shelf.now).ids keeps told

pub returns-clause-pairs : goal.returns-clause-pairs
returns-clause-pairs g c told own =
    let cs = g.S.Shelf.contents c.args.shelf.now in
    let query = c.args.query.now in
    let sound = g.met.S.Shelf.sound c.args.shelf.now in
    let keeps : KeepsLeast g.S.Shelf.told cs query c.args.k cs.cells c.scan.new.keep =
    subst (λ (n : ℕ). KeepsLeast g.S.Shelf.told cs query n cs.cells c.scan.new.keep) (ap (λ (x : Kept). x.most) c.in_ok-keep.ensures) c.in_ok-scan.ensures.kept in
    let known : c.into_sorted.result ≡ answer (clamped_pairs cs query cs.cells) c.args.k = c.into_sorted.ensures.held ∙ kept_answer g.S.Shelf.told cs query c.args.k c.scan.new.keep sound.ids keeps told in
    known ∙ ap (λ (l : List Pair). answer l c.args.k) (clamped_own cs query cs.cells (own_between cs sound query cs.cells own))

pub returns-clause-fetched : goal.returns-clause-fetched
returns-clause-fetched g c told own =
    let cs = g.S.Shelf.contents c.args.shelf.now in
    let query = c.args.query.now in
    let took : Took g.S.Shelf cs query (clamped_scanned cs query c.args.k) c.args.shelf.now c.scan.new.shelf [] c.scan.new.fetched.items =
    subst (λ (n : ℕ). Took g.S.Shelf cs query (clamped_scanned cs query n) c.args.shelf.now c.scan.new.shelf [] c.scan.new.fetched.items) (ap (λ (x : Kept). x.most) c.in_ok-keep.ensures) c.in_ok-scan.ensures.took in
    took.listed ∙ ap (map id_of) (took.exact told ∙ scanned_between cs query c.args.k (own_between cs (g.met.S.Shelf.sound c.args.shelf.now) query cs.cells own))
