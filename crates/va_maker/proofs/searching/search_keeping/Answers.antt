use Rattle.std.proofs.Common.{◌≡◌, ap, ◌∙◌, rules}
use Rattle.std.specs.Prelude.{IfErr}
use Rattle.va_bounded.proofs.Giving.{err_is, want_stops}
use Rattle.va_maker.proofs.Searched.{kept_all, stopped_through}
use Rattle.va_maker.specs.Kept.{Kept}
use Rattle.va_maker.specs.Making.{kept_needed}
use Rattle.va_noa.specs.NearestReads.{StoppedNeeded, clamped_needed}
use Rattle.va_maker.proofs.searching.search_keeping.Goals as goal

pub returns-in_err-kept-clause-stopped : goal.returns-in_err-kept-clause-stopped
returns-in_err-kept-clause-stopped g c =
    let cs = g.S.Shelf.contents c.args.shelf.now in
    want_stops g.S.Shelf cs c.args.query.now g.met.S.Shelf.passes_none (clamped_needed cs c.args.query.now c.args.k) c.args.shelf.now c.from_residual.result c.from_residual.ensures.1

pub returns-in_err-found-clause-stopped : goal.returns-in_err-found-clause-stopped
returns-in_err-found-clause-stopped g c =
    let query = c.args.query.now in
    let why = c.in_err-found.field-0.0 in
    let new = c.nearest.new.shelf.shelf.now in
    let stop : StoppedNeeded g.S.Shelf query c.args.k c.args.shelf.now new why =
    stopped_through g.S.Shelf c.args.shelf.now new (λ t. t) (λ places passes. passes.2.passed) c.in_err-found.ensures.stopped in
    let all : IfErr c.from_residual-in_err-found.result (StoppedNeeded g.S.Shelf query c.args.k c.args.shelf.now new) =
    err_is c.from_residual-in_err-found.result why (StoppedNeeded g.S.Shelf query c.args.k c.args.shelf.now new) c.from_residual-in_err-found.ensures.1 stop in
    search rules

pub returns-clause-kept : goal.returns-clause-kept
returns-clause-kept g c told =
    let cs = g.S.Shelf.contents c.args.shelf.now in
    let query = c.args.query.now in
    let took = c.in_ok-found.ensures.took in
    let all : c.nearest.new.shelf.kept.now.vectors ≡ kept_needed cs query c.args.k =
    kept_all cs query c.args.k took.read took.passed.2.keeps
    (ap (λ (kept : Kept). kept.vectors) c.in_ok-kept.ensures, ap (λ (kept : Kept). kept.most) c.in_ok-kept.ensures ∙ c.live.ensures) took.exact told in
    search rules
