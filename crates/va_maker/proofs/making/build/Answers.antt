use Rattle.std.proofs.Common.{◌≡◌, ℕ, List, [], length, ap, sym, subst, ◌∙◌}
use Rattle.va_bounded.proofs.Giving.{err_is}
use Rattle.va_bounded.specs.Keeps.{clamped_pairs}
use Rattle.va_cert.specs.Reasons.{Accepts}
use Rattle.va_cert.specs.Telling.{AreTelling}
use Rattle.va_cert.specs.declared.certificate.Certificate.{Certificate}
use Rattle.va_core.specs.Distance.{IsQuery}
use Rattle.va_core.specs.Ranking.{answer}
use Rattle.va_maker.proofs.MadeOfCells.{AreParts, clamped_for, made_is}
use Rattle.va_maker.proofs.Stopping.{read_since, stopped_after, stopped_early, stopped_search}
use Rattle.va_maker.proofs.TellingItems.{are_telling, cert_accepted}
use Rattle.va_maker.specs.Making.{StoppedMaking, items_of, kept_needed}
use Rattle.va_ports.specs.Shelves.{Contents}
use Rattle.va_ports.specs.declared.search.SearchFault.TheVariants.{Memory}
use Rattle.va_maker.proofs.making.build.Goals as goal

pub returns-in_err-bounds-clause-stopped : goal.returns-in_err-bounds-clause-stopped
returns-in_err-bounds-clause-stopped g c =
    let old = c.args.shelf.now in
    err_is c.from_residual.result Memory (StoppedMaking g.S.Shelf c.args.query.now c.args.k old old) c.from_residual.ensures.1
    (stopped_early g.S.Shelf c.args.query.now c.args.k Memory tt (g.met.S.Shelf.passes_none old))

pub returns-in_err-cells-clause-stopped : goal.returns-in_err-cells-clause-stopped
returns-in_err-cells-clause-stopped g c =
    let why = c.in_err-cells.field-0.0 in
    err_is c.from_residual-in_err-cells.result why (StoppedMaking g.S.Shelf c.args.query.now c.args.k c.args.shelf.now c.coded_cells.new.shelf) c.from_residual-in_err-cells.ensures.1
    (stopped_early g.S.Shelf c.args.query.now c.args.k why c.in_err-cells.ensures.never c.in_err-cells.ensures.passes)

pub returns-in_err-found-clause-stopped : goal.returns-in_err-found-clause-stopped
returns-in_err-found-clause-stopped g c =
    let why = c.in_err-found.field-0.0 in
    err_is c.from_residual-in_err-found.result why (StoppedMaking g.S.Shelf c.args.query.now c.args.k c.args.shelf.now c.search_keeping.new.shelf) c.from_residual-in_err-found.ensures.1
    (stopped_search g.S.Shelf g.met.S.Shelf.passes_both c.args.query.now c.args.k c.in_ok-cells.ensures.passes c.in_ok-cells.ensures.contents why c.in_err-found.ensures.stopped)

pub returns-in_err-found-clause-goes_on : goal.returns-in_err-found-clause-goes_on
returns-in_err-found-clause-goes_on g c =
    let on = c.in_err-found.ensures.goes_on in
    (on.0, g.met.S.Shelf.passes_both c.args.shelf.now c.coded_cells.new.shelf c.search_keeping.new.shelf [] on.0 c.in_ok-cells.ensures.passes on.1)

pub returns-in-Ok-clause-known : goal.returns-in-Ok-clause-known
returns-in-Ok-clause-known g c told =
    let cs = g.S.Shelf.contents c.args.shelf.now in
    let query = c.args.query.now in
    let k = c.args.k in
    let found = c.in_ok-found.found in
    let scanned = c.in_ok-cells.ensures.contents in
    let parts : AreParts cs query k c.marks-2.result.now c.deref.result.now found.pairs found.kept.vectors = record {
      is_marks = c.marks-2.ensures ∙ ap (λ (x : Contents). x.marks) (c.in_ok-found.ensures.contents ∙ scanned);
      is_cells = c.deref.ensures.value ∙ c.in_ok-cells.ensures.cells.all told;
      is_answer = subst (λ (x : Contents). found.pairs ≡ answer (clamped_pairs x query x.cells) k) scanned (c.in_ok-found.ensures.pairs told);
      is_kept = subst (λ (x : Contents). found.kept.vectors ≡ kept_needed x query k) scanned (c.in_ok-found.ensures.kept told);
    } in
    c.in-Ok.ensures ∙ clamped_for parts

pub returns-in-Ok-clause-made : goal.returns-in-Ok-clause-made
returns-in-Ok-clause-made g c told own =
    returns-in-Ok-clause-known g c told ∙ made_is (g.S.Shelf.contents c.args.shelf.now) (g.met.S.Shelf.sound c.args.shelf.now) c.args.query.now c.args.k own

pub returns-in-Ok-clause-telling : goal.returns-in-Ok-clause-telling
returns-in-Ok-clause-telling g c told own =
    let cs = g.S.Shelf.contents c.args.shelf.now in
    subst (λ (made : Certificate). AreTelling (items_of cs) cs.marks c.args.query.now c.args.k made.fetched) (sym (returns-in-Ok-clause-made g c told own))
    (are_telling cs (g.met.S.Shelf.sound c.args.shelf.now) own c.args.query.now c.args.k)

pub returns-in-Ok-clause-accepted : goal.returns-in-Ok-clause-accepted
returns-in-Ok-clause-accepted g c told own most =
    let cs = g.S.Shelf.contents c.args.shelf.now in
    let sound = g.met.S.Shelf.sound c.args.shelf.now in
    let dims : length c.marks.result.now ≡ cs.shape.dims = ap (λ (m : List (List ℕ)). length m) c.marks.ensures ∙ sound.has_shape.one_each in
    subst Accepts (sym (returns-in-Ok-clause-made g c told own))
    (cert_accepted cs sound own c.args.query.now c.args.k (subst (λ (n : ℕ). IsQuery n c.args.query.now) dims c.in_ok-bounds.ensures.query_fits) c.requires.few c.requires.some most)

pub returns-in-Ok-clause-read : goal.returns-in-Ok-clause-read
returns-in-Ok-clause-read g c = read_since g.S.Shelf g.met.S.Shelf.passes_both c.args.query.now c.args.k c.in_ok-cells.ensures.passes c.in_ok-cells.ensures.contents c.in_ok-found.ensures.read

pub returns-in-Ok-clause-goes_on : goal.returns-in-Ok-clause-goes_on
returns-in-Ok-clause-goes_on g c =
    let on = c.in_ok-found.ensures.goes_on in
    (on.0, g.met.S.Shelf.passes_both c.args.shelf.now c.coded_cells.new.shelf c.search_keeping.new.shelf [] on.0 c.in_ok-cells.ensures.passes on.1)

pub returns-clause-stopped : goal.returns-clause-stopped
returns-clause-stopped g c = stopped_after g.S.Shelf g.met.S.Shelf.passes_both c.args.query.now c.args.k c.in_ok-cells.ensures.passes c.in_ok-cells.ensures.contents c.in_ok-found.ensures.read

pub returns-clause-goes_on : goal.returns-clause-goes_on
returns-clause-goes_on g c =
    let on = c.in_ok-found.ensures.goes_on in
    (on.0, g.met.S.Shelf.passes_both c.args.shelf.now c.coded_cells.new.shelf c.search_keeping.new.shelf [] on.0 c.in_ok-cells.ensures.passes on.1)
