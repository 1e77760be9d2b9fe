use Rattle.std.proofs.Common.{◌≡◌, ◌+◌, ◌++◌, ◌∷◌, List, [], drop, ap, ◌∙◌}
use Rattle.va_cert.specs.declared.certificate.Taken.{Taken}
use Rattle.va_core.specs.Cells.{NamesSlices}
use Rattle.va_maker.proofs.CodedRows.{names_next, takens_more}
use Rattle.va_maker.specs.Rows.{coded_taken, coded_takens}
use Rattle.va_maker.proofs.rows.takens_of.Goals as goal

pub loop-cell-preserved : goal.loop-cell-preserved
loop-cell-preserved c marks are names =
    let query = c.args.query.now in
    let vectors = c.args.kept.now.vectors in
    let cells = c.args.cells.now in
    let i = c.loop-cell.cell-index in
    let cell = c.cell-item.result in
    let vector = c.in-Some.vector.now in
    let name : NamesSlices marks cell.code = names_next marks cells i cell c.loop-cell-test.true c.cell-item.is names in
    let taken : c.in_ok-taken.taken ≡ coded_taken marks query cell vector = c.in_ok-taken.ensures marks are (name, tt) in
    ap (λ (l : List Taken). l ++ coded_takens marks query vectors (drop (i + 1) cells)) c.in_ok-push.ensures.items
    ∙ ap (λ (t : Taken). (c.loop-cell.takens.items ++ t ∷ []) ++ coded_takens marks query vectors (drop (i + 1) cells)) taken
    ∙ takens_more marks query vectors cells i cell c.loop-cell.takens.items vector c.loop-cell-test.true c.cell-item.is c.in-Some.ensures.vector
    ∙ c.loop-cell.invariant marks are names
