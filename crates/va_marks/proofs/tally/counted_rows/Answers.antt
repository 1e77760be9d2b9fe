use Rattle.std.proofs.Common.{◌≡◌, ◌<◌, [], ◌∙◌, arith, ap, length}
use Rattle.std.proofs.lemmas.List.{get_or_read}
use Rattle.va_core.specs.Shape.{bits_of}
use Rattle.va_marks.specs.Counts.{counts_at}
use Rattle.va_marks.specs.Rows.{row_by_counts}
use Rattle.va_marks.specs.Rule.{row_by}
use Rattle.va_marks.proofs.Pushes.{rows_pushed}
use Rattle.va_marks.proofs.tally.counted_rows.Goals as goal

pub loop-dim-preserved : goal.loop-dim-preserved
loop-dim-preserved c =
    let inside : c.from-in-loop-dim.result < length c.args.columns.now = omega (arith, c.requires.one_each) in
    let column : c.index-columns-from.result ≡ counts_at c.args.columns.now c.loop-dim.dim =
    get_or_read c.args.columns.now c.from-in-loop-dim.result c.index-columns-from.result inside c.index-columns-from.is []
    ∙ ap (λ i. counts_at c.args.columns.now i) c.from-in-loop-dim.ensures in
    rows_pushed (row_by_counts c.args.shape c.args.added c.args.columns.now) c.loop-dim.rows.items c.push.new.self.items c.loop-dim.dim c.in_ok-row.row c.in_ok-push.ensures.items c.loop-dim.invariant
    (c.in_ok-row.ensures.row ∙ ap (λ b. row_by b c.args.added c.index-columns-from.result) c.bits_of.ensures.bits
    ∙ ap (λ counts. row_by (bits_of c.args.shape c.loop-dim.dim) c.args.added counts) column)
    c.in_ok-row.ensures.valid
