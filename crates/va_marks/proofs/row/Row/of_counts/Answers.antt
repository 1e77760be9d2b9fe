use Rattle.std.proofs.Common.{◌∙◌, ap, sym, arith, length}
use Rattle.std.proofs.lemmas.Result.{IfOk-weaker}
use Rattle.va_marks.specs.Rule.{row_by}
use Rattle.va_marks.proofs.Quantiles.{valid_counted, length-row_by, marks_at_most, row_by_none}
use Rattle.va_marks.proofs.row.Row.of_counts.Goals as goal

pub new-requires-clause-valid : goal.new-requires-clause-valid
new-requires-clause-valid c = rw c.in_ok-marks.ensures (valid_counted c.args.bits c.args.added _ (omega arith))

pub new-requires-clause-most : goal.new-requires-clause-most
new-requires-clause-most c = marks_at_most c.args.bits _ c.requires.bits (ap length c.in_ok-marks.ensures ∙ length-row_by c.args.bits c.args.added _)

pub returns-then-added-eq0-clause-row : goal.returns-then-added-eq0-clause-row
returns-then-added-eq0-clause-row c =
    IfOk-weaker c.equal.result _ _ (λ row is. is ∙
    row_by_none c.args.bits c.args.counts.now ∙ ap (λ n. row_by c.args.bits n c.args.counts.now) (sym c.if-added-eq0.true))
    c.equal.ensures.row
