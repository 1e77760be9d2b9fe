use Rattle.std.proofs.Common.{◌∙◌, ap, [], length}
use Rattle.va_marks.proofs.Quantiles.{valid_equal, length-row_of, marks_at_most}
use Rattle.va_marks.proofs.row.Row.equal.Goals as goal

pub new-requires-clause-valid : goal.new-requires-clause-valid
new-requires-clause-valid c = rw c.in_ok-marks.ensures (valid_equal c.args.bits c.requires)

pub new-requires-clause-most : goal.new-requires-clause-most
new-requires-clause-most c = marks_at_most c.args.bits _ c.requires (ap length c.in_ok-marks.ensures ∙ length-row_of c.args.bits [])
