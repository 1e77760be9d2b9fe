use Rattle.std.proofs.Common.{[], ◌∙◌, sym, subst}
use Rattle.va_core.specs.Marks.{HasShape}
use Rattle.va_marks.proofs.Marking.{marks_of_has_shape, rows_over_none}
use Rattle.va_marks.proofs.marks.Marks.equal.Goals as goal

pub returns-in-Ok-clause-marks : goal.returns-in-Ok-clause-marks
returns-in-Ok-clause-marks c = c.from_rows.ensures.marks ∙ rows_over_none c.args.shape c.in-Ok.rows.items c.in-Ok.ensures

pub returns-in-Ok-clause-shape : goal.returns-in-Ok-clause-shape
returns-in-Ok-clause-shape c = subst (HasShape c.args.shape) (sym (returns-in-Ok-clause-marks c)) (marks_of_has_shape c.args.shape [])
