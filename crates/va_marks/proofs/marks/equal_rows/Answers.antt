use Rattle.std.proofs.Common.{[], ◌∙◌, ap}
use Rattle.va_core.specs.Shape.{bits_of}
use Rattle.va_core.specs.Marks.{row_of}
use Rattle.va_marks.proofs.Pushes.{rows_pushed}
use Rattle.va_marks.proofs.marks.equal_rows.Goals as goal

pub loop-dim-preserved : goal.loop-dim-preserved
loop-dim-preserved c = rows_pushed (λ dim. row_of (bits_of c.args.shape dim) []) c.loop-dim.rows.items c.push.new.self.items c.loop-dim.dim c.in_ok-row.row c.in_ok-push.ensures.items c.loop-dim.invariant
    (c.in_ok-row.ensures.row ∙ ap (λ b. row_of b []) c.bits_of.ensures.bits) c.in_ok-row.ensures.valid
