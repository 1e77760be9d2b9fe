use Rattle.std.proofs.Common.{◌/◌, ◌%◌, ◌++◌, take, get_or, ap, sym, ◌∙◌, arith}
use Rattle.std.proofs.lemmas.List.{append_assoc}
use Rattle.va_core.specs.MarkBytes.{row_bytes, two_bytes}
use Rattle.va_marks.proofs.Writing.{two_written, marks_written}
use Rattle.va_marks.proofs.bytes.write_row.Goals as goal

pub loop-mark-preserved : goal.loop-mark-preserved
loop-mark-preserved c = record {
  place = omega arith;
  written =
      two_written c.loop-mark.out _ c.loop-mark.at (get_or c.args.marks.now c.loop-mark.mark-index 0 / 256) (get_or c.args.marks.now c.loop-mark.mark-index 0 % 256) (omega arith) c.loop-mark.invariant.written
      ∙ append_assoc (take c.args.at c.args.out.now) (row_bytes (take c.loop-mark.mark-index c.args.marks.now)) (two_bytes (get_or c.args.marks.now c.loop-mark.mark-index 0))
      ∙ ap (λ xs. take c.args.at c.args.out.now ++ xs) (sym (marks_written c.args.marks.now c.loop-mark.mark-index (omega arith)));
}
