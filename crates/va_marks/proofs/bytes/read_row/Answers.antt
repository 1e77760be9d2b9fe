use Rattle.std.proofs.Common.{◌+◌, ◌*◌, get_or, ap, ◌∙◌}
use Rattle.va_core.specs.MarkBytes.{mark_in}
use Rattle.va_marks.proofs.Pushes.{pushed_by}
use Rattle.va_marks.proofs.bytes.read_row.Goals as goal

pub loop-t-preserved : goal.loop-t-preserved
loop-t-preserved c = pushed_by (λ t. mark_in c.args.bytes.now (c.args.at + 2 * t)) c.loop-t.marks.items c.push.new.self.items c.loop-t.t _ c.in_ok-push.ensures.items c.loop-t.invariant
    (ap (λ n. n * 256 + c.from-in-loop-t.result) c.from.ensures ∙ ap (λ n. get_or c.args.bytes.now (c.args.at + 2 * c.loop-t.t) 0 * 256 + n) c.from-in-loop-t.ensures)
