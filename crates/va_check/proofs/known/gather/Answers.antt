use Rattle.std.proofs.Common.{sym, ◌∙◌}
use Rattle.va_check.proofs.Gathering.{known_next, known_stays, least_next, least_stays}
use Rattle.va_check.proofs.known.gather.Goals as goal
use Rattle.va_check.proofs.known.gather.Goals.{then-told+in_ok-push, else-told}

pub loop-row-preserved : goal.loop-row-preserved
loop-row-preserved c = elim c.if-told.branch [
  | then-told+in_ok-push w ↦ record {
    known = known_next c.args.cert.now c.as_slice-boxes.result.now c.loop-row.row-index c.tell-told.result.dist c.row-item.result c.loop-row.known.items c.if-told.known.items c.loop-row-test.true c.row-item.is (sym c.tell-told.ensures.known ∙ w.if-told.true) c.tell-told.ensures.dist c.loop-row.invariant.known (cc (w.in_ok-push.ensures.items));
    least = least_stays c.args.cert.now c.as_slice-boxes.result.now c.loop-row.row-index c.row-item.result c.loop-row.least c.if-told.least c.loop-row-test.true c.row-item.is (sym c.tell-told.ensures.known ∙ w.if-told.true) c.loop-row.invariant.least w.least-is;
  }
  | else-told w ↦ record {
    known = known_stays c.args.cert.now c.as_slice-boxes.result.now c.loop-row.row-index c.row-item.result c.loop-row.known.items c.if-told.known.items c.loop-row-test.true c.row-item.is (sym c.tell-told.ensures.known ∙ w.if-told.false) c.loop-row.invariant.known (cc);
    least = least_next c.args.cert.now c.as_slice-boxes.result.now c.loop-row.row-index c.tell-told.result.dist c.row-item.result c.loop-row.least c.if-told.least c.loop-row-test.true c.row-item.is (sym c.tell-told.ensures.known ∙ w.if-told.false) c.tell-told.ensures.dist c.loop-row.invariant.least (w.least-is ∙ w.lower_of-least.ensures);
  }
]
