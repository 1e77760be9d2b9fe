use Rattle.std.proofs.Common.{◌≡◌, true, sym, ◌∙◌}
use Rattle.va_cert.specs.Reasons as reasons
use Rattle.va_check.proofs.Counted.{counted_more, entry_next}
use Rattle.va_check.proofs.form.first_bad_entry.Goals as goal

pub loop-taken-preserved : goal.loop-taken-preserved
loop-taken-preserved c =
    let good : reasons.is_entry c.args.dims c.args.boxes.now c.loop-taken.before c.taken-item.result ≡ true = sym c.is_entry.ensures ∙ c.if-not-is_entry.false in record {
      few = counted_more c.args.dims c.loop-taken.position c.loop-taken.before c.args.boxes.now c.taken-item.result good c.loop-taken.invariant.few;
      rest = entry_next c.args.dims c.loop-taken.position c.loop-taken.before c.args.boxes.now c.args.fetched.now c.loop-taken.taken-index c.taken-item.result c.loop-taken-test.true c.taken-item.is good ∙ c.loop-taken.invariant.rest;
    }
