use Rattle.va_check.proofs.Needing.{needless_found, needless_passed}
use Rattle.va_check.proofs.rows.first_needless.Goals as goal

pub returns-then-is_needless : goal.returns-then-is_needless
returns-then-is_needless c = needless_found c.args.cert.now c.as_slice-taken-items.result.now c.loop-taken.taken-index c.taken-item.result c.args.last c.requires.formed c.as_slice-taken-items.ensures c.requires.last c.loop-taken-test.true c.taken-item.is c.is_needless.result c.is_needless.ensures c.if-is_needless.true c.loop-taken.invariant

pub loop-taken-preserved : goal.loop-taken-preserved
loop-taken-preserved c = needless_passed c.args.cert.now c.as_slice-taken-items.result.now c.loop-taken.taken-index c.taken-item.result c.args.last c.requires.formed c.as_slice-taken-items.ensures c.requires.last c.loop-taken-test.true c.taken-item.is c.is_needless.result c.is_needless.ensures c.if-is_needless.false c.loop-taken.invariant
