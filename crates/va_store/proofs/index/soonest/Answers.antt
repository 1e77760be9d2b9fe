use Rattle.std.proofs.Common.{arith}
use Rattle.va_store.proofs.Sorted.{soonest_done, soonest_more}
use Rattle.va_store.proofs.index.soonest.Goals as goal

pub loop-at-preserved : goal.loop-at-preserved
loop-at-preserved c = soonest_more c.loop-at.at c.args.entries.now _ _ (omega arith) (omega arith) c.sooner-found.ensures c.loop-at.invariant

pub returns : goal.returns
returns c = soonest_done c.loop-at.at c.args.entries.now c.loop-at.found c.loop-at-test.false c.loop-at.auto.at-end c.loop-at.invariant
