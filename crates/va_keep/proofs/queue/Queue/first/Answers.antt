use Rattle.std.proofs.Common.{subst}
use Rattle.std.specs.BinaryHeap.{heap_items}
use Rattle.va_core.specs.Sorting.{IsFloor}
use Rattle.va_keep.specs.Queued.{Queued, low_pair}
use Rattle.va_keep.proofs.Queueing.{top_is_least}
use Rattle.va_keep.proofs.queue.Queue.first.Goals as goal

pub returns-in-Some-clause-least : goal.returns-in-Some-clause-least
returns-in-Some-clause-least c = subst (λ (q : Queued). IsFloor low_pair c.in-Some.top.now.0 q.entries) c.self.view_is (top_is_least c.in-Some.top.now (heap_items c.self.inside.heap) (c.in-Some.ensures.greatest c.self.invariant.order))
