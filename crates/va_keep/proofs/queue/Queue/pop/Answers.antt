use Rattle.std.proofs.Common.{◌∷◌, sym}
use Rattle.std.specs.BinaryHeap.{heap_items}
use Rattle.va_keep.proofs.Queueing.{moved, top_is_least}
use Rattle.va_keep.proofs.queue.Queue.pop.Goals as goal
use Rattle.va_keep.proofs.queue.Queue.pop.Goals.{in-Some, in-None}

pub returns-clause-rest : goal.returns-clause-rest
returns-clause-rest c = elim c.match-pop.branch [
  | in-Some w ↦ rw (w.result-is, sym c.self.view_is) (moved (heap_items c.self.inside.heap) (w.in-Some.field-0 ∷ heap_items c.pop.new.self) w.in-Some.ensures.permutation)
  | in-None w ↦ rw w.result-is tt
]

pub returns-clause-least : goal.returns-clause-least
returns-clause-least c = elim c.match-pop.branch [
  | in-Some w ↦ rw w.result-is (top_is_least w.in-Some.field-0 (heap_items c.pop.new.self) (w.in-Some.ensures.below_top c.self.invariant.order))
  | in-None w ↦ rw w.result-is tt
]
