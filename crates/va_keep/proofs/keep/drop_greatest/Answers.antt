use Rattle.std.proofs.Common.{arith}
use Rattle.std.proofs.lemmas.Option.{IfSome_then}
use Rattle.std.specs.BinaryHeap.{heap_items, heap_len}
use Rattle.va_keep.proofs.Heaping.{popped}
use Rattle.va_keep.proofs.keep.drop_greatest.Goals as goal

pub returns-clause-rest : goal.returns-clause-rest
returns-clause-rest c =
    popped (heap_items c.args.heap.now) (heap_items c.pop.new.self) (heap_len c.args.heap.now) c.pop.result (omega arith) c.pop.ensures.variant c.requires.some c.pop.ensures.permutation
    (IfSome_then c.pop.result c.pop.ensures.below_top (λ x h. h c.requires.order))
