use Rattle.std.proofs.Common.{◌∷◌, arith}
use Rattle.std.specs.BinaryHeap.{heap_items}
use Rattle.std.specs.List.Sorted.{IsPermutation}
use Rattle.va_core.proofs.Ranking.{ascending_permuted}
use Rattle.va_keep.proofs.keep.add.Goals as goal

pub returns-clause-more : goal.returns-clause-more
returns-clause-more c =
    let moved : IsPermutation (c.args.pair ∷ heap_items c.args.heap.now) (heap_items c.push.new.self) = grind (arith, c.push.ensures.permutation, c.push.ensures.succeeds) in
    ascending_permuted (c.args.pair ∷ heap_items c.args.heap.now) (heap_items c.push.new.self) moved
