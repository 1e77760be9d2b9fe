use Rattle.std.proofs.Common.{◌≡◌, ◌∷◌, ◌<◌, length, sym, subst, arith}
use Rattle.std.specs.BinaryHeap.{heap_items, heap_len, heap_capacity}
use Rattle.std.specs.List.Sorted.{IsPermutation}
use Rattle.va_keep.specs.Queued.{Queued, entries_of}
use Rattle.va_keep.proofs.Queueing.{moved, count}
use Rattle.va_keep.proofs.queue.Queue.push.Goals as goal

pub returns-clause-more : goal.returns-clause-more
returns-clause-more c =
    let long : length (entries_of (heap_items c.self.inside.heap)) ≡ length (heap_items c.self.inside.heap) = count (heap_items c.self.inside.heap) in
    let few : length (entries_of (heap_items c.self.inside.heap)) < c.self.inside.room = subst (λ (q : Queued). length q.entries < q.room) (sym c.self.view_is) c.requires in
    let room : heap_len c.self.inside.heap < heap_capacity c.self.inside.heap = omega (arith, long, few, c.self.invariant.fits) in
    let all : IsPermutation (record { 0 = c.args.entry } ∷ heap_items c.self.inside.heap) (heap_items c.push.new.self) = grind (arith, c.push.ensures.permutation, c.push.ensures.succeeds, room) in
    subst (λ (q : Queued). IsPermutation (c.args.entry ∷ q.entries) (entries_of (heap_items c.push.new.self))) c.self.view_is (moved _ _ all)
