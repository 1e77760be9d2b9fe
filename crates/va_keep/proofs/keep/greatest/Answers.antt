use Rattle.std.proofs.Common.{◌∙◌, arith}
use Rattle.std.proofs.lemmas.Option.{IfSome_then}
use Rattle.std.specs.BinaryHeap.{heap_items, heap_len}
use Rattle.va_keep.proofs.Heaping.{peeked}
use Rattle.va_keep.proofs.keep.greatest.Goals as goal

pub returns : goal.returns
returns c =
    c.copied.ensures
    ∙ peeked (heap_items c.args.heap.now) (heap_len c.args.heap.now) c.peek.result (omega arith) c.peek.ensures.variant c.peek.ensures.lookup
    (IfSome_then c.peek.result c.peek.ensures.greatest (λ x h. h c.requires))
