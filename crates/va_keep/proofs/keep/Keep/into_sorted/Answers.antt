use Rattle.std.proofs.Common.{◌∙◌, ap}
use Rattle.std.specs.BinaryHeap.{heap_items}
use Rattle.va_core.proofs.Ranking.{ascending_is_only, sorted_in_order}
use Rattle.va_keep.specs.Kept.{Kept}
use Rattle.va_keep.proofs.keep.Keep.into_sorted.Goals as goal

pub returns-clause-held : goal.returns-clause-held
returns-clause-held c =
    ascending_is_only (heap_items c.self.inside.heap) c.into_sorted_vec.result.items c.into_sorted_vec.ensures.permutation (sorted_in_order c.into_sorted_vec.result.items (c.into_sorted_vec.ensures.sorted c.self.invariant.order))
    ∙ ap (λ (kept : Kept). kept.pairs) c.self.view_is

pub returns-clause-order : goal.returns-clause-order
returns-clause-order c = sorted_in_order c.into_sorted_vec.result.items (c.into_sorted_vec.ensures.sorted c.self.invariant.order)
