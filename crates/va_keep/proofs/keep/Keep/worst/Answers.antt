use Rattle.std.proofs.Common.{◌≡◌, ◌∙◌, length, refl, sym, arith}
use Rattle.std.specs.BinaryHeap.{heap_items, heap_len}
use Rattle.va_core.specs.Ranking.{ascending}
use Rattle.va_core.proofs.Ranking.{length_ascending, ascending_in_order}
use Rattle.va_keep.specs.Kept.{Kept, worst}
use Rattle.va_keep.proofs.Offering.{worst_is_none, worst_of_full, worst_tells}
use Rattle.va_keep.proofs.keep.Keep.worst.Goals as goal

pub returns-then-len-self-clause-held : goal.returns-then-len-self-clause-held
returns-then-len-self-clause-held c =
    let count : length (ascending (heap_items c.self.inside.heap)) ≡ length (heap_items c.self.inside.heap) = length_ascending (heap_items c.self.inside.heap) in
    rw (sym c.self.view_is) (sym ((worst_is_none (record { most = c.self.inside.most; pairs = ascending (heap_items c.self.inside.heap) }) c.self.invariant.some).1 (omega arith)))

pub returns-then-len-self-clause-none : goal.returns-then-len-self-clause-none
returns-then-len-self-clause-none c =
    let count : length (ascending (heap_items c.self.inside.heap)) ≡ length (heap_items c.self.inside.heap) = length_ascending (heap_items c.self.inside.heap) in
    rw (sym c.self.view_is) (λ _. omega arith, λ _. refl)

pub returns-else-len-self-clause-held : goal.returns-else-len-self-clause-held
returns-else-len-self-clause-held c =
    let count : length (ascending (heap_items c.self.inside.heap)) ≡ heap_len c.self.inside.heap = length_ascending (heap_items c.self.inside.heap) ∙ (omega arith) in
    rw (sym c.self.view_is) (rw (sym count) at c.greatest.ensures ∙ sym (worst_of_full (record { most = c.self.inside.most; pairs = ascending (heap_items c.self.inside.heap) }) (omega arith)))

pub returns-else-len-self-clause-tells : goal.returns-else-len-self-clause-tells
returns-else-len-self-clause-tells c =
    let count : length (ascending (heap_items c.self.inside.heap)) ≡ heap_len c.self.inside.heap = length_ascending (heap_items c.self.inside.heap) ∙ (omega arith) in
    let kept : Kept = record { most = c.self.inside.most; pairs = ascending (heap_items c.self.inside.heap) } in
    let full : length kept.pairs ≡ kept.most = omega arith in
    let held : c.greatest.result ≡ worst kept = rw (sym count) at c.greatest.ensures ∙ sym (worst_of_full kept full) in
    rw (sym c.self.view_is) (worst_tells kept c.greatest.result c.self.invariant.some full (ascending_in_order (heap_items c.self.inside.heap)) held)

pub returns-then-len-self-clause-few : goal.returns-then-len-self-clause-few
returns-then-len-self-clause-few c =
    let count : length (ascending (heap_items c.self.inside.heap)) ≡ heap_len c.self.inside.heap = length_ascending (heap_items c.self.inside.heap) ∙ (omega arith) in
    rw (sym c.self.view_is) (omega arith)

pub returns-else-len-self-clause-few : goal.returns-else-len-self-clause-few
returns-else-len-self-clause-few c =
    let count : length (ascending (heap_items c.self.inside.heap)) ≡ heap_len c.self.inside.heap = length_ascending (heap_items c.self.inside.heap) ∙ (omega arith) in
    rw (sym c.self.view_is) (omega arith)

pub returns-else-len-self-clause-none : goal.returns-else-len-self-clause-none
returns-else-len-self-clause-none c =
    let count : length (ascending (heap_items c.self.inside.heap)) ≡ heap_len c.self.inside.heap = length_ascending (heap_items c.self.inside.heap) ∙ (omega arith) in
    let kept : Kept = record { most = c.self.inside.most; pairs = ascending (heap_items c.self.inside.heap) } in
    let held : c.greatest.result ≡ worst kept = rw (sym count) at c.greatest.ensures ∙ sym (worst_of_full kept (omega arith)) in
    rw (sym c.self.view_is, held) (worst_is_none kept c.self.invariant.some)
