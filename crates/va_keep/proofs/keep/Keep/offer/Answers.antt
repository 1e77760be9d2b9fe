use Rattle.std.proofs.Common.{◌≡◌, ◌-◌, ◌∙◌, List, length, take, slice_get, true, false, ap, sym, arith}
use Rattle.std.specs.BinaryHeap.{heap_items, heap_len}
use Rattle.va_core.specs.declared.pair.Pair.{Pair}
use Rattle.va_core.specs.Ranking.{ascending, placed}
use Rattle.va_core.proofs.Ranking.{length_ascending, ascending_in_order}
use Rattle.va_core.specs.Kth.{is_beyond}
use Rattle.va_keep.specs.declared.keep.Keep.TheInside.{Inside}
use Rattle.va_keep.proofs.Offering.{same_kept, one_more, offer_kept, offer_refused}
use Rattle.va_keep.proofs.keep.Keep.offer.Goals as goal
use Rattle.va_keep.proofs.keep.Keep.offer.Goals.{then-len-self+else-is_beyond, else-len-self}

pub returns-then-is_beyond : goal.returns-then-is_beyond
returns-then-is_beyond c =
    let count : length (ascending (heap_items c.self.inside.heap)) ≡ heap_len c.self.inside.heap = length_ascending (heap_items c.self.inside.heap) ∙ (omega arith) in
    let full : heap_len c.self.inside.heap ≡ c.self.inside.most = omega arith in
    let beyond : is_beyond (slice_get (ascending (heap_items c.self.inside.heap)) (c.self.inside.most - 1)) c.args.pair ≡ true = rw full at (sym c.is_beyond.ensures ∙ c.if-is_beyond.true) in
    rw (sym c.self.view_is) (ap (λ (pairs : List Pair). record { most = c.self.inside.most; pairs = pairs })
    (offer_refused c.self.inside.most c.args.pair (ascending (heap_items c.self.inside.heap)) c.self.invariant.some (ascending_in_order (heap_items c.self.inside.heap)) (omega arith) beyond))

pub returns : goal.returns
returns c = elim c.if-len-self.branch [
  | then-len-self+else-is_beyond w ↦
      let held : List Pair = ascending (heap_items c.self.inside.heap) in
      let count : length held ≡ heap_len c.self.inside.heap = length_ascending (heap_items c.self.inside.heap) ∙ (omega arith) in
      let full : heap_len c.self.inside.heap ≡ c.self.inside.most = omega arith in
      let within : is_beyond (slice_get held (c.self.inside.most - 1)) c.args.pair ≡ false = rw full at (sym w.is_beyond.ensures ∙ w.if-is_beyond.false) in
      let rest : ascending (heap_items w.drop_greatest.new.heap) ≡ take (c.self.inside.most - 1) held = rw full at w.drop_greatest.ensures.rest in
      rw (sym c.self.view_is) (same_kept _ _ _ _ (ap (λ (i : Inside). i.most) w.self-inside-is)
      (c.add.ensures.more
      ∙ (ap (λ (i : Inside). placed c.args.pair (ascending (heap_items i.heap))) w.self-inside-is
      ∙ (ap (placed c.args.pair) rest
      ∙ offer_kept c.self.inside.most c.args.pair held c.self.invariant.some (omega arith) within))))
  | else-len-self w ↦
      let held : List Pair = ascending (heap_items c.self.inside.heap) in
      let count : length held ≡ heap_len c.self.inside.heap = length_ascending (heap_items c.self.inside.heap) ∙ (omega arith) in
      rw (sym c.self.view_is) (same_kept _ _ _ _ (ap (λ (i : Inside). i.most) w.self-inside-is)
      (c.add.ensures.more
      ∙ (ap (λ (i : Inside). placed c.args.pair (ascending (heap_items i.heap))) w.self-inside-is
      ∙ one_more c.self.inside.most c.args.pair held (omega arith))))
]
