use Rattle.std.proofs.Common.{◌++◌, None, List, get_or, ◌∙◌, sym, ap, arith}
use Rattle.va_store.specs.Index.{entry_at}
use Rattle.va_store.specs.declared.index.LiveId.{LiveId}
use Rattle.va_store.proofs.Listing.{listed_next}
use Rattle.va_store.proofs.index.live_ids.Goals as goal

pub loop-place-preserved : goal.loop-place-preserved
loop-place-preserved c =
    let before = c.loop-place.invariant in
    record {
      items = c.in_ok-add_live.ensures.items ∙ ap (λ (l : List LiveId). l ++ entry_at c.loop-place.place (get_or c.args.ids.now c.loop-place.place None)) before.items ∙ sym (listed_next c.args.ids.now c.loop-place.place c.loop-place-test.true);
      room = omega (arith, before.room, c.add_live.ensures.room);
    }
