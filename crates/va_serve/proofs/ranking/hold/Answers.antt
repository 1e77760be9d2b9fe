use Rattle.std.proofs.Common.{arith, get_or, length, ◌<◌, ◌∙◌}
use Rattle.va_serve.proofs.Numbers.{hold_step, room_left}
use Rattle.va_serve.proofs.ranking.hold.Goals as goal

pub loop-place-preserved : goal.loop-place-preserved
loop-place-preserved c = record {
  same = c.hold_one.ensures.length ∙ c.loop-place.invariant.same;
  more = λ p inside. hold_step p c.loop-place.place-index _ _ _ c.args.places.now (omega arith) (c.loop-place.invariant.more p inside) (c.hold_one.ensures.more p (omega (arith, inside, c.loop-place.invariant.same)));
}

pub hold_one-requires : goal.hold_one-requires
hold_one-requires c = record {
  room = λ inside.
      let first : get_or c.args.places.now c.loop-place.place-index 0 < length c.args.held.now = omega (arith, inside, c.loop-place.invariant.same) in
      room_left c.loop-place.place-index _ _ c.args.places.now (omega arith) (c.loop-place.invariant.more _ first) (c.requires.room _ first);
}
