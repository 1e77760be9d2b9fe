use Rattle.std.proofs.Common.{arith, get_or, length, ◌<◌, ◌∙◌}
use Rattle.va_serve.proofs.Numbers.{release_step, some_left}
use Rattle.va_serve.proofs.ranking.release.Goals as goal

pub loop-place-preserved : goal.loop-place-preserved
loop-place-preserved c = record {
  same = c.release_one.ensures.length ∙ c.loop-place.invariant.same;
  fewer = λ p inside. release_step p c.loop-place.place-index _ _ _ c.args.places.now (omega arith) (c.loop-place.invariant.fewer p inside) (c.release_one.ensures.fewer p (omega (arith, inside, c.loop-place.invariant.same)));
}

pub release_one-requires : goal.release_one-requires
release_one-requires c = record {
  some = λ inside.
      let first : get_or c.args.places.now c.loop-place.place-index 0 < length c.args.held.now = omega (arith, inside, c.loop-place.invariant.same) in
      some_left c.loop-place.place-index _ _ c.args.places.now (omega arith) (c.loop-place.invariant.fewer _ first) (c.requires.some _ first);
}
