use Rattle.std.proofs.Common.{◌≡◌, ◌+◌, ◌-◌, arith}
use Rattle.va_core.specs.DistanceParts.{part_of}
use Rattle.va_bound.proofs.Extremes.{one_before}
use Rattle.va_bound.proofs.parts.extremes.Goals as goal

pub loop-at-init : goal.loop-at-init
loop-at-init c =
    let none : c.args.last - c.args.last ≡ 0 = omega arith in
    record {
      from = c.requires.order;
      upto = omega arith;
      extreme = rw none (c.of-entry.ensures.extreme (part_of c.args.query.now c.args.dim) c.part.ensures.part);
      small = c.of-entry.ensures.small c.part.ensures.most;
    }

pub loop-at-preserved : goal.loop-at-preserved
loop-at-preserved c =
    let further : c.args.last - (c.loop-at.at - 1) ≡ c.args.last - (c.loop-at.at - 1) - 1 + 1 = omega (arith, c.loop-at-test.true, c.loop-at.invariant.upto) in
    let rest = one_before (part_of c.args.query.now c.args.dim) c.loop-at.at c.args.last c.loop-at.entry (omega (arith, c.loop-at-test.true)) c.loop-at.invariant.upto c.loop-at.invariant.extreme in
    record {
      from = omega (arith, c.loop-at-test.true);
      upto = omega (arith, c.loop-at.invariant.upto);
      extreme = rw further (c.with_value_before-entry.ensures.extreme (part_of c.args.query.now c.args.dim) (c.args.last - (c.loop-at.at - 1) - 1) rest c.part-in-loop-at.ensures.part);
      small = c.with_value_before-entry.ensures.small c.loop-at.invariant.small c.part-in-loop-at.ensures.most;
    }
