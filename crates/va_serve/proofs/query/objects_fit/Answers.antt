use Rattle.std.proofs.Common.{◌≡◌, ◌∙◌, arith, length, sym}
use Rattle.va_serve.proofs.Queries.{length_right, length_wrong}
use Rattle.va_serve.proofs.query.objects_fit.Goals as goal

pub returns-then-object-from : goal.returns-then-object-from
returns-then-object-from c =
    sym (c.loop-i.invariant ∙ length_wrong c.args.dims c.args.room.now.objects c.loop-i.i c.object.result.now c.object.ensures (λ same. c.if-object-from.true (omega (arith, same, c.from.ensures))))

pub loop-i-preserved : goal.loop-i-preserved
loop-i-preserved c =
    let same : length c.object.result.now ≡ c.args.dims = omega (arith, c.if-object-from.false, c.from.ensures) in
    c.loop-i.invariant ∙ length_right c.args.dims c.args.room.now.objects c.loop-i.i c.object.result.now c.object.ensures same
