use Rattle.std.proofs.Common.{arith, take}
use Rattle.va_serve.proofs.RecordLines.{cut_memory, cut_too_long}
use Rattle.va_serve.proofs.importing.take_all.Goals as goal

pub returns-then-is_err-clause-cut : goal.returns-then-is_err-clause-cut
returns-then-is_err-clause-cut g c =
    let so_far = c.loop-left.invariant in
    let took = c.in-Ok.ensures in
    cut_memory g.S.Source c.args.limit c.loop-left.bytes.items c.args.source.now c.loop-left.source c.take_front.new.source so_far.taken so_far.quiet
    (take c.in-Ok.count c.take_front.new.piece) took.taken took.cause.stayed
    (omega (arith, so_far.room, took.bound, took.front, c.min-room.ensures))

pub returns-in-Ok-take_front-clause-cut : goal.returns-in-Ok-take_front-clause-cut
returns-in-Ok-take_front-clause-cut g c =
    let so_far = c.loop-left.invariant in
    let took = c.in-Ok-take_front.ensures in
    cut_too_long g.S.Source c.args.limit c.loop-left.bytes.items c.args.source.now c.loop-left.source c.take_front-2.new.source so_far.taken so_far.quiet
    (take c.in-Ok-take_front.field-0 c.take_front-2.new.piece) took.taken took.cause.stayed
    (omega (arith, so_far.room, c.loop-left-test.false))
    (omega (arith, took.bound, took.front, c.in-Ok-take_front.field-0-test.1))
