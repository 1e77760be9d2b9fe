use Rattle.std.proofs.Common.{◌++◌, arith}
use Rattle.va_script.specs.Script.{vector_text}
use Rattle.va_script.proofs.Vectors.{begun, more, spent}
use Rattle.va_script.proofs.writing.push_vector.Goals as goal

pub loop-place-init : goal.loop-place-init
loop-place-init c =
    rw (c.in_ok-push_number.ensures, c.from.ensures)
    (begun c.args.line.now.items c.args.vector.now (omega (arith, c.told-vector)))

pub loop-place-preserved : goal.loop-place-preserved
loop-place-preserved c =
    rw (c.in_ok-push_number-2.ensures, c.in_ok-push.ensures.items, c.from-in-loop-place.ensures)
    (more c.loop-place.line.items c.args.vector.now (c.args.line.now.items ++ vector_text c.args.vector.now) c.loop-place.place
    (omega (arith, c.told-vector, c.loop-place-test.true)) c.loop-place.invariant)

pub returns : goal.returns
returns c =
    spent c.loop-place.line.items c.args.vector.now (c.args.line.now.items ++ vector_text c.args.vector.now) c.loop-place.place
    (omega (arith, c.told-vector, c.loop-place-test.false)) c.loop-place.invariant
