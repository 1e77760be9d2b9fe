use Rattle.std.proofs.Common.{arith}
use Rattle.csv.specs.Records.{fields_of}
use Rattle.va_csv.specs.Lines.{line_of}
use Rattle.va_csv.proofs.Lining.{begun, more}
use Rattle.va_csv.proofs.reading.line.Goals as goal

pub loop-place-init : goal.loop-place-init
loop-place-init c =
    rw (c.in_ok-push_field-2.ensures, c.in_ok-push.ensures.items, c.in_ok-push_field.ensures, c.in_ok-extend_from_slice.ensures.items, c.new-line.ensures.items)
    (begun (fields_of c.args.fields.now))

pub loop-place-preserved : goal.loop-place-preserved
loop-place-preserved c =
    rw (c.in_ok-push_field-3.ensures, c.in_ok-push-2.ensures.items)
    (more (fields_of c.args.fields.now) c.loop-place.place c.loop-place.line.items (line_of (fields_of c.args.fields.now))
    (omega (arith, c.len-place-end.ensures, c.loop-place-test.true)) c.loop-place.invariant)
