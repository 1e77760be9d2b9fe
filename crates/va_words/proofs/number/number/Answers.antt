use Rattle.std.proofs.Common.{rules, ◌≡◌, true, false, Err, sym, arith}
use Rattle.va_words.specs.Options.{begins_above_zero}
use Rattle.va_words.proofs.Numerals.{begins_otherwise, parsed, unparsed}
use Rattle.va_words.proofs.number.number.Goals as goal

pub returns-then-not-begins_above_zero : goal.returns-then-not-begins_above_zero
returns-then-not-begins_above_zero c =
    let other : begins_above_zero c.args.text.now ≡ false = search rules in
    sym (begins_otherwise c.args.most c.args.text.now (omega (arith, c.ranges.most.fits)) other)

pub returns-in_default : goal.returns-in_default
returns-in_default c =
    sym (unparsed c.args.text.now (Err c.in_default.field-0) c.args.most c.in_default.ensures.value.0 (omega (arith, c.ranges.most.fits)) (λ n fits bad. cc))

pub returns-then-number-most : goal.returns-then-number-most
returns-then-number-most c =
    let begins : begins_above_zero c.args.text.now ≡ true = search rules in
    let reads = c.in-Ok.ensures.value.0 in
    sym (parsed c.args.text.now c.in-Ok.number c.args.most begins reads.0.0 reads.1 c.if-number-most.true (omega (arith, c.ranges.most.fits)))
