use Rattle.std.proofs.Common.{arith}
use Rattle.va_lang.proofs.Values.{too_large, none_else, some_else}
use Rattle.va_lang.proofs.numbers.digits_value.Goals as goal

pub returns-in_default-checked_mul : goal.returns-in_default-checked_mul
returns-in_default-checked_mul c =
    none_else _ _ (too_large c.loop-rest.value c.loop-rest.rest.now c.args.text.now (omega arith) c.loop-rest.invariant.value
    (grind (arith, c.in_default-checked_mul.ensures)))

pub returns-in_default-checked_add : goal.returns-in_default-checked_add
returns-in_default-checked_add c =
    none_else _ _ (too_large c.loop-rest.value c.loop-rest.rest.now c.args.text.now (omega arith) c.loop-rest.invariant.value
    (grind (arith, c.in_default-checked_add.ensures, c.in-Some.ensures, c.from.ensures)))

pub returns : goal.returns
returns c = some_else c.loop-rest.value c.loop-rest.rest.now c.args.text.now (omega arith) c.loop-rest.invariant.digits c.loop-rest.invariant.value c.loop-rest.invariant.fits
