use Rattle.std.proofs.Common.{sym, arith}
use Rattle.va_lang.proofs.Splitting.{after_nothing}
use Rattle.va_lang.proofs.numbers.first_part.Goals as goal

pub loop-at-init : goal.loop-at-init
loop-at-init c = record { within = omega arith; split = sym (after_nothing c.args.separator c.args.bytes.now) }
