use Rattle.std.proofs.Common.{arith}
use Rattle.va_serve.proofs.Numbers.{open_most}
use Rattle.va_serve.proofs.reading.open_count.Goals as goal

pub overflow_add-count : goal.overflow_add-count
overflow_add-count c = omega (arith, c.loop-cursor.invariant, open_most c.args.cursors.now, c.requires)
