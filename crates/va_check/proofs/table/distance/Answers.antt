use Rattle.std.proofs.Common.{arith}
use Rattle.va_check.proofs.Tabled.{sum_ends}
use Rattle.va_check.proofs.table.distance.Goals as goal

pub returns : goal.returns
returns c = sum_ends c.args.cert.now c.args.table.now c.args.vector.now c.loop-dim.dim c.loop-dim.total (omega arith) c.loop-dim.invariant.sum c.requires.query c.requires.table c.requires.len (λ k. let h = c.type_inv.vector k in omega (arith, h))
