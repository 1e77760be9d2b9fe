use Rattle.std.proofs.Common.{arith}
use Rattle.va_check.proofs.Tabled.{low_ends, high_ends}
use Rattle.va_check.proofs.table.bounds.Goals as goal

pub returns-clause-least : goal.returns-clause-least
returns-clause-least c = low_ends c.args.cert.now c.args.table.now c.args.low.now c.args.high.now c.loop-dim.dim c.loop-dim.least (omega arith) c.loop-dim.invariant.least c.requires.query c.requires.table c.requires.low c.requires.high c.requires.rises (λ k. let h = c.type_inv.high k in omega (arith, h))

pub returns-clause-greatest : goal.returns-clause-greatest
returns-clause-greatest c = high_ends c.args.cert.now c.args.table.now c.args.low.now c.args.high.now c.loop-dim.dim c.loop-dim.greatest (omega arith) c.loop-dim.invariant.greatest c.requires.query c.requires.table c.requires.low c.requires.high c.requires.rises (λ k. let h = c.type_inv.high k in omega (arith, h))
