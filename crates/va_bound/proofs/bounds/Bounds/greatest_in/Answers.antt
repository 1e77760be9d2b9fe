use Rattle.std.proofs.Common.{◌≡◌, ap, arith}
use Rattle.va_bound.specs.Tables.{Table}
use Rattle.va_bound.proofs.Tables.{values_are_highest}
use Rattle.va_bound.proofs.bounds.Bounds.greatest_in.Goals as goal

pub returns : goal.returns
returns c marks query are names =
    let dims : c.self.inside.dims ≡ c.args.self.now.dims = ap (λ (table : Table). table.dims) c.self.view_is in
    values_are_highest marks query c.args.self.now c.args.codes.now c.loop-dim.out are names (omega arith) (λ dim h. c.loop-dim.invariant dim (omega (arith, h, dims)))
