use Rattle.std.proofs.Common.{◌≡◌, ◌∙◌, get_or, length, ap, arith}
use Rattle.va_core.specs.Shape.{sum_below}
use Rattle.va_bound.specs.Tables.{Table, entry_at}
use Rattle.va_bound.proofs.Tables.{sum_is_high, sum_is_low}
use Rattle.va_bound.proofs.bounds.Bounds.both.Goals as goal

pub returns-clause-low : goal.returns-clause-low
returns-clause-low c marks query are names =
    let dims : c.self.inside.dims ≡ c.args.self.now.dims = ap (λ (table : Table). table.dims) c.self.view_is in
    let all : c.loop-dim.dim ≡ length c.args.codes.now = omega (arith, dims) in
    c.loop-dim.invariant.low
    ∙ (ap (sum_below (λ dim. (entry_at c.args.self.now dim (get_or c.args.codes.now dim 0)).least)) all
    ∙ sum_is_low marks query c.args.self.now c.args.codes.now are names)

pub returns-clause-high : goal.returns-clause-high
returns-clause-high c marks query are names =
    let dims : c.self.inside.dims ≡ c.args.self.now.dims = ap (λ (table : Table). table.dims) c.self.view_is in
    let all : c.loop-dim.dim ≡ length c.args.codes.now = omega (arith, dims) in
    c.loop-dim.invariant.high
    ∙ (ap (sum_below (λ dim. (entry_at c.args.self.now dim (get_or c.args.codes.now dim 0)).greatest)) all
    ∙ sum_is_high marks query c.args.self.now c.args.codes.now are names)
