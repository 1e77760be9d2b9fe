use Rattle.std.proofs.Common.{◌≡◌, ◌*◌, ◌<◌, ℕ, get_or, ap, ◌∙◌, arith}
use Rattle.va_core.specs.Distance as distances
use Rattle.va_dist.proofs.Objects.{part_step, product_most}
use Rattle.va_dist.proofs.query.Query.part.Goals as goal

pub loop-object-preserved : goal.loop-object-preserved
loop-object-preserved c =
    let step = part_step c.from-weight.result c.args.dim c.args.value c.args.self.now.objects c.loop-object.object c.object.result.now c.object.ensures.object in
    let gap : c.square_gap.result ≡ distances.square_gap c.args.value (get_or c.object.result.now c.args.dim 0) =
    c.square_gap.ensures.square ∙ ap (λ (dim : ℕ). distances.square_gap c.args.value (get_or c.object.result.now dim 0)) c.from-in-loop-object.ensures in
    let weighed : c.from-weight.result * c.square_gap.result ≡ c.from-weight.result * distances.square_gap c.args.value (get_or c.object.result.now c.args.dim 0) = ap (λ (n : ℕ). c.from-weight.result * n) gap in
    let small : c.from-weight.result < 65536 = omega arith in
    let most = product_most c.from-weight.result c.square_gap.result small c.square_gap.ensures.most in
    record {
      sum = omega (arith, step, weighed, c.loop-object.invariant.sum);
      most = omega (arith, most, c.loop-object.invariant.most);
    }
