use Rattle.std.proofs.Common.{◌≡◌, ℕ, List, length, ap, ◌∙◌, arith}
use Rattle.va_core.specs.Distance as distances
use Rattle.va_dist.proofs.Objects.{objects_step, none_left}
use Rattle.va_dist.proofs.query.Query.distance.Goals as goal

pub loop-i-preserved : goal.loop-i-preserved
loop-i-preserved c =
    let weights : c.deref.result.now ≡ c.args.self.now.weights = c.deref.ensures.value ∙ ap (λ (query : distances.Query). query.weights) c.self.view_is in
    let here : c.object_distance-total.result ≡ distances.object_distance c.args.self.now.weights c.object.result.now c.args.vector.now =
    c.object_distance-total.ensures.sum ∙ ap (λ (ws : List ℕ). distances.object_distance ws c.object.result.now c.args.vector.now) weights in
    let dims : length c.deref.result.now ≡ length c.self.inside.weights.items = ap length c.deref.ensures.value in
    let step = objects_step c.args.self.now.weights c.args.self.now.objects c.loop-i.i c.object.result.now c.args.vector.now c.object.ensures.object in
    record {
      sum = omega (arith, here, step, c.loop-i.invariant.sum);
      most = omega (arith, dims, c.self.invariant.most_dims, c.object_distance-total.ensures.most, c.loop-i.invariant.most);
    }

pub returns-clause-distance : goal.returns-clause-distance
returns-clause-distance c =
    let none = none_left c.args.self.now.weights c.args.self.now.objects c.loop-i.i c.args.vector.now (omega arith) in
    omega (arith, none, c.loop-i.invariant.sum)
