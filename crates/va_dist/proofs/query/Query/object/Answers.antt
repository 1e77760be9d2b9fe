use Rattle.std.proofs.Common.{◌≡◌, ◌+◌, ◌-◌, ◌*◌, ◌≤◌, length, slice_get, sym, ap, ◌∙◌, arith}
use Rattle.va_core.specs.Distance as distances
use Rattle.va_dist.proofs.Objects.{objects_count, object_at, object_inside}
use Rattle.va_dist.proofs.query.Query.object.Goals as goal

pub slice_bounds-result-end : goal.slice_bounds-result-end
slice_bounds-result-end c =
    let count : length c.args.self.now.objects ≡ c.self.inside.count = ap (λ (query : distances.Query). length query.objects) (sym c.self.view_is) ∙ objects_count (length c.self.inside.weights.items) c.self.inside.count c.self.inside.bytes.items in
    let dims : c.len-dims.result ≡ length c.self.inside.weights.items = omega arith in
    let inside : c.from.result * length c.self.inside.weights.items + length c.self.inside.weights.items ≤ c.self.inside.count * length c.self.inside.weights.items = object_inside (length c.self.inside.weights.items) c.self.inside.count c.from.result (omega (arith, count, c.requires, c.from.ensures)) in
    let all : length c.deref.result.now ≡ length c.self.inside.bytes.items = ap length c.deref.ensures.value in
    rw dims (omega (arith, inside, all, c.self.invariant.filled))

pub returns-clause-object : goal.returns-clause-object
returns-clause-object c =
    let count : length c.args.self.now.objects ≡ c.self.inside.count = ap (λ (query : distances.Query). length query.objects) (sym c.self.view_is) ∙ objects_count (length c.self.inside.weights.items) c.self.inside.count c.self.inside.bytes.items in
    let dims : c.len-dims.result ≡ length c.self.inside.weights.items = omega arith in
    let width : c.from.result * length c.self.inside.weights.items + length c.self.inside.weights.items - c.from.result * length c.self.inside.weights.items ≡ length c.self.inside.weights.items = omega arith in
    rw (dims, c.deref.ensures.value, width, c.from.ensures)
    (ap (λ (query : distances.Query). slice_get query.objects c.args.i) (sym c.self.view_is) ∙ object_at (length c.self.inside.weights.items) c.self.inside.count c.args.i c.self.inside.bytes.items (omega (arith, count, c.requires)))
