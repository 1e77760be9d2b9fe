use Rattle.std.proofs.Common.{length, sym, ap, ◌∙◌}
use Rattle.va_core.specs.Distance as distances
use Rattle.va_dist.proofs.Objects.{objects_count}
use Rattle.va_dist.proofs.query.Query.objects.Goals as goal

pub returns : goal.returns
returns c = sym (objects_count (length c.self.inside.weights.items) c.self.inside.count c.self.inside.bytes.items) ∙ ap (λ (query : distances.Query). length query.objects) c.self.view_is
