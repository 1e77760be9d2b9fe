use Rattle.std.proofs.Common.{List, Some, ap, ◌∙◌}
use Rattle.serde_json.specs.View.{items_view}
use Rattle.serde_json.specs.declared.value.Value.{Value}
use Rattle.va_cert.proofs.Listed.{listed}
use Rattle.va_cert.proofs.shape.list_in.Goals as goal

pub returns-in-Some : goal.returns-in-Some
returns-in-Some c = listed _ c.deref.result.now (ap (λ (vs : List Value). Some (items_view vs)) c.deref.ensures.value ∙ c.in-Some.ensures)
