use Rattle.std.proofs.Common.{◌∙◌}
use Rattle.serde_json.specs.View.{view}
use Rattle.va_cert.specs.Reads.{are_numbers}
use Rattle.va_cert.proofs.Listed.{of_kind}
use Rattle.va_cert.proofs.shape.are_lists.Goals as goal

pub returns-in-Some : goal.returns-in-Some
returns-in-Some c = c.all_lists.ensures ∙ of_kind are_numbers (view c.args.value.now) c.in-Some.list.now c.in-Some.ensures
