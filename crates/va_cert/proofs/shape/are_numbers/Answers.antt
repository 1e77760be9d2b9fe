use Rattle.std.proofs.Common.{◌∙◌}
use Rattle.serde_json.specs.View.{view}
use Rattle.va_cert.specs.Reads.{is_number}
use Rattle.va_cert.proofs.Listed.{of_kind}
use Rattle.va_cert.proofs.shape.are_numbers.Goals as goal

pub returns-in-Some : goal.returns-in-Some
returns-in-Some c = c.all_numbers.ensures ∙ of_kind is_number (view c.args.value.now) c.in-Some.list.now c.in-Some.ensures
