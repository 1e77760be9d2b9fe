use Rattle.std.proofs.Common.{◌∙◌}
use Rattle.serde_json.specs.View.{view}
use Rattle.va_cert.specs.Reads.{is_pair}
use Rattle.va_cert.proofs.Listed.{of_kind}
use Rattle.va_cert.proofs.shape.are_pairs.Goals as goal

pub returns-in-Some : goal.returns-in-Some
returns-in-Some c = c.all_pairs.ensures ∙ of_kind is_pair (view c.args.value.now) c.in-Some.list.now c.in-Some.ensures
