use Rattle.std.proofs.Common.{◌∙◌, ap, sym, Option}
use Rattle.std.specs.Prelude.{is_some}
use Rattle.va_cert.specs.declared.certificate.BoxRow.{BoxRow}
use Rattle.va_check.proofs.Looking.{has_box_found, lent_some}
use Rattle.va_check.proofs.form.has_box.Goals as goal

pub returns : goal.returns
returns c = c.is_some.ensures ∙ lent_some _ ∙ ap (λ (row : Option BoxRow). is_some row) c.row_of.ensures ∙ sym (has_box_found c.args.boxes.now c.args.id)
