use Rattle.std.proofs.Common.{◌∙◌, ap, sym, List, None}
use Rattle.va_cert.specs.declared.certificate.BoxRow.{BoxRow}
use Rattle.va_cert.specs.Reasons.{first_bad_box}
use Rattle.va_cert.proofs.WellFormed.{boxes_rise}
use Rattle.va_check.proofs.form.form_fault.Goals as goal

pub first_bad_entry-requires-clause-ascend : goal.first_bad_entry-requires-clause-ascend
first_bad_entry-requires-clause-ascend c =
    let same = c.as_slice-2.ensures ∙ sym c.as_slice.ensures in
    boxes_rise c.len-dims.result None 0 _ (ap (λ (boxes : List BoxRow). first_bad_box c.len-dims.result None 0 boxes) same ∙ sym c.first_bad_box.ensures ∙ c.in_default.is)
