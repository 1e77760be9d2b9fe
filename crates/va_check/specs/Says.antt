-- What each refusal says.
use Rattle.std.specs.Prelude.{◌≡◌, Some}
use Rattle.va_cert.specs.declared.certificate.Certificate.{Certificate}
use Rattle.va_cert.specs.Reasons.{Reason, form_k, form_weights, form_objects, form_boxes, form_fetched, vector_outside, substitute_outside, answer_differs, undetermined, needless, reason}
use Rattle.va_check.specs.declared.refusal.Part.{Part}
use Rattle.va_check.specs.declared.refusal.Part.TheVariants.{K, Weights, Objects, Boxes, Fetched}
use Rattle.va_check.specs.declared.refusal.Refusal.{Refusal}
use Rattle.va_check.specs.declared.refusal.Refusal.TheVariants.{Form, Outside, SubOutside, Answer, Undetermined, Needless, Memory}

abbrev pub part_reason : Part → Reason
part_reason K = form_k
part_reason Weights = form_weights
part_reason Objects = form_objects
part_reason (Boxes p) = form_boxes p
part_reason (Fetched p) = form_fetched p

-- the refusal is the certificate's; want of memory says nothing
abbrev pub IsReason : Refusal → Certificate → Type 0
IsReason (Form part) c = reason c ≡ Some (part_reason part)
IsReason (Outside id) c = reason c ≡ Some (vector_outside id)
IsReason (SubOutside id) c = reason c ≡ Some (substitute_outside id)
IsReason (Answer position) c = reason c ≡ Some (answer_differs position)
IsReason (Undetermined id) c = reason c ≡ Some (undetermined id)
IsReason (Needless id) c = reason c ≡ Some (needless id)
IsReason Memory c = Unit {0}
