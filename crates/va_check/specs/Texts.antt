-- The text of each verdict, and the code with which a program ends.
use Rattle.std.specs.Prelude.{ℕ, List, ◌++◌, codes, decimal}
use Rattle.va_cert.specs.Texts.{fault_text}
use Rattle.va_check.specs.declared.judged.Judged.{Judged}
use Rattle.va_check.specs.declared.judged.Judged.TheVariants as judged
use Rattle.va_check.specs.declared.refusal.Part.{Part}
use Rattle.va_check.specs.declared.refusal.Part.TheVariants as parts
use Rattle.va_check.specs.declared.refusal.Refusal.{Refusal}
use Rattle.va_check.specs.declared.refusal.Refusal.TheVariants as refusals

abbrev pub part_text : Part → List ℕ
part_text parts.K = codes "k"
part_text parts.Weights = codes "weights"
part_text parts.Objects = codes "objects"
part_text (parts.Boxes position) = codes "boxes " ++ decimal position
part_text (parts.Fetched position) = codes "fetched " ++ decimal position

abbrev pub refusal_text : Refusal → List ℕ
refusal_text (refusals.Form part) = codes "form " ++ part_text part
refusal_text (refusals.Outside id) = codes "outside " ++ decimal id
refusal_text (refusals.SubOutside id) = codes "substitute " ++ decimal id
refusal_text (refusals.Answer position) = codes "answer " ++ decimal position
refusal_text (refusals.Undetermined id) = codes "undetermined " ++ decimal id
refusal_text (refusals.Needless id) = codes "needless " ++ decimal id
refusal_text refusals.Memory = codes "no memory"

abbrev pub judged_text : Judged → List ℕ
judged_text judged.Accepted = codes "accepted"
judged_text (judged.Refused refusal) = codes "refused: " ++ refusal_text refusal
judged_text (judged.Unread fault) = codes "refused: " ++ fault_text fault
judged_text judged.ReadFault = codes "read fault"
judged_text judged.TooLong = codes "input too long"
judged_text judged.Memory = codes "no memory"

abbrev pub judged_code : Judged → ℕ
judged_code judged.Accepted = 0
judged_code (judged.Refused refusal) = 1
judged_code (judged.Unread fault) = 1
judged_code judged.ReadFault = 3
judged_code judged.Memory = 7
judged_code judged.TooLong = 8
