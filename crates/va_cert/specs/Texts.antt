-- The word of each fault of a text.
use Rattle.std.specs.Prelude.{ℕ, List, codes}
use Rattle.va_cert.specs.declared.fault.FormFault.{FormFault}
use Rattle.va_cert.specs.declared.fault.FormFault.TheVariants as faults

abbrev pub fault_text : FormFault → List ℕ
fault_text faults.Text = codes "text"
fault_text faults.Object = codes "object"
fault_text faults.Number = codes "number"
fault_text faults.Memory = codes "no memory"
