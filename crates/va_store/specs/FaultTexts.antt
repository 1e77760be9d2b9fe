-- What is printed of a fault.
use Rattle.std.specs.Prelude.{ℕ, List, ◌++◌, codes, decimal}
use Rattle.va_core.specs.declared.shape.ShapeFault.{ShapeFault}
use Rattle.va_core.specs.declared.shape.ShapeFault.TheVariants as shapes
use Rattle.va_layout.specs.declared.header.HeadFault.{HeadFault}
use Rattle.va_layout.specs.declared.header.HeadFault.TheVariants as heads
use Rattle.va_store.specs.declared.faults.OpenFault.{OpenFault}
use Rattle.va_store.specs.declared.faults.OpenFault.TheVariants as faults

abbrev pub shape_text : ShapeFault → List ℕ
shape_text shapes.Dims = codes "shape dims"
shape_text shapes.Bits = codes "shape bits"
shape_text shapes.Capacity = codes "shape capacity"

abbrev pub head_text : HeadFault → List ℕ
head_text heads.Blank = codes "blank"
head_text heads.Magic = codes "magic"
head_text (heads.Shape fault) = shape_text fault

abbrev pub fault_text : OpenFault → List ℕ
fault_text faults.Blank = codes "blank"
fault_text (faults.Header fault) = head_text fault
fault_text (faults.Length need have) = codes "length need " ++ decimal need ++ codes " have " ++ decimal have
fault_text (faults.SameId first second) = codes "same id " ++ decimal first ++ codes " " ++ decimal second
fault_text (faults.Marks dim) = codes "marks " ++ decimal dim
fault_text (faults.Code place) = codes "code " ++ decimal place
fault_text faults.Disk = codes "disk fault"
fault_text faults.Memory = codes "no memory"
