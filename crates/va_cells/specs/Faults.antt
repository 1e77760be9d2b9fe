-- What a fault says of its dimension.
use Rattle.std.specs.Prelude.{ℕ, List}
use Rattle.va_core.specs.MarkBytes.{IsFirstInvalid, marks_len}
use Rattle.va_core.specs.Shape.{Shape}
use Rattle.va_layout.specs.declared.region.Region.{Region}
use Rattle.va_layout.specs.Layout.{marks_at}
use Rattle.va_layout.specs.Parts.{part}
use Rattle.va_marks.specs.declared.fault.MarksFault.{MarksFault}
use Rattle.va_marks.specs.declared.fault.MarksFault.TheVariants as marks
use Rattle.va_cells.specs.declared.fault.CellsFault.{CellsFault}
use Rattle.va_cells.specs.declared.fault.CellsFault.TheVariants as cells

abbrev pub of_marks_fault : MarksFault → CellsFault
of_marks_fault (marks.Dim dim) = cells.Marks dim
of_marks_fault marks.Memory = cells.Memory

abbrev pub IfMarks : CellsFault → (ℕ → Type 0) → Type 0
IfMarks (cells.Marks dim) P = P dim
IfMarks cells.Disk P = Unit {0}
IfMarks cells.Memory P = Unit {0}

-- the first dimension whose marks in a region aren't valid
abbrev pub IsFirstInvalidIn : Shape → Region → List ℕ → ℕ → Type 0
IsFirstInvalidIn shape region image dim = IsFirstInvalid shape (part (marks_at shape region) (marks_len shape) image) dim
