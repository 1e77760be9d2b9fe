-- What a fault says of its dimension.
use Rattle.std.specs.Prelude.{ℕ}
use Rattle.va_marks.specs.declared.fault.MarksFault.{MarksFault}
use Rattle.va_marks.specs.declared.fault.MarksFault.TheVariants.{Dim, Memory}

abbrev pub IfDim : MarksFault → (ℕ → Type 0) → Type 0
IfDim (Dim dim) P = P dim
IfDim Memory P = Unit {0}
