-- The selection byte.
use Rattle.std.specs.Prelude.{ℕ}
use Rattle.va_layout.specs.declared.region.Region.{Region}
use Rattle.va_layout.specs.declared.region.Region.TheVariants.{A, B}

-- the letter of the region
abbrev pub selection_of : Region → ℕ
selection_of A = 65
selection_of B = 66
