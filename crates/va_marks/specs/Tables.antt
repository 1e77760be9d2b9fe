-- What is kept beside marks: the slices of all values, and whether the marks rise strictly.
use Rattle.std.specs.Prelude.{◌≡◌, ◌↔◌, ℕ, ◌+◌, ◌<◌, ◌≤◌, Bool, List, length, get_or, IsTrue}
use Rattle.va_core.specs.Marks.{AreValid, IsRow, row_at, slice_of}

-- the slice of each value, beside the marks that cut them
pub record IsTable (row slices : List ℕ) : Type 0 where
  pub valid : IsRow row
  pub most : length row ≤ 257
  pub each_value : length slices ≡ 256
  pub exact : (v : ℕ) → v < 256 → get_or slices v 0 ≡ slice_of row v

-- each mark is less than the next one, so that no slice is empty
abbrev pub RisesStrictly : List ℕ → Type 0
RisesStrictly row = (slice : ℕ) → slice + 1 < length row → get_or row slice 0 < get_or row (slice + 1) 0

abbrev pub RiseStrictly : List (List ℕ) → Type 0
RiseStrictly marks = (dim : ℕ) → dim < length marks → RisesStrictly (row_at marks dim)

-- the marks are valid, and it is known whether a slice is empty
pub record AreKept (marks : List (List ℕ)) (rise_strictly : Bool) : Type 0 where
  pub valid : AreValid marks
  pub known : IsTrue rise_strictly ↔ RiseStrictly marks
