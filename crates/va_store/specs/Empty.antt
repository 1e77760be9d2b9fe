-- The file of a store that holds nothing yet.
use Rattle.std.specs.Prelude.{◌≡◌, ◌⊎◌, ℕ, ◌-◌, ◌*◌, List, ◌∷◌, [], drop, replicate, None}
use Rattle.va_core.specs.Marks.{marks_of}
use Rattle.va_core.specs.Shape.{Shape}
use Rattle.va_layout.specs.declared.header.Header.{Header}
use Rattle.va_layout.specs.declared.region.Region.TheVariants.{A}
use Rattle.va_layout.specs.Fields.{marks_in}
use Rattle.va_layout.specs.Header.{header_bytes}
use Rattle.va_layout.specs.Layout.{layout_len}
use Rattle.va_layout.specs.Parts.{KeepsRest, part, byte_at}
use Rattle.va_layout.specs.Stands.{IsBlank, Kept, Stands}

-- what is kept of a store when it has been created
abbrev pub empty_kept : Shape → Kept
empty_kept shape = record { shape = shape; places = replicate shape.capacity None; marks = marks_of shape [] }

abbrev pub first_header : Shape → Header
first_header shape = record { shape = shape; region = A }

-- the gate of the header isn't open
abbrev pub IsShut : List ℕ → Type 0
IsShut image = byte_at 0 image ≡ 86 → ⊥

-- the first byte, which is the gate of the header
abbrev pub head_gate : List (ℕ × ℕ)
head_gate = (0, 1) ∷ []

-- there is still no store, and each byte behind the first is as it was
pub record StaysBlank (old outcome : List ℕ) : Type 0 where
  pub blank : IsBlank outcome
  pub behind : KeepsRest head_gate old outcome

-- all of the file but the gate of its header
abbrev pub behind_gate : Shape → List (ℕ × ℕ)
behind_gate shape = (1, layout_len shape - 1) ∷ []

-- the header stands there, whatever its gate is, and each slot is 0
pub record HasHeader (shape : Shape) (image : List ℕ) : Type 0 where
  pub head : part 1 31 image ≡ drop 1 (header_bytes (first_header shape))
  pub slots : part 32 (8 * shape.capacity) image ≡ replicate (8 * shape.capacity) 0

-- and so do the marks over no vectors: all is there, whatever the gate of the header is
pub record IsLaidBare (shape : Shape) (image : List ℕ) : Type 0 where
  pub header : HasHeader shape image
  pub marks : marks_in shape A image ≡ marks_of shape []

-- the whole layout
abbrev pub layout_range : Shape → List (ℕ × ℕ)
layout_range shape = (0, layout_len shape) ∷ []

-- there is no store, or the one that was created
abbrev pub IsBlankOrEmpty : Shape → List ℕ → Type 0
IsBlankOrEmpty shape image = IsBlank image ⊎ Stands (empty_kept shape) image

-- the same, and each byte behind the layout is as it was
pub record IsMade (shape : Shape) (old outcome : List ℕ) : Type 0 where
  pub either : IsBlankOrEmpty shape outcome
  pub behind : KeepsRest (layout_range shape) old outcome
