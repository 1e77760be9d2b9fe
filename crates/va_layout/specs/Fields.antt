-- What stands in the parts of an image.
use Rattle.std.specs.Prelude.{◌≡◌, ℕ, ◌+◌, ◌==◌, List, [], ◌∷◌, ◌++◌, Option, None, Some, Bool, if◌then◌else◌}
use Rattle.std.specs.Int.{w32, from_be_bytes}
use Rattle.va_core.specs.Cells.{NamesSlices}
use Rattle.va_core.specs.Codes.{AreSlices, packed}
use Rattle.va_core.specs.MarkBytes.{marks_len, marks_read}
use Rattle.va_core.specs.Marks.{cell}
use Rattle.va_core.specs.Places.{Item}
use Rattle.va_core.specs.Shape.{Shape, code_bytes}
use Rattle.va_layout.specs.declared.region.Region.{Region}
use Rattle.va_layout.specs.declared.region.Region.TheVariants.{A, B}
use Rattle.va_layout.specs.Parts.{part, byte_at}
use Rattle.va_layout.specs.Layout.{slot_at, vector_at, marks_at, code_at}

abbrev pub head_in : List ℕ → List ℕ
head_in image = part 0 32 image

abbrev pub gate_in : ℕ → List ℕ → ℕ
gate_in p image = byte_at (slot_at p) image

abbrev pub is_open_in : ℕ → List ℕ → Bool
is_open_in p image = gate_in p image == 71

abbrev pub id_in : ℕ → List ℕ → ℕ
id_in p image = from_be_bytes w32 (part (slot_at p + 4) 4 image)

abbrev pub vector_in : Shape → ℕ → List ℕ → List ℕ
vector_in shape p image = part (vector_at shape p) shape.dims image

-- the id of a place that is open
abbrev pub slot_in : ℕ → List ℕ → Option ℕ
slot_in p image = if is_open_in p image then Some (id_in p image) else None

-- the item of a place that is open
abbrev pub item_in : Shape → ℕ → List ℕ → Option Item
item_in shape p image = if is_open_in p image then Some (record { id = id_in p image; vector = vector_in shape p image }) else None

-- the marks that stand in a region
abbrev pub marks_in : Shape → Region → List ℕ → List (List ℕ)
marks_in shape region image = marks_read shape (part (marks_at shape region) (marks_len shape) image)

-- the packed code of a place in a region
abbrev pub code_in : Shape → Region → ℕ → List ℕ → List ℕ
code_in shape region p image = part (code_at shape region p) (code_bytes shape) image

-- a packed code names a cell: some slices of the shape pack to it, and none of them is empty
pub record NamesCell (shape : Shape) (marks : List (List ℕ)) (code : List ℕ) : Type 0 where
  pub slices : List ℕ
  pub fit : AreSlices shape slices
  pub packs : packed shape slices ≡ code
  pub names : NamesSlices marks slices

-- a packed code is that of an item's own cell
abbrev pub IsOwnCode : Shape → List (List ℕ) → Item → List ℕ → Type 0
IsOwnCode shape marks item code = code ≡ packed shape (cell marks item.vector)

-- the own code of an item stands in a place of a region, whatever the place's gate is
abbrev pub HasCode : Shape → Region → List (List ℕ) → ℕ → Item → List ℕ → Type 0
HasCode shape region marks p item image = IsOwnCode shape marks item (code_in shape region p image)

-- the id and the vector stand in a place, and 0 in its spare bytes, whatever its gate is
pub record IsLaid (shape : Shape) (p : ℕ) (item : Item) (image : List ℕ) : Type 0 where
  pub spare : part (slot_at p + 1) 3 image ≡ 0 ∷ 0 ∷ 0 ∷ []
  pub id : id_in p image ≡ item.id
  pub vector : vector_in shape p image ≡ item.vector

-- the bytes that are laid: the slot behind its gate, and the vector
abbrev pub laid_ranges : Shape → ℕ → List (ℕ × ℕ)
laid_ranges shape p = (slot_at p + 1, 7) ∷ (vector_at shape p, shape.dims) ∷ []

abbrev pub gate_range : ℕ → List (ℕ × ℕ)
gate_range p = (slot_at p, 1) ∷ []

abbrev pub marks_range : Shape → Region → List (ℕ × ℕ)
marks_range shape region = (marks_at shape region, marks_len shape) ∷ []

abbrev pub code_range : Shape → Region → ℕ → List (ℕ × ℕ)
code_range shape region p = (code_at shape region p, code_bytes shape) ∷ []

-- the byte that selects a region
abbrev pub selection_range : List (ℕ × ℕ)
selection_range = (16, 1) ∷ []

-- all bytes of a place but its gate: those that are laid, and its codes in both regions
abbrev pub gated_ranges : Shape → ℕ → List (ℕ × ℕ)
gated_ranges shape p = laid_ranges shape p ++ (code_at shape A p, code_bytes shape) ∷ (code_at shape B p, code_bytes shape) ∷ []

-- all bytes of a place
abbrev pub place_ranges : Shape → ℕ → List (ℕ × ℕ)
place_ranges shape p = gated_ranges shape p ++ gate_range p

-- a place has the same slot and the same vector
pub record IsSamePlace (shape : Shape) (p : ℕ) (old new : List ℕ) : Type 0 where
  pub slot : part (slot_at p) 8 new ≡ part (slot_at p) 8 old
  pub vector : vector_in shape p new ≡ vector_in shape p old
