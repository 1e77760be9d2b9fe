-- Where a store's parts stand in its file.
use Rattle.std.specs.Prelude.{◌≡◌, ℕ, ◌+◌, ◌*◌}
use Rattle.va_core.specs.MarkBytes.{marks_len}
use Rattle.va_core.specs.Shape.{Shape, code_bytes}
use Rattle.va_layout.specs.declared.region.Region.{Region}
use Rattle.va_layout.specs.declared.region.Region.TheVariants.{A, B}

-- a gate, three spare bytes and an id for each place
abbrev pub slot_at : ℕ → ℕ
slot_at p = 32 + 8 * p

-- the marks, and a packed code for each place
unfoldable pub region_len : Shape → ℕ
region_len shape = marks_len shape + shape.capacity * code_bytes shape

abbrev pub other_region : Region → Region
other_region A = B
other_region B = A

abbrev pub marks_at : Shape → Region → ℕ
marks_at shape A = slot_at shape.capacity
marks_at shape B = slot_at shape.capacity + region_len shape

abbrev pub code_at : Shape → Region → ℕ → ℕ
code_at shape region p = marks_at shape region + marks_len shape + p * code_bytes shape

abbrev pub vector_at : Shape → ℕ → ℕ
vector_at shape p = slot_at shape.capacity + 2 * region_len shape + p * shape.dims

-- the end of the last vector
abbrev pub layout_len : Shape → ℕ
layout_len shape = vector_at shape shape.capacity

-- each part begins where the one before it ends, and the last ends at the length
pub record FollowOn (shape : Shape) : Type 0 where
  pub first_slot : slot_at 0 ≡ 32
  pub next_slot : (p : ℕ) → slot_at (p + 1) ≡ slot_at p + 8
  pub marks_a : marks_at shape A ≡ slot_at shape.capacity
  pub first_code : (region : Region) → code_at shape region 0 ≡ marks_at shape region + marks_len shape
  pub next_code : (region : Region) (p : ℕ) → code_at shape region (p + 1) ≡ code_at shape region p + code_bytes shape
  pub marks_b : marks_at shape B ≡ code_at shape A shape.capacity
  pub first_vector : vector_at shape 0 ≡ code_at shape B shape.capacity
  pub next_vector : (p : ℕ) → vector_at shape (p + 1) ≡ vector_at shape p + shape.dims
  pub end : layout_len shape ≡ vector_at shape shape.capacity
