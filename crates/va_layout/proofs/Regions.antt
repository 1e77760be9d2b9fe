-- Where the two regions lie, and the marks and the codes in them.
use Rattle.std.proofs.Common.{◌≡◌, ◌⊎◌, ⊎_elim, inl, inr, ℕ, ◌+◌, ◌*◌, ◌≤◌, ◌<◌, arith}
use Rattle.std.proofs.lemmas.Bool.{cases_order}
use Rattle.va_core.specs.MarkBytes.{marks_len}
use Rattle.va_core.specs.Shape.{Shape, code_bytes}
use Rattle.va_layout.specs.declared.region.Region.{Region}
use Rattle.va_layout.specs.declared.region.Region.TheVariants.{A, B}
use Rattle.va_layout.specs.Parts.{Apart}
use Rattle.va_layout.specs.Layout.{slot_at, vector_at, marks_at, code_at, region_len, other_region}
use Rattle.va_layout.specs.Fields.{gated_ranges}
use Rattle.va_layout.proofs.Apart.{times_le}
use Rattle.va_layout.proofs.Sizes.{region_is}

-- the codes of two places, whatever a code's length is
pub codes_apart : (d p q : ℕ) → (q ≡ p → ⊥) → (q * d + d ≤ p * d) ⊎ (p * d + d ≤ q * d)
codes_apart d p q ne = ⊎_elim (λ same. absurd (ne same)) (λ order. ⊎_elim (λ less. inl (times_le d q p less)) (λ more. inr (times_le d p q more)) order) (cases_order q p)

-- the regions lie behind the slots, and before the vectors
pub region_begins : (shape : Shape) (region : Region) → slot_at shape.capacity ≤ marks_at shape region
region_begins shape A = omega arith
region_begins shape B = omega arith

pub region_ends : (shape : Shape) (region : Region) → marks_at shape region + region_len shape ≤ vector_at shape 0
region_ends shape A = omega arith
region_ends shape B = omega arith

pub marks_end : (shape : Shape) (region : Region) → marks_at shape region + marks_len shape ≤ marks_at shape region + region_len shape
marks_end shape region = omega (arith, region_is shape)

pub code_ends : (shape : Shape) (region : Region) (p : ℕ) → p < shape.capacity → code_at shape region p + code_bytes shape ≤ marks_at shape region + region_len shape
code_ends shape region p inside = let fits = times_le (code_bytes shape) p shape.capacity inside in omega (arith, fits, region_is shape)

-- one region lies apart from the other
pub beside : (shape : Shape) (region : Region) → (marks_at shape region + region_len shape ≤ marks_at shape (other_region region)) ⊎ (marks_at shape (other_region region) + region_len shape ≤ marks_at shape region)
beside shape A = inl (omega arith)
beside shape B = inr (omega arith)

-- the marks of either region lie apart from all that is written of a place behind its gate
pub marks_apart : (shape : Shape) (region : Region) (p : ℕ) → p < shape.capacity → Apart (marks_at shape region) (marks_len shape) (gated_ranges shape p)
marks_apart shape A p inside =
    let fits = times_le (code_bytes shape) p shape.capacity inside in
    let len = region_is shape in
    (inr (omega arith), (inl (omega (arith, len)), (inl (omega (arith, len)), (inl (omega (arith, len)), tt))))
marks_apart shape B p inside =
    let fits = times_le (code_bytes shape) p shape.capacity inside in
    let len = region_is shape in
    (inr (omega arith), (inl (omega (arith, len)), (inr (omega (arith, len, fits)), (inl (omega (arith, len)), tt))))

-- and so do the codes of the other places
pub code_apart : (shape : Shape) (region : Region) (p q : ℕ) → p < shape.capacity → q < shape.capacity → (q ≡ p → ⊥) → Apart (code_at shape region q) (code_bytes shape) (gated_ranges shape p)
code_apart shape A p q p_in q_in ne =
    let fits = times_le (code_bytes shape) q shape.capacity q_in in
    let len = region_is shape in
    let order = codes_apart (code_bytes shape) p q ne in
    (inr (omega arith), (inl (omega (arith, len, fits)), (⊎_elim (λ l. inl (omega (arith, l))) (λ r. inr (omega (arith, r))) order, (inl (omega (arith, len, fits)), tt))))
code_apart shape B p q p_in q_in ne =
    let fits = times_le (code_bytes shape) q shape.capacity q_in in
    let fits_p = times_le (code_bytes shape) p shape.capacity p_in in
    let len = region_is shape in
    let order = codes_apart (code_bytes shape) p q ne in
    (inr (omega arith), (inl (omega (arith, len, fits)), (inr (omega (arith, len, fits_p)), (⊎_elim (λ l. inl (omega (arith, l))) (λ r. inr (omega (arith, r))) order, tt))))
