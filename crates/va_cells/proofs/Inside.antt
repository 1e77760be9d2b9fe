-- Marks and codes lie inside the length.
use Rattle.std.proofs.Common.{ℕ, ◌+◌, ◌*◌, ◌≤◌, ◌<◌, arith}
use Rattle.std.proofs.lemmas.Nat.{mul-le}
use Rattle.va_core.specs.MarkBytes.{marks_len}
use Rattle.va_core.specs.Shape.{Shape, code_bytes}
use Rattle.va_layout.specs.declared.region.Region.{Region}
use Rattle.va_layout.specs.Layout.{code_at, marks_at, layout_len}
use Rattle.va_layout.proofs.Regions.{region_ends}
use Rattle.va_layout.proofs.Sizes.{region_is}

pub marks_inside : (shape : Shape) (region : Region) → marks_at shape region + marks_len shape ≤ layout_len shape
marks_inside shape region = omega (arith, region_is shape, region_ends shape region)

-- the codes of some places, from one on
pub codes_inside : (shape : Shape) (region : Region) (from count : ℕ) → from + count ≤ shape.capacity → code_at shape region from + count * code_bytes shape ≤ layout_len shape
codes_inside shape region from count fits =
    let le : (from + count) * code_bytes shape ≤ shape.capacity * code_bytes shape = mul-le (from + count) (code_bytes shape) shape.capacity (code_bytes shape) fits (omega arith) in
    omega (arith, le, region_is shape, region_ends shape region)

pub code_inside : (shape : Shape) (region : Region) (p : ℕ) → p < shape.capacity → code_at shape region p + code_bytes shape ≤ layout_len shape
code_inside shape region p inside = let one = codes_inside shape region p 1 (omega (arith, inside)) in omega (arith, one)
