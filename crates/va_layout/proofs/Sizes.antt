-- How long the parts of a file can be.
use Rattle.std.proofs.Common.{◌≡◌, ℕ, ◌+◌, ◌*◌, ◌≤◌, refl, arith}
use Rattle.std.proofs.lemmas.Nat.{mul-le}
use Rattle.va_core.specs.Shape.{Shape, IsShape, code_bytes}
use Rattle.va_core.specs.MarkBytes.{marks_len}
use Rattle.va_layout.specs.Layout.{region_len}

pub code_small : (shape : Shape) → IsShape shape → code_bytes shape ≤ 256
code_small shape is = omega (arith, is.most_dims, is.most_bits)

pub codes_small : (shape : Shape) (p : ℕ) → IsShape shape → p ≤ shape.capacity → p * code_bytes shape ≤ 1048576 * 256
codes_small shape p is le = mul-le p (code_bytes shape) 1048576 256 (omega (arith, is.most_capacity)) (code_small shape is)

pub vectors_small : (shape : Shape) (p : ℕ) → IsShape shape → p ≤ shape.capacity → p * shape.dims ≤ 1048576 * 256
vectors_small shape p is le = mul-le p shape.dims 1048576 256 (omega (arith, is.most_capacity)) is.most_dims

pub region_is : (shape : Shape) → region_len shape ≡ marks_len shape + shape.capacity * code_bytes shape
unfolding region_len
region_is shape = refl
