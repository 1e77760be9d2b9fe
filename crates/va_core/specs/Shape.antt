-- The numbers of a store.
use Rattle.std.specs.Prelude.{ℕ, zero, suc, ◌+◌, ◌*◌, ◌/◌, ◌%◌, ◌≤◌, nat_le, nat_lt, Bool, ◌&&◌, not, Option, None, Some, if◌then◌else◌}
use Rattle.va_core.specs.declared.shape.ShapeFault.{ShapeFault}
use Rattle.va_core.specs.declared.shape.ShapeFault.TheVariants.{Dims, Bits, Capacity}

pub record Shape : Type 0 where
  pub dims : ℕ
  pub bits : ℕ
  pub capacity : ℕ

abbrev pub is_within : ℕ → ℕ → ℕ → Bool
is_within low high n = nat_le low n && nat_le n high

-- the first number that is out of its range
abbrev pub shape_fault : Shape → Option ShapeFault
shape_fault shape =
    if not (is_within 1 256 shape.dims) then Some Dims
    else (if not (is_within 1 (8 * shape.dims) shape.bits) then Some Bits
    else (if not (is_within 1 1048576 shape.capacity) then Some Capacity else None))

-- each number is in its range
pub record IsShape (shape : Shape) : Type 0 where
  pub some_dims : 1 ≤ shape.dims
  pub most_dims : shape.dims ≤ 256
  pub some_bits : 1 ≤ shape.bits
  pub most_bits : shape.bits ≤ 8 * shape.dims
  pub some_capacity : 1 ≤ shape.capacity
  pub most_capacity : shape.capacity ≤ 1048576

-- the bits of a dimension: as equal as they can be, and the first dimensions have one more
abbrev pub bits_of : Shape → ℕ → ℕ
bits_of shape dim = shape.bits / shape.dims + (if nat_lt dim (shape.bits % shape.dims) then 1 else 0)

-- the bytes that hold all bits of an approximation
abbrev pub code_bytes : Shape → ℕ
code_bytes shape = (shape.bits + 7) / 8

-- the sum of a number for each dimension below one
abbrev pub sum_below : (ℕ → ℕ) → ℕ → ℕ
sum_below number zero = 0
sum_below number (suc dim) = sum_below number dim + number dim
