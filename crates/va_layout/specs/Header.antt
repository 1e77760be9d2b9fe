-- The header of a file.
use Rattle.std.specs.Prelude.{ℕ, ◌==◌, ◌&&◌, nat_le, List, [], ◌∷◌, ◌++◌, length, replicate, Bool, true, false, Option, None, Some, Result, Ok, Err, if◌then◌else◌}
use Rattle.std.specs.Int.{w16, w32, to_be_bytes, from_be_bytes}
use Rattle.va_core.specs.Shape.{Shape, shape_fault}
use Rattle.va_core.specs.declared.shape.ShapeFault.{ShapeFault}
use Rattle.va_layout.specs.Parts.{part, byte_at}
use Rattle.va_layout.specs.declared.region.Region.{Region}
use Rattle.va_layout.specs.declared.region.Region.TheVariants.{A, B}
use Rattle.va_layout.specs.declared.header.Header.{Header}
use Rattle.va_layout.specs.declared.header.HeadFault.{HeadFault}
use Rattle.va_layout.specs.declared.header.HeadFault.TheVariants as faults

-- all 32 bytes are there, and the first is the open gate
abbrev pub is_open_header : List ℕ → Bool
is_open_header bytes = nat_le 32 (length bytes) && byte_at 0 bytes == 86

-- the letters AF1
abbrev pub has_magic : List ℕ → Bool
has_magic bytes = byte_at 1 bytes == 65 && byte_at 2 bytes == 70 && byte_at 3 bytes == 49

abbrev pub shape_in : List ℕ → Shape
shape_in bytes = record {
  dims = from_be_bytes w16 (part 6 2 bytes);
  bits = from_be_bytes w16 (part 8 2 bytes);
  capacity = from_be_bytes w32 (part 10 4 bytes);
}

-- B where the selection byte says so, else A
abbrev pub region_in : List ℕ → Region
region_in bytes = if byte_at 16 bytes == 66 then B else A

-- the header, or the first fault: of an open gate, the letters, and the numbers of the shape
abbrev pub header_or_fault : Bool → Bool → Option ShapeFault → Header → Result Header HeadFault
header_or_fault false letters numbers header = Err faults.Blank
header_or_fault true false numbers header = Err faults.Magic
header_or_fault true true (Some fault) header = Err (faults.Shape fault)
header_or_fault true true None header = Ok header

-- what the bytes of a header say
abbrev pub header_of : List ℕ → Result Header HeadFault
header_of bytes = header_or_fault (is_open_header bytes) (has_magic bytes) (shape_fault (shape_in bytes)) (record { shape = shape_in bytes; region = region_in bytes })

abbrev pub selection : Region → ℕ
selection A = 0
selection B = 66

-- the bytes of a header that is open
abbrev pub header_bytes : Header → List ℕ
header_bytes header =
    86 ∷ 65 ∷ 70 ∷ 49 ∷ 0 ∷ 0 ∷ []
    ++ to_be_bytes w16 header.shape.dims
    ++ to_be_bytes w16 header.shape.bits
    ++ to_be_bytes w32 header.shape.capacity
    ++ 0 ∷ 0 ∷ []
    ++ selection header.region ∷ []
    ++ replicate 15 0
