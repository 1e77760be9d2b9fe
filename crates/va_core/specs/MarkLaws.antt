-- What holds of valid marks.
use Rattle.std.specs.Prelude.{◌≡◌, ℕ, ◌+◌, ◌<◌, ◌≤◌, List, length, IfSome, IsSome}
use Rattle.va_core.specs.Shape.{Shape, IsShape}
use Rattle.va_core.specs.Marks.{IsRow, HasShape, row_at, slice_of, interval}
use Rattle.va_core.specs.MarkBytes.{marks_bytes, marks_len}

-- the slice of a value isn't empty, and has the value
abbrev pub SliceHoldsValue : Type 0
SliceHoldsValue = (row : List ℕ) (value : ℕ) → IsRow row → value < 256 →
    (slice_of row value + 1 < length row) × IsSome (interval row (slice_of row value)) × IfSome (interval row (slice_of row value)) (λ ends. (ends.0 ≤ value) × (value ≤ ends.1))

-- a dimension has at most 257 marks
abbrev pub MarksAreFew : Type 0
MarksAreFew = (shape : Shape) (marks : List (List ℕ)) (dim : ℕ) → IsShape shape → HasShape shape marks → dim < shape.dims → length (row_at marks dim) ≤ 257

-- marks of a shape take as many bytes as the shape says
abbrev pub MarksFillTheirBytes : Type 0
MarksFillTheirBytes = (shape : Shape) (marks : List (List ℕ)) → HasShape shape marks → length (marks_bytes marks) ≡ marks_len shape
