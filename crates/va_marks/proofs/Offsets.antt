-- Where the marks of each dimension stand in the bytes.
use Rattle.std.proofs.Common.{◌≡◌, ℕ, zero, suc, ◌+◌, ◌*◌, ◌-◌, ◌^◌, ◌<◌, ◌≤◌, List, length, ap, ◌∙◌, arith, add-zero}
use Rattle.std.proofs.lemmas.List.FromFn.{length-map-range_with_len}
use Rattle.va_core.specs.Shape.{Shape, bits_of}
use Rattle.va_core.proofs.MarkBytes.{begin_next}
use Rattle.va_core.specs.MarkBytes.{mark_in, marks_len, row_begin, row_in, row_read}

-- the marks of a dimension begin no later than those of any later one
begin_by : (shape : Shape) (dim more : ℕ) → row_begin shape dim ≤ row_begin shape (dim + more)
begin_by shape dim zero = rw add-zero (omega arith)
begin_by shape dim (suc more) =
    let e : dim + suc more ≡ dim + more + 1 = omega arith in
    let before : row_begin shape dim ≤ row_begin shape (dim + more) = begin_by shape dim more in
    let step = begin_next shape (dim + more) in
    rw e (omega (arith, before, step))

begin_rises : (shape : Shape) (dim later : ℕ) → dim ≤ later → row_begin shape dim ≤ row_begin shape later
begin_rises shape dim later l =
    let e : dim + (later - dim) ≡ later = omega arith in
    let h : row_begin shape dim ≤ row_begin shape (dim + (later - dim)) = begin_by shape dim (later - dim) in
    rw e at h

-- the marks of a dimension lie within the bytes of all
pub row_inside : (shape : Shape) (dim at count len : ℕ) → dim < shape.dims → at ≡ row_begin shape dim → count ≡ 2 ^ bits_of shape dim + 1 → len ≡ marks_len shape → at + 2 * count ≤ len
unfolding marks_len
row_inside shape dim at count len l place counted all =
    let h : row_begin shape (dim + 1) ≤ row_begin shape shape.dims = begin_rises shape (dim + 1) shape.dims (omega arith) in
    omega (arith, h, begin_next shape dim)

pub row_in_is_read : (shape : Shape) (bytes : List ℕ) (dim at count : ℕ) → at ≡ row_begin shape dim → count ≡ 2 ^ bits_of shape dim + 1 → row_in bytes at count ≡ row_read shape bytes dim
row_in_is_read shape bytes dim at count place counted = ap (λ n. row_in bytes n count) place ∙ ap (λ n. row_in bytes (row_begin shape dim) n) counted

pub next_begins : (shape : Shape) (dim at count : ℕ) → at ≡ row_begin shape dim → count ≡ 2 ^ bits_of shape dim + 1 → at + 2 * count ≡ row_begin shape (dim + 1)
next_begins shape dim at count place counted = omega (arith, place, counted, begin_next shape dim)

pub length-row_in : (bytes : List ℕ) (at count : ℕ) → length (row_in bytes at count) ≡ count
length-row_in bytes at count = length-map-range_with_len (λ t. mark_in bytes (at + 2 * t)) 0 count
