-- How many bytes marks take, and how many marks a dimension has.
use Rattle.std.proofs.Common.{◌≡◌, ℕ, zero, suc, ◌+◌, ◌*◌, ◌^◌, ◌<◌, ◌≤◌, List, [], ◌∷◌, ◌++◌, length, take, ap, sym, ◌∙◌, arith, refl, subst, add-one}
use Rattle.std.proofs.lemmas.List.{take_all, take_more, length-append, flat_map_more}
use Rattle.va_core.specs.Shape.{Shape, IsShape, bits_of}
use Rattle.va_core.specs.Marks.{HasShape, row_at}
use Rattle.va_core.specs.MarkBytes.{marks_bytes, marks_len, row_begin, row_bytes}
use Rattle.va_core.proofs.Shapes.{slices_within}

-- the next dimension begins behind the marks of this one
pub begin_next : (shape : Shape) (dim : ℕ) → row_begin shape (dim + 1) ≡ row_begin shape dim + 2 * (2 ^ bits_of shape dim + 1)
begin_next shape dim = ap (row_begin shape) (add-one dim)

-- one row more
pub rows_written : (marks : List (List ℕ)) (dim : ℕ) → dim < length marks → marks_bytes (take (dim + 1) marks) ≡ marks_bytes (take dim marks) ++ row_bytes (row_at marks dim)
rows_written marks dim l = ap marks_bytes (take_more marks dim [] l) ∙ sym (flat_map_more row_bytes [] (take dim marks) (row_at marks dim))

-- a mark takes two bytes
pub length-row_bytes : (row : List ℕ) → length (row_bytes row) ≡ 2 * length row
length-row_bytes [] = refl
length-row_bytes (mark ∷ row) = let rest = length-row_bytes row in omega (arith, rest)

-- the marks of a shape take as many bytes as the shape says
rows_len : (shape : Shape) (marks : List (List ℕ)) (dims : ℕ) → HasShape shape marks → dims ≤ shape.dims → length (marks_bytes (take dims marks)) ≡ row_begin shape dims
rows_len shape marks zero has l = refl
rows_len shape marks (suc dim) has l =
    let e : suc dim ≡ dim + 1 = omega arith in
    let before = rows_len shape marks dim has (omega arith) in
    let inside : dim < length marks = omega (arith, has.one_each) in
    let P : ℕ → Type 0 = λ k. length (marks_bytes (take k marks)) ≡ row_begin shape k in
    subst P (sym e) (ap length (rows_written marks dim inside)
    ∙ length-append (marks_bytes (take dim marks)) (row_bytes (row_at marks dim))
    ∙ omega (arith, before, length-row_bytes (row_at marks dim), has.counts dim (omega arith), begin_next shape dim))

pub marks_bytes_len : (shape : Shape) (marks : List (List ℕ)) → HasShape shape marks → length (marks_bytes marks) ≡ marks_len shape
unfolding marks_len
marks_bytes_len shape marks has = ap (λ rows. length (marks_bytes rows)) (sym (take_all shape.dims marks (omega (arith, has.one_each)))) ∙ rows_len shape marks shape.dims has (omega arith)

pub marks_few : (shape : Shape) (marks : List (List ℕ)) (dim : ℕ) → IsShape shape → HasShape shape marks → dim < shape.dims → length (row_at marks dim) ≤ 257
marks_few shape marks dim is has h = let n : 2 ^ bits_of shape dim ≤ 256 = slices_within shape dim is in let count : length (row_at marks dim) ≡ 2 ^ bits_of shape dim + 1 = has.counts dim h in omega (arith, n, count)
