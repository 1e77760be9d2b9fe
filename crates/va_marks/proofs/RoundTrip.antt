-- Marks that are written are read again, and marks that are read are written as they stood.
use Rattle.std.proofs.Common.{◌≡◌, ℕ, zero, suc, ◌+◌, ◌*◌, ◌/◌, ◌%◌, ◌^◌, ◌<◌, ◌≤◌, List, [], ◌∷◌, ◌++◌, length, get_or, take, map, refl, ap, sym, ◌∙◌, arith, subst, ⊎_elim}
use Rattle.std.specs.List.{range_with_len}
use Rattle.std.proofs.lemmas.Bool.{cases_lt}
use Rattle.std.proofs.lemmas.List.{take_more, take_all, flat_map_more, append_assoc, append-nil, get_or_past, get_or-append_right, get_or_append_left}
use Rattle.std.proofs.lemmas.List.FromFn.{map-range_with_len_more, get_or-map-range_with_len}
use Rattle.va_core.specs.Shape.{Shape, bits_of}
use Rattle.va_core.specs.Marks.{AreValid, HasShape, IsRow, row_at}
use Rattle.va_core.specs.MarkBytes.{mark_in, marks_bytes, marks_len, marks_read, row_begin, row_bytes, row_in, row_read, two_bytes}
use Rattle.va_marks.proofs.Marking.{rows_have_shape}
use Rattle.va_core.proofs.MarkBytes.{begin_next, marks_bytes_len}
use Rattle.va_core.proofs.Slices.{mark_at_most}
use Rattle.va_marks.proofs.Offsets.{length-row_in}

-- the bytes of what was read from an offset on, behind the bytes before it
row_again : (bytes : List ℕ) (at count : ℕ) → ((i : ℕ) → get_or bytes i 0 < 256) → at + 2 * count ≤ length bytes → take at bytes ++ row_bytes (row_in bytes at count) ≡ take (at + 2 * count) bytes
row_again bytes at zero h l = append-nil (take at bytes) ∙ ap (λ k. take k bytes) (omega arith)
row_again bytes at (suc n) h l =
    let e : suc n ≡ n + 1 = omega arith in
    let inside : at + 2 * n + 1 < length bytes = omega arith in
    let before : take at bytes ++ row_bytes (row_in bytes at n) ≡ take (at + 2 * n) bytes = row_again bytes at n h (omega arith) in
    let more : row_in bytes at (n + 1) ≡ row_in bytes at n ++ mark_in bytes (at + 2 * n) ∷ [] = map-range_with_len_more (λ t. mark_in bytes (at + 2 * t)) 0 n n (omega arith) in
    let first = h (at + 2 * n) in
    let second = h (at + 2 * n + 1) in
    let high : mark_in bytes (at + 2 * n) / 256 ≡ get_or bytes (at + 2 * n) 0 = omega arith in
    let low : mark_in bytes (at + 2 * n) % 256 ≡ get_or bytes (at + 2 * n + 1) 0 = omega arith in
    let two : row_bytes (row_in bytes at (n + 1)) ≡ row_bytes (row_in bytes at n) ++ get_or bytes (at + 2 * n) 0 ∷ get_or bytes (at + 2 * n + 1) 0 ∷ [] =
    ap row_bytes more ∙ sym (flat_map_more two_bytes [] (row_in bytes at n) (mark_in bytes (at + 2 * n)))
    ∙ ap (λ x. row_bytes (row_in bytes at n) ++ x ∷ mark_in bytes (at + 2 * n) % 256 ∷ []) high ∙ ap (λ x. row_bytes (row_in bytes at n) ++ get_or bytes (at + 2 * n) 0 ∷ x ∷ []) low in
    let last : at + 2 * n + 1 + 1 ≡ at + 2 * (n + 1) = omega arith in
    let taken : take (at + 2 * n) bytes ++ get_or bytes (at + 2 * n) 0 ∷ get_or bytes (at + 2 * n + 1) 0 ∷ [] ≡ take (at + 2 * (n + 1)) bytes =
    sym (append_assoc (take (at + 2 * n) bytes) (get_or bytes (at + 2 * n) 0 ∷ []) (get_or bytes (at + 2 * n + 1) 0 ∷ []))
    ∙ ap (λ xs. xs ++ get_or bytes (at + 2 * n + 1) 0 ∷ []) (sym (take_more bytes (at + 2 * n) 0 (omega arith)))
    ∙ sym (take_more bytes (at + 2 * n + 1) 0 inside) ∙ ap (λ k. take k bytes) last in
    let P : ℕ → Type 0 = λ k. take at bytes ++ row_bytes (row_in bytes at k) ≡ take (at + 2 * k) bytes in
    subst P (sym e) (ap (λ xs. take at bytes ++ xs) two ∙ sym (append_assoc (take at bytes) (row_bytes (row_in bytes at n)) _) ∙ ap (λ xs. xs ++ get_or bytes (at + 2 * n) 0 ∷ get_or bytes (at + 2 * n + 1) 0 ∷ []) before ∙ taken)

rows_again : (shape : Shape) (bytes : List ℕ) (dims : ℕ) → ((i : ℕ) → get_or bytes i 0 < 256) → row_begin shape dims ≤ length bytes → marks_bytes (map (row_read shape bytes) (range_with_len 0 dims)) ≡ take (row_begin shape dims) bytes
rows_again shape bytes zero h l = refl
rows_again shape bytes (suc dim) h l =
    let e : suc dim ≡ dim + 1 = omega arith in
    let next = begin_next shape dim in
    let inside : row_begin shape (dim + 1) ≤ length bytes = let Q : ℕ → Type 0 = λ k. row_begin shape k ≤ length bytes in subst Q e l in
    let before : marks_bytes (map (row_read shape bytes) (range_with_len 0 dim)) ≡ take (row_begin shape dim) bytes = rows_again shape bytes dim h (omega (arith, next, inside)) in
    let P : ℕ → Type 0 = λ k. marks_bytes (map (row_read shape bytes) (range_with_len 0 k)) ≡ take (row_begin shape k) bytes in
    subst P (sym e) (ap marks_bytes (map-range_with_len_more (row_read shape bytes) 0 dim dim (omega arith)) ∙ sym (flat_map_more row_bytes [] (map (row_read shape bytes) (range_with_len 0 dim)) (row_read shape bytes dim))
    ∙ ap (λ xs. xs ++ row_bytes (row_read shape bytes dim)) before
    ∙ row_again bytes (row_begin shape dim) (2 ^ bits_of shape dim + 1) h (omega (arith, next, inside)) ∙ ap (λ k. take k bytes) (sym next))

-- what is read is written as it stood
pub marks_bytes-marks_read : (shape : Shape) (bytes : List ℕ) → ((i : ℕ) → get_or bytes i 0 < 256) → length bytes ≡ marks_len shape → marks_bytes (marks_read shape bytes) ≡ bytes
unfolding marks_read marks_len
marks_bytes-marks_read shape bytes h l = rows_again shape bytes shape.dims h (omega arith) ∙ take_all (row_begin shape shape.dims) bytes (omega arith)

-- rows of the same lengths that are written the same are the same
same_row : (a b x y : List ℕ) → length a ≡ length b → row_bytes a ++ x ≡ row_bytes b ++ y → (a ≡ b) × (x ≡ y)
same_row [] [] x y l e = (refl, e)
same_row [] (n ∷ b) x y l e = absurd (omega arith)
same_row (m ∷ a) [] x y l e = absurd (omega arith)
same_row (m ∷ a) (n ∷ b) x y l e =
    let high : m / 256 ≡ n / 256 = cc in
    let low : m % 256 ≡ n % 256 = cc in
    let rest : row_bytes a ++ x ≡ row_bytes b ++ y = cc in
    let both : (a ≡ b) × (x ≡ y) = same_row a b x y (omega arith) rest in
    let same : m ≡ n = omega arith in
    (ap (λ k. k ∷ a) same ∙ ap (λ ks. n ∷ ks) both.0, both.1)

same_rows : (ms ns : List (List ℕ)) → length ms ≡ length ns → ((dim : ℕ) → dim < length ms → length (row_at ms dim) ≡ length (row_at ns dim)) → marks_bytes ms ≡ marks_bytes ns → ms ≡ ns
same_rows [] [] l h e = refl
same_rows [] (n ∷ ns) l h e = absurd (omega arith)
same_rows (m ∷ ms) [] l h e = absurd (omega arith)
same_rows (m ∷ ms) (n ∷ ns) l h e =
    let both : (m ≡ n) × (marks_bytes ms ≡ marks_bytes ns) = same_row m n (marks_bytes ms) (marks_bytes ns) (h 0 (omega arith)) e in
    let rest : ms ≡ ns = same_rows ms ns (omega arith) (λ dim k. h (suc dim) (omega arith)) both.1 in
    ap (λ r. r ∷ ms) both.0 ∙ ap (λ rs. n ∷ rs) rest

pub row_at-marks_read : (shape : Shape) (bytes : List ℕ) (dim : ℕ) → dim < shape.dims → row_at (marks_read shape bytes) dim ≡ row_read shape bytes dim
unfolding marks_read
row_at-marks_read shape bytes dim l = get_or-map-range_with_len (row_read shape bytes) 0 shape.dims dim dim [] l (omega arith)

pub marks_read_has_shape : (shape : Shape) (bytes : List ℕ) → HasShape shape (marks_read shape bytes)
unfolding marks_read
marks_read_has_shape shape bytes = rows_have_shape shape (row_read shape bytes) _ refl (λ dim l. length-row_in bytes (row_begin shape dim) (2 ^ bits_of shape dim + 1))

-- what was written is read
pub marks_read-marks_bytes : (shape : Shape) (marks : List (List ℕ)) (bytes : List ℕ) → HasShape shape marks → marks_bytes marks ≡ bytes → ((i : ℕ) → get_or bytes i 0 < 256) → length bytes ≡ marks_len shape → marks_read shape bytes ≡ marks
marks_read-marks_bytes shape marks bytes has e h l =
    let read = marks_read_has_shape shape bytes in
    same_rows (marks_read shape bytes) marks (read.one_each ∙ sym has.one_each)
    (λ dim k. let inside : dim < shape.dims = omega (arith, k, read.one_each) in read.counts dim inside ∙ sym (has.counts dim inside))
    (marks_bytes-marks_read shape bytes h l ∙ sym e)

-- where valid marks were written, each row that is read is valid
pub valid_where_written : (shape : Shape) (marks : List (List ℕ)) (bytes : List ℕ) (dim : ℕ) → HasShape shape marks → AreValid marks → marks_bytes marks ≡ bytes → ((i : ℕ) → get_or bytes i 0 < 256) → length bytes ≡ marks_len shape → dim < shape.dims → IsRow (row_read shape bytes dim)
valid_where_written shape marks bytes dim has valid e h l inside =
    subst IsRow (sym (sym (row_at-marks_read shape bytes dim inside) ∙ ap (λ rows. row_at rows dim) (marks_read-marks_bytes shape marks bytes has e h l)))
    (valid dim (omega (arith, has.one_each)))

-- the bytes of valid marks are bytes
row_small : (row : List ℕ) → ((t : ℕ) → get_or row t 0 ≤ 256) → (i : ℕ) → get_or (row_bytes row) i 0 < 256
row_small [] most i = omega arith
row_small (mark ∷ row) most zero = let m = most 0 in omega (arith, m)
row_small (mark ∷ row) most (suc zero) = omega arith
row_small (mark ∷ row) most (suc (suc i)) = row_small row (λ t. most (suc t)) i

each_most : (row : List ℕ) → IsRow row → (t : ℕ) → get_or row t 0 ≤ 256
each_most row valid t = ⊎_elim (λ less. mark_at_most row valid t less) (λ from. rw (get_or_past row t 0 from) (omega arith)) (cases_lt t (length row))

marks_small : (marks : List (List ℕ)) → AreValid marks → (i : ℕ) → get_or (marks_bytes marks) i 0 < 256
marks_small [] valid i = omega arith
marks_small (row ∷ marks) valid i =
    let first = row_small row (each_most row (valid 0 (omega arith))) in
    let rest = marks_small marks (λ dim less. valid (suc dim) (omega (arith, less))) in
    ⊎_elim
    (λ less. subst (λ (n : ℕ). n < 256) (sym (get_or_append_left (row_bytes row) (marks_bytes marks) 0 i less)) (first i))
    (λ from. subst (λ (n : ℕ). n < 256) (sym (get_or-append_right (row_bytes row) (marks_bytes marks) (length (row_bytes row)) i 0 refl from)) (rest _))
    (cases_lt i (length (row_bytes row)))

-- valid marks are read as they were written
pub marks_again : (shape : Shape) (marks : List (List ℕ)) → HasShape shape marks → AreValid marks → marks_read shape (marks_bytes marks) ≡ marks
marks_again shape marks has valid = marks_read-marks_bytes shape marks (marks_bytes marks) has refl (marks_small marks valid) (marks_bytes_len shape marks has)
