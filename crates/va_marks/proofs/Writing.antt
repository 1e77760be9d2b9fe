-- Marks that are written one by one, and how many bytes they take.
use Rattle.std.proofs.Common.{◌≡◌, ℕ, ◌+◌, ◌*◌, ◌<◌, ◌≤◌, List, [], ◌∷◌, ◌++◌, length, get_or, take, set, ap, sym, ◌∙◌, arith}
use Rattle.std.proofs.lemmas.List.{take_more_set, take_more, length-set, append_assoc, flat_map_more}
use Rattle.std.proofs.lemmas.List.Folds.{length-flat_map-take}
use Rattle.va_core.specs.Marks.{row_at}
use Rattle.va_core.specs.MarkBytes.{marks_bytes, row_bytes, two_bytes}
use Rattle.va_core.proofs.MarkBytes.{length-row_bytes}

-- two bytes are written behind those that were, one mark behind marks, and one row behind rows
pub two_written : (out front : List ℕ) (at high low : ℕ) → at + 1 < length out → take at out ≡ front → take (at + 2) (set (set out at high) (at + 1) low) ≡ front ++ high ∷ low ∷ []
two_written out front at high low l e =
    let two : at + 2 ≡ at + 1 + 1 = omega arith in
    let inside : at + 1 < length (set out at high) = omega (arith, length-set out at high) in
    ap (λ n. take n (set (set out at high) (at + 1) low)) two ∙ take_more_set (set out at high) (at + 1) low inside
    ∙ ap (λ xs. xs ++ low ∷ []) (take_more_set out at high (omega arith) ∙ ap (λ xs. xs ++ high ∷ []) e) ∙ append_assoc front (high ∷ []) (low ∷ [])

pub marks_written : (row : List ℕ) (t : ℕ) → t < length row → row_bytes (take (t + 1) row) ≡ row_bytes (take t row) ++ two_bytes (get_or row t 0)
marks_written row t l = ap row_bytes (take_more row t 0 l) ∙ sym (flat_map_more two_bytes [] (take t row) (get_or row t 0))

-- the bytes of a row lie within those of all marks
pub row_fits : (marks : List (List ℕ)) (dim : ℕ) → dim < length marks → length (marks_bytes (take dim marks)) + 2 * length (row_at marks dim) ≤ length (marks_bytes marks)
row_fits marks dim l = let h = length-flat_map-take row_bytes marks dim [] l in omega (arith, h, length-row_bytes (row_at marks dim))
