-- Marks that are written row by row.
use Rattle.std.proofs.Common.{◌≡◌, inl, ℕ, ◌+◌, ◌*◌, ◌<◌, ◌≤◌, List, [], ◌∷◌, ◌++◌, length, take, refl, sym, ◌∙◌, ap, arith}
use Rattle.std.proofs.lemmas.List.{take_all}
use Rattle.va_core.specs.MarkBytes.{marks_bytes, marks_len, marks_read, row_begin, row_bytes}
use Rattle.va_core.specs.Marks.{AreValid, HasShape, row_at}
use Rattle.va_core.specs.Shape.{Shape}
use Rattle.va_core.proofs.MarkBytes.{begin_next, rows_written}
use Rattle.va_layout.specs.declared.region.Region.{Region}
use Rattle.va_layout.specs.Parts.{part, KeepsRest}
use Rattle.va_layout.specs.Layout.{marks_at}
use Rattle.va_layout.specs.Fields.{marks_in, marks_range}
use Rattle.va_layout.proofs.Parts.{part_join, rest_around}
use Rattle.va_marks.proofs.Offsets.{row_inside}
use Rattle.va_marks.proofs.RoundTrip.{marks_again}

-- a row lies within the marks of its region
pub row_ends : (shape : Shape) (marks : List (List ℕ)) (dim : ℕ) → HasShape shape marks → dim < shape.dims → row_begin shape dim + 2 * length (row_at marks dim) ≤ marks_len shape
row_ends shape marks dim has inside = row_inside shape dim (row_begin shape dim) (length (row_at marks dim)) (marks_len shape) inside refl (has.counts dim inside) refl

pub next_row : (shape : Shape) (marks : List (List ℕ)) (dim : ℕ) → HasShape shape marks → dim < shape.dims → row_begin shape (dim + 1) ≡ row_begin shape dim + 2 * length (row_at marks dim)
next_row shape marks dim has inside = let counts = has.counts dim inside in omega (arith, begin_next shape dim, counts)

module _ (shape : Shape) (region : Region) (marks : List (List ℕ)) (has : HasShape shape marks) where
  pub row_within : (dim at : ℕ) (a c : List ℕ) → dim < shape.dims → at ≡ marks_at shape region + row_begin shape dim
      → KeepsRest ((at, 2 * length (row_at marks dim)) ∷ []) a c → KeepsRest (marks_range shape region) a c
  row_within dim at a c inside is keeps = let ends = row_ends shape marks dim has inside in
      rest_around at (2 * length (row_at marks dim)) (marks_at shape region) (marks_len shape) a c (omega (arith, is)) (omega (arith, is, ends)) keeps

  -- one row more stands there
  pub one_more : (dim at : ℕ) (a c : List ℕ) → dim < shape.dims → at ≡ marks_at shape region + row_begin shape dim
      → part (marks_at shape region) (row_begin shape dim) a ≡ marks_bytes (take dim marks) → KeepsRest ((at, 2 * length (row_at marks dim)) ∷ []) a c → part at (2 * length (row_at marks dim)) c ≡ row_bytes (row_at marks dim)
      → part (marks_at shape region) (row_begin shape (dim + 1)) c ≡ marks_bytes (take (dim + 1) marks)
  one_more dim at a c inside is before keeps now =
      let less : dim < length marks = omega (arith, has.one_each) in
      let there : part (marks_at shape region) (row_begin shape dim) c ≡ marks_bytes (take dim marks) = keeps.same (marks_at shape region) (row_begin shape dim) (inl (omega (arith, is)), tt) ∙ before in
      ap (λ (n : ℕ). part (marks_at shape region) n c) (next_row shape marks dim has inside)
      ∙ part_join (marks_at shape region) (row_begin shape dim) (2 * length (row_at marks dim)) c
      ∙ ap (λ (l : List ℕ). l ++ part (marks_at shape region + row_begin shape dim) (2 * length (row_at marks dim)) c) there
      ∙ ap (λ (l : List ℕ). marks_bytes (take dim marks) ++ l) (ap (λ (n : ℕ). part n (2 * length (row_at marks dim)) c) (sym is) ∙ now)
      ∙ sym (rows_written marks dim less)

  -- all rows were written
  pub all_rows : (dim : ℕ) (c : List ℕ) → AreValid marks → dim ≡ shape.dims → part (marks_at shape region) (row_begin shape dim) c ≡ marks_bytes (take dim marks) → marks_in shape region c ≡ marks
  unfolding marks_len
  all_rows dim c valid all there =
      ap (λ (l : List ℕ). marks_read shape l) (ap (λ (n : ℕ). part (marks_at shape region) (row_begin shape n) c) (sym all) ∙ there ∙ ap marks_bytes (take_all dim marks (omega (arith, all, has.one_each))))
      ∙ marks_again shape marks has valid
