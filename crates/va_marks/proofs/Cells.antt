-- The cell of a vector.
use Rattle.std.proofs.Common.{◌≡◌, ℕ, zero, suc, ◌<◌, List, [], ◌∷◌, length, get_or, ap, sym, ◌∙◌, arith, refl}
use Rattle.va_core.specs.Shape.{Shape}
use Rattle.va_core.specs.Codes.{AreSlices}
use Rattle.va_core.specs.Marks.{AreValid, HasShape, cell, row_at, slice_of}
use Rattle.va_core.proofs.Slices.{in_slice}
use Rattle.va_core.proofs.Cells.{cell_length}

-- a list of the slices is the cell
pub cell_is : (marks : List (List ℕ)) (vector out : List ℕ) → length vector ≡ length marks → length out ≡ length marks → ((dim : ℕ) → dim < length marks → get_or out dim 0 ≡ slice_of (row_at marks dim) (get_or vector dim 0)) → out ≡ cell marks vector
cell_is [] vector [] l m h = refl
cell_is [] vector (y ∷ out) l m h = absurd (omega arith)
cell_is (row ∷ marks) [] out l m h = absurd (omega arith)
cell_is (row ∷ marks) (x ∷ vector) [] l m h = absurd (omega arith)
cell_is (row ∷ marks) (x ∷ vector) (y ∷ out) l m h =
    let first : y ≡ slice_of row x = h 0 (omega arith) in
    let rest : out ≡ cell marks vector = cell_is marks vector out (omega arith) (omega arith) (λ dim b. h (suc dim) (omega arith)) in
    ap (λ z. z ∷ out) first ∙ ap (λ zs. slice_of row x ∷ zs) rest

cell_at : (marks : List (List ℕ)) (vector : List ℕ) (dim : ℕ) → length vector ≡ length marks → dim < length marks → get_or (cell marks vector) dim 0 ≡ slice_of (row_at marks dim) (get_or vector dim 0)
cell_at [] vector dim l b = absurd (omega arith)
cell_at (row ∷ marks) [] dim l b = absurd (omega arith)
cell_at (row ∷ marks) (x ∷ vector) zero l b = refl
cell_at (row ∷ marks) (x ∷ vector) (suc dim) l b = cell_at marks vector dim (omega arith) (omega arith)

-- each slice fits the bits of its dimension, so that a cell can be packed
pub cell_fits : (shape : Shape) (marks : List (List ℕ)) (vector : List ℕ) → HasShape shape marks → AreValid marks → length vector ≡ shape.dims → ((i : ℕ) → get_or vector i 0 < 256) → AreSlices shape (cell marks vector)
cell_fits shape marks vector has valid l bytes =
    let n : length vector ≡ length marks = l ∙ sym has.one_each in
    record {
      one_each = cell_length marks vector n ∙ has.one_each;
      fit = λ dim b.
          let inside : dim < length marks = omega (arith, has.one_each) in
          let slice = in_slice (row_at marks dim) (get_or vector dim 0) (valid dim inside) (bytes dim) in
          let at = cell_at marks vector dim n inside in
          omega (arith, slice.0, at, has.counts dim b);
    }
