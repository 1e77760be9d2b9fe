-- A range that is read in pieces.
use Rattle.std.proofs.Common.{◌≡◌, ℕ, ◌+◌, ◌-◌, ◌<◌, ◌≤◌, min, List, [], ◌∷◌, ◌++◌, length, take, drop, refl, sym, ◌∙◌, ap, subst, append_assoc, append-nil, arith}
use Rattle.std.proofs.lemmas.List.{length-take-le, length-drop}
use Rattle.std.proofs.lemmas.Slice.{take-put_mid}
use borrow.Rule.Slice.PartMut.{put_mid}
use Rattle.va_disk.specs.declared.storage.Storage.{Ghosts}
use Rattle.va_layout.specs.Parts.{part}
use Rattle.va_layout.proofs.Parts.{part_join}
use Rattle.va_cells.specs.Reads.{ArePieces, ReadsRange}

pieces_both : (most end from mid to : ℕ) (a b : List (ℕ × ℕ)) → ArePieces most end from mid a → ArePieces most end mid to b → ArePieces most end from to (a ++ b)
pieces_both most end from mid to [] b first next = subst (λ (n : ℕ). ArePieces most end n to b) (sym first) next
pieces_both most end from mid to (read ∷ a) b first next = (first.0, first.1, pieces_both most end (from + read.1) mid to a b first.2 next)

module _ {D : Type 0} {g : Ghosts D} {most end : ℕ} where
  pub range_none : {from : ℕ} {old new : D} → (g.told → g.reads new ≡ g.reads old) → ReadsRange g most end from from old new
  range_none {from} {old} reads = record { pieces = []; are = refl; added = λ told. reads told ∙ sym (append-nil (g.reads old)) }

  -- the pieces from one offset to another, and then on to a third
  pub range_both : {from mid to : ℕ} {old between new : D} → ReadsRange g most end from mid old between → ReadsRange g most end mid to between new → ReadsRange g most end from to old new
  range_both {from} {mid} {to} {old} first next = record {
    pieces = first.pieces ++ next.pieces;
    are = pieces_both most end from mid to first.pieces next.pieces first.are next.are;
    added = λ told. next.added told ∙ ap (λ (l : List (ℕ × ℕ)). l ++ next.pieces) (first.added told) ∙ append_assoc (g.reads old) first.pieces next.pieces;
  }

  pub range_one : {from to : ℕ} {old new : D} (n : ℕ) → from < end → n ≡ min most (end - from) → from + n ≡ to → (g.told → g.reads new ≡ g.reads old ++ (from, n) ∷ []) → ReadsRange g most end from to old new
  range_one {from} n less is next reads = record {
    pieces = (from, n) ∷ [];
    are = (less, ap (λ (k : ℕ). (from, k)) is, next);
    added = reads;
  }

-- a piece goes behind those that were read before
pub filled_more : (at done count k : ℕ) (image out piece : List ℕ) → take done out ≡ part at done image → done + count ≤ length out → length piece ≡ count → piece ≡ part (at + done) count image
    → take (done + count) (put_mid done k out piece) ≡ part at (done + count) image
filled_more at done count k image out piece before fits long now =
    take-put_mid done k out piece (done + count) (omega arith) (omega arith)
    ∙ ap (λ (l : List ℕ). l ++ piece) before ∙ ap (λ (l : List ℕ). part at done image ++ l) now
    ∙ sym (part_join at done count image)

pub piece_length : {A : Type 0} (done n : ℕ) (l : List A) → done + n ≤ length l → length (take (done + n - done) (drop done l)) ≡ n
piece_length done n l le =
    let same : done + n - done ≡ n = omega arith in
    rw same (length-take-le n (drop done l) (omega (arith, length-drop done l)))
