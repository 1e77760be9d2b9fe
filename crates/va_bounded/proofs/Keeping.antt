-- One cell more, and all of them, in what a search keeps.
use Rattle.std.proofs.Common.{◌≡◌, ℕ, zero, suc, ltb, List, [], ◌∷◌, ◌++◌, take, refl, sym, ap, ◌∙◌}
use Rattle.std.proofs.lemmas.List.{map-append}
use Rattle.va_core.specs.declared.pair.Pair.{Pair}
use Rattle.va_core.specs.Approximations.{NamesDiffer, is_near, low_pair, paired}
use Rattle.va_core.specs.Ranking.{answer, ascending, lesser, placed}
use Rattle.va_core.specs.Distance.{Query}
use Rattle.va_core.proofs.Covering.{named_pairs_differ}
use Rattle.va_core.proofs.Nearest.{answer_is_first, kept_more, kept_tells}
use Rattle.va_keep.specs.Kept.{Kept}
use Rattle.va_ports.specs.Shelves.{Contents, id_of}
use Rattle.va_ports.specs.Searches.{bounds_of, clamped_distance}
use Rattle.va_bounded.specs.BoundedCells.{HasBounds, cell_of}
use Rattle.va_bounded.specs.Keeps.{KeepsLeast, clamped_pairs}
use Rattle.va_bounded.specs.declared.cell.BoundedCell.{BoundedCell}

abbrev Cells : Type 0
Cells = List (ℕ × ℕ)

pub clamped_joined : (contents : Contents) (query : Query) (a b : Cells) → clamped_pairs contents query (a ++ b) ≡ clamped_pairs contents query a ++ clamped_pairs contents query b
clamped_joined contents query a b = map-append (λ (cell : ℕ × ℕ). paired (clamped_distance contents query cell) (id_of cell)) a b

-- the least pair of the cell, and its pair
abbrev pub least_of : BoundedCell → Pair
least_of cell = paired cell.low cell.id

abbrev pub pair_at : Contents → Query → BoundedCell → Pair
pair_at contents query cell = paired (clamped_distance contents query (cell_of cell)) cell.id

module _ (told : Type 0) (contents : Contents) (query : Query) (cell : BoundedCell) (bounds : told → HasBounds contents query cell) (k : ℕ) (before : Cells) (kept : Kept) (keeps : KeepsLeast told contents query k before kept) where
  -- the pairs that are kept tell whether the cell is near
  pub keeps_tells : told → is_near (bounds_of contents query) before (clamped_distance contents query) k (cell_of cell) ≡ ltb (lesser kept.pairs (least_of cell)) kept.most
  keeps_tells t =
      let low : low_pair (bounds_of contents query) (cell_of cell) ≡ least_of cell = ap (λ (n : ℕ). paired n cell.id) (sym (bounds t).low) in
      ap (λ (p : Pair). ltb (lesser (clamped_pairs contents query before) p) k) low
      ∙ sym (kept_tells k (clamped_pairs contents query before) (least_of cell))
      ∙ ap (λ (l : List Pair). ltb (lesser l (least_of cell)) k) (sym (keeps.least t))
      ∙ ap (λ (n : ℕ). ltb (lesser kept.pairs (least_of cell)) n) (sym keeps.most)

  pub offered_pair : told → take k (placed (pair_at contents query cell) kept.pairs) ≡ take k (ascending (clamped_pairs contents query (before ++ cell_of cell ∷ [])))
  offered_pair t = kept_more k (pair_at contents query cell) (clamped_pairs contents query before) kept.pairs (keeps.least t)
      ∙ ap (λ (l : List Pair). take k (ascending l)) (sym (clamped_joined contents query before (cell_of cell ∷ [])))

  pub near_kept : (dist : ℕ) (kept' : Kept) → (told → dist ≡ clamped_distance contents query (cell_of cell)) → kept' ≡ record kept { pairs = take kept.most (placed (paired dist cell.id) kept.pairs) } → KeepsLeast told contents query k (before ++ cell_of cell ∷ []) kept'
  near_kept dist kept' is offer = record {
    most = ap (λ (x : Kept). x.most) offer ∙ keeps.most;
    least = λ t. ap (λ (x : Kept). x.pairs) offer ∙ ap (λ (n : ℕ). take n (placed (paired dist cell.id) kept.pairs)) keeps.most ∙ ap (λ (n : ℕ). take k (placed (paired n cell.id) kept.pairs)) (is t) ∙ offered_pair t;
  }

-- no cell was taken, and nothing is kept
pub keeps_none : (told : Type 0) (contents : Contents) (query : Query) (kept : Kept) → kept.pairs ≡ [] → KeepsLeast told contents query kept.most [] kept
keeps_none told contents query kept none = record { most = refl; least = λ _. none ∙ empty kept.most }
  where
    empty : (k : ℕ) → [] ≡ take k (ascending [])
    empty zero = refl
    empty (suc k) = refl

-- the k least that are kept of all cells are the answer
pub kept_answer : (told : Type 0) (contents : Contents) (query : Query) (k : ℕ) (kept : Kept) → NamesDiffer id_of contents.cells → KeepsLeast told contents query k contents.cells kept → told → kept.pairs ≡ answer (clamped_pairs contents query contents.cells) k
kept_answer told contents query k kept differ keeps t =
    keeps.least t ∙ sym (answer_is_first (clamped_pairs contents query contents.cells) k (named_pairs_differ id_of (clamped_distance contents query) contents.cells differ))
