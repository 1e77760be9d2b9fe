-- Cells of their own vectors: their distances lie between their bounds, and nothing is clamped.
use Rattle.std.proofs.Common.{◌≡◌, ℕ, ◌≤◌, false, ltb, length, List, [], ◌∷◌, if◌then◌else◌, refl, sym, ap, subst, arith}
use Rattle.std.proofs.lemmas.Bool.Decides.{nat_tests}
use Rattle.std.specs.List.{AllByRecursion}
use Rattle.va_core.specs.Approximations.{Approximations, pairs}
use Rattle.va_core.specs.Boxes.{Lies, low_of, high_of}
use Rattle.va_core.specs.Cells.{box, box_of}
use Rattle.va_core.specs.Determining.{AllVectors, own_boxes}
use Rattle.va_core.specs.Distance.{Query, distance}
use Rattle.va_core.specs.Vectors.{IsVector}
use Rattle.va_core.proofs.Boxes.{low_least, high_greatest}
use Rattle.va_core.proofs.Cells.{lies_in_own}
use Rattle.va_core.proofs.Checking.{pairs_same}
use Rattle.va_ports.specs.Shelves.{Contents, IsOwn, IsSound, id_of}
use Rattle.va_ports.specs.Searches.{IsBetween, LieBetween, bounds_of, box_at, clamped, clamped_distance, distance_of, vector_of}

pub clamped_same : {X : Type 0} (s : Approximations X) (dist : X → ℕ) (i : X) → IsBetween s dist i → clamped s dist i ≡ dist i
clamped_same s dist i between =
    let low : ltb (dist i) (s.low i) ≡ false = let le = between.0 in grind (arith, nat_tests, le) in
    let high : ltb (s.high i) (dist i) ≡ false = let le = between.1 in grind (arith, nat_tests, le) in
    rw (low, high) refl

-- what is clamped is at least the lower bound
pub clamped_low : {X : Type 0} (s : Approximations X) (dist : X → ℕ) (i : X) → s.low i ≤ s.high i → s.low i ≤ clamped s dist i
clamped_low s dist i order = least (dist i) (s.low i) (s.high i) order
  where
    least : (d low high : ℕ) → low ≤ high → low ≤ (if ltb d low then low else (if ltb high d then high else d))
    least d low high order = grind (arith, nat_tests, order)

module _ (contents : Contents) (query : Query) where
  pub clamped_each : (cells : List (ℕ × ℕ)) → LieBetween contents query cells → AllByRecursion (λ cell. clamped_distance contents query cell ≡ distance_of contents query cell) cells
  clamped_each [] all = tt
  clamped_each (cell ∷ cells) all = (clamped_same (bounds_of contents query) (distance_of contents query) cell all.0, clamped_each cells all.1)

  -- the pairs at clamped distances are those at the distances
  pub clamped_own : (cells : List (ℕ × ℕ)) → LieBetween contents query cells → pairs id_of (clamped_distance contents query) cells ≡ pairs id_of (distance_of contents query) cells
  clamped_own cells all = pairs_same id_of (distance_of contents query) (clamped_distance contents query) cells (clamped_each cells all)

module _ (contents : Contents) (sound : IsSound contents) where
  pub own_vector : (at : ℕ × ℕ) → IsOwn contents at → IsVector (length contents.marks) (vector_of contents at)
  own_vector at own = subst (λ (n : ℕ). IsVector n (vector_of contents at)) (sym sound.has_shape.one_each) own.0

  pub own_lies : (at : ℕ × ℕ) → IsOwn contents at → Lies (box_at contents at) (vector_of contents at)
  own_lies at own = subst (λ (code : List ℕ). Lies (box contents.marks code) (vector_of contents at)) own.1
      (lies_in_own contents.marks (vector_of contents at) sound.valid (own_vector at own))

  pub own_between : (query : Query) (cells : List (ℕ × ℕ)) → AllByRecursion (IsOwn contents) cells → LieBetween contents query cells
  own_between query [] all = tt
  own_between query (at ∷ cells) all =
      ((low_least (distance query) (box_at contents at) (vector_of contents at) (own_lies at all.0), high_greatest (distance query) (box_at contents at) (vector_of contents at) (own_lies at all.0)), own_between query cells all.1)

  -- the box of a code is that of its vector's cell
  pub own_box : (at : ℕ × ℕ) → IsOwn contents at → box_of contents.marks (vector_of contents at) ≡ box_at contents at
  own_box at own = ap (box contents.marks) own.1

  -- so are its bounds
  pub own_low : (query : Query) (at : ℕ × ℕ) → IsOwn contents at → low_of (distance query) (own_boxes contents.marks (vector_of contents) at) ≡ (bounds_of contents query).low at
  own_low query at own = ap (low_of (distance query)) (own_box at own)

  pub own_high : (query : Query) (at : ℕ × ℕ) → IsOwn contents at → high_of (distance query) (own_boxes contents.marks (vector_of contents) at) ≡ (bounds_of contents query).high at
  own_high query at own = ap (high_of (distance query)) (own_box at own)

  pub own_vectors : (cells : List (ℕ × ℕ)) → AllByRecursion (IsOwn contents) cells → AllVectors (length contents.marks) cells (vector_of contents)
  own_vectors [] all = tt
  own_vectors (at ∷ cells) all = (own_vector at all.0, own_vectors cells all.1)
