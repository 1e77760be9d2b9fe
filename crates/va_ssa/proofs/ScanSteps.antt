-- One cell of a scan for the k nearest, and cells in two parts.
use Rattle.std.proofs.Common.{◌≡◌, ℕ, zero, suc, ◌+◌, ◌≤◌, true, false, ◌&&◌, ltb, List, [], ◌∷◌, ◌++◌, length, take, if◌then◌else◌, refl, sym, ap, ◌∙◌, append_assoc, length-take, arith}
use Rattle.std.proofs.lemmas.List.{append-nil, map-append}
use Rattle.std.specs.List.{AllByRecursion}
use Rattle.std.proofs.lemmas.Bool.Decides.{nat_tests}
use Rattle.va_core.specs.declared.pair.Pair.{Pair}
use Rattle.va_core.specs.Approximations.{Approximations, is_near, is_needed, is_wide, low_pair, paired, pairs}
use Rattle.va_core.specs.Ranking.{ascending, is_less, lesser, placed}
use Rattle.va_core.specs.Scanning.{scanned_after}
use Rattle.va_core.specs.Distance.{Query}
use Rattle.va_core.proofs.Counting.{lesser_rises}
use Rattle.va_core.proofs.Knowing.{raised}
use Rattle.va_core.proofs.Order.{not_self}
use Rattle.va_keep.specs.Kept.{Kept}
use Rattle.va_keep.proofs.Offering.{lesser_few}
use Rattle.va_ports.specs.Shelves.{Contents}
use Rattle.va_ports.specs.Searches.{LieBetween, bounds_of, clamped_distance, distance_of}
use Rattle.va_ports.proofs.Own.{clamped_each, clamped_low}
use Rattle.va_bounded.specs.BoundedCells.{HasBounds, cell_of, wide_cells}
use Rattle.va_bounded.specs.Keeps.{KeepsLeast, clamped_pairs}
use Rattle.va_ssa.specs.ScanReads.{cells_scanned, clamped_scanned, scanned_next}
use Rattle.va_bounded.specs.declared.cell.BoundedCell.{BoundedCell}
use Rattle.va_bounded.proofs.Deciding.{and_false, and_true}
use Rattle.va_bounded.proofs.Keeping.{keeps_tells, least_of, offered_pair, pair_at}
use Rattle.va_bounded.proofs.Scanned.{Reads}

abbrev Cells : Type 0
Cells = List (ℕ × ℕ)

scanned_joined : {X : Type 0} (s : Approximations X) (dist : X → ℕ) (k : ℕ) (before a b : List X) → scanned_after s dist k before (a ++ b) ≡ scanned_after s dist k before a ++ scanned_after s dist k (before ++ a) b
scanned_joined s dist k before [] b = ap (λ l. scanned_after s dist k l b) (sym (append-nil before))
scanned_joined {X} s dist k before (x ∷ a) b =
    let rest : scanned_after s dist k (before ++ x ∷ []) (a ++ b) ≡ scanned_after s dist k (before ++ x ∷ []) a ++ scanned_after s dist k (before ++ x ∷ a) b =
    scanned_joined s dist k (before ++ x ∷ []) a b ∙ ap (λ (l : List X). scanned_after s dist k (before ++ x ∷ []) a ++ scanned_after s dist k l b) (append_assoc before (x ∷ []) a) in
    elim (is_needed s before dist k x) as (λ c. (if c then x ∷ scanned_after s dist k (before ++ x ∷ []) (a ++ b) else scanned_after s dist k (before ++ x ∷ []) (a ++ b))
    ≡ (if c then x ∷ scanned_after s dist k (before ++ x ∷ []) a else scanned_after s dist k (before ++ x ∷ []) a) ++ scanned_after s dist k (before ++ x ∷ a) b) [
      | true ↦ ap (λ (l : List X). x ∷ l) rest
      | false ↦ rest
    ]

pub scan_reads : (contents : Contents) (query : Query) (k : ℕ) → Reads (scanned_next contents query k)
scan_reads contents query k = record { none = λ _. refl; both = scanned_joined (bounds_of contents query) (clamped_distance contents query) k }

-- where k pairs are less than another one, that isn't among the k least
shut_out : (k : ℕ) (p : Pair) (l : List Pair) → k ≤ lesser l p → length l ≤ k → take k (placed p l) ≡ l
shut_out zero p [] many few = refl
shut_out (suc k) p [] many few = absurd (omega arith)
shut_out zero p (q ∷ l) many few = absurd (omega arith)
shut_out (suc k) p (q ∷ l) many few =
    let rest : lesser l p ≤ length l = lesser_few l p in
    elim (is_less q p) as (λ c. is_less q p ≡ c → suc k ≤ (if c then 1 else 0) + lesser l p → take (suc k) (if c then q ∷ placed p l else p ∷ (q ∷ l)) ≡ q ∷ l) [
      | true ↦ λ _ h. ap (λ (m : List Pair). q ∷ m) (shut_out k p l (omega (arith, h)) (omega (arith, few)))
      | false ↦ λ _ h. absurd (omega (arith, h, rest, few))
    ] refl many

module _ (told : Type 0) (contents : Contents) (query : Query) (cell : BoundedCell) (bounds : told → HasBounds contents query cell) (k : ℕ) (before : Cells) (kept : Kept) (keeps : KeepsLeast told contents query k before kept) where
  pub near_scanned : ltb (lesser kept.pairs (least_of cell)) kept.most ≡ true → told → scanned_next contents query k before (cell_of cell ∷ []) ≡ wide_cells contents query (cell_of cell ∷ [])
  near_scanned near t =
      let yes : is_near (bounds_of contents query) before (clamped_distance contents query) k (cell_of cell) ≡ true = keeps_tells told contents query cell bounds k before kept keeps t ∙ near in
      rw (yes, and_true (is_wide (bounds_of contents query) (cell_of cell))) refl

  pub far_scanned : ltb (lesser kept.pairs (least_of cell)) kept.most ≡ false → told → scanned_next contents query k before (cell_of cell ∷ []) ≡ []
  far_scanned far t =
      let no : is_near (bounds_of contents query) before (clamped_distance contents query) k (cell_of cell) ≡ false = keeps_tells told contents query cell bounds k before kept keeps t ∙ far in
      rw (no, and_false (is_wide (bounds_of contents query) (cell_of cell))) refl

  pub far_kept : cell.low ≤ cell.high → ltb (lesser kept.pairs (least_of cell)) kept.most ≡ false → KeepsLeast told contents query k (before ++ cell_of cell ∷ []) kept
  far_kept order far = record {
    most = keeps.most;
    least = λ t.
        let s = bounds_of contents query in
        let above : s.low (cell_of cell) ≤ clamped_distance contents query (cell_of cell) = clamped_low s (distance_of contents query) (cell_of cell) (rw (sym (bounds t).low, sym (bounds t).high) order) in
        let low : cell.low ≤ clamped_distance contents query (cell_of cell) = rw ((bounds t).low) above in
        let not_less : is_less (pair_at contents query cell) (least_of cell) ≡ false = raised cell.id cell.low (clamped_distance contents query (cell_of cell)) (least_of cell) low (not_self (least_of cell)) in
        let rises : lesser kept.pairs (least_of cell) ≤ lesser kept.pairs (pair_at contents query cell) = lesser_rises kept.pairs (least_of cell) (pair_at contents query cell) not_less in
        let many : kept.most ≤ lesser kept.pairs (least_of cell) = grind (arith, nat_tests, far) in
        let most = keeps.most in
        let few : length kept.pairs ≤ k = rw (keeps.least t, length-take k (ascending (clamped_pairs contents query before))) (omega arith) in
        sym (shut_out k (pair_at contents query cell) kept.pairs (omega (arith, rises, many, most)) few) ∙ offered_pair told contents query cell bounds k before kept keeps t;
  }

-- at distances that are the same the same cells are read
scanned_same : {X : Type 0} (s : Approximations X) (e d : X → ℕ) (k : ℕ) (before cells : List X) → pairs s.name e before ≡ pairs s.name d before → AllByRecursion (λ x. e x ≡ d x) cells → scanned_after s e k before cells ≡ scanned_after s d k before cells
scanned_same s e d k before [] same all = refl
scanned_same {X} s e d k before (x ∷ cells) same all =
    let test : is_needed s before e k x ≡ is_needed s before d k x = ap (λ (l : List Pair). is_wide s x && ltb (lesser l (low_pair s x)) k) same in
    let more : pairs s.name e (before ++ x ∷ []) ≡ pairs s.name d (before ++ x ∷ []) =
    map-append (λ (y : X). paired (e y) (s.name y)) before (x ∷ []) ∙ ap (λ (l : List Pair). l ++ paired (e x) (s.name x) ∷ []) same
    ∙ ap (λ (n : ℕ). pairs s.name d before ++ paired n (s.name x) ∷ []) all.0 ∙ sym (map-append (λ (y : X). paired (d y) (s.name y)) before (x ∷ [])) in
    let rest : scanned_after s e k (before ++ x ∷ []) cells ≡ scanned_after s d k (before ++ x ∷ []) cells = scanned_same s e d k (before ++ x ∷ []) cells more all.1 in
    rw (test, rest) refl

-- where each distance lies between its bounds, clamping changes nothing
pub scanned_between : (contents : Contents) (query : Query) (k : ℕ) → LieBetween contents query contents.cells → clamped_scanned contents query k ≡ cells_scanned contents query k
scanned_between contents query k all = scanned_same (bounds_of contents query) (clamped_distance contents query) (distance_of contents query) k [] contents.cells refl (clamped_each contents query contents.cells all)
