-- What is read for the k nearest is a least set, and no more than the candidates.
use Rattle.std.proofs.Common.{◌≡◌, ℕ, ◌≤◌, ◌&&◌, ltb, List, [], ◌∷◌, filter, length, map, take, refl, sym, ap, subst, ◌∙◌, arith}
use Rattle.std.proofs.lemmas.List.{length-map}
use Rattle.std.specs.List.{AllByRecursion}
use Rattle.va_core.specs.declared.pair.Pair.{Pair}
use Rattle.va_core.specs.Approximations.{candidates, is_candidate, is_needed, is_wide, low_pair, need, pairs}
use Rattle.va_core.specs.Determining.{IsLeastUnder, bounded, is_listed, nearest_of, own_boxes}
use Rattle.va_core.specs.Distance.{Query, distance}
use Rattle.va_core.specs.Ranking.{ascending, lesser}
use Rattle.va_core.specs.Sorting.{ascending_by}
use Rattle.va_core.proofs.Candidates.{needed_at_most}
use Rattle.va_core.proofs.Least.{nearest_least}
use Rattle.va_core.proofs.LeastUnder.{least_same, least_under, need_lists, own_lie}
use Rattle.va_core.proofs.Members.{all_at}
use Rattle.va_core.proofs.Nearest.{kept_tells}
use Rattle.va_keep.specs.Kept.{Kept}
use Rattle.va_keep.specs.Queued.{is_near_to}
use Rattle.va_keep.specs.declared.entry.Entry.{Entry}
use Rattle.va_ports.specs.Shelves.{AreOwnCells, Contents, IsOwn, IsSound, id_of}
use Rattle.va_ports.specs.Searches.{LieBetween, bounds_of, clamped_distance, distance_of, vector_of}
use Rattle.va_ports.proofs.Own.{clamped_own, own_between, own_high, own_low, own_vectors}
use Rattle.va_noa.specs.Entries.{entry_of}
use Rattle.va_noa.specs.Filling.{Fills, cells_queued}
use Rattle.va_noa.specs.NearestReads.{LeastNearest, cell_candidates, cells_needed, clamped_needed}
use Rattle.va_noa.proofs.Lists.{filter_mapped, passed_permuted}
use Rattle.va_noa.proofs.Queued.{queued_candidates}
use Rattle.va_noa.proofs.VisitSteps.{clamped_lie}

abbrev Cells : Type 0
Cells = List (ℕ × ℕ)

-- where each distance lies between its bounds, clamping changes nothing
pub needed_between : (contents : Contents) (query : Query) (k : ℕ) → LieBetween contents query contents.cells → clamped_needed contents query k ≡ cells_needed contents query k
needed_between contents query k all =
    ap (λ (ps : List Pair). ascending_by (low_pair (bounds_of contents query)) (filter (λ i. is_wide (bounds_of contents query) i && ltb (lesser ps (low_pair (bounds_of contents query) i)) k) contents.cells))
    (clamped_own contents query contents.cells all)

module _ (contents : Contents) (sound : IsSound contents) (query : Query) (k : ℕ) where
  pub needed_own : AreOwnCells contents → clamped_needed contents query k ≡ cells_needed contents query k
  needed_own own = needed_between contents query k (own_between contents sound query contents.cells own)

  same_tests : (cells : Cells) → AllByRecursion (IsOwn contents) cells →
      AllByRecursion (λ at. is_needed (bounds_of contents query) contents.cells (distance_of contents query) k at ≡ is_needed (bounded id_of (distance query) (own_boxes contents.marks (vector_of contents))) contents.cells (distance_of contents query) k at) cells
  same_tests [] all = tt
  same_tests (at ∷ cells) all = (rw (own_low contents sound query at all.0, own_high contents sound query at all.0) refl, same_tests cells all.1)

  pub nearest_is_least : (ids : List ℕ) → AreOwnCells contents → ids ≡ map id_of (cells_needed contents query k) → LeastNearest contents query k ids
  nearest_is_least ids own are =
      let marks = contents.marks in
      let old = vector_of contents in
      let d = distance_of contents query in
      let answers = nearest_of id_of (distance query) contents.cells k in
      let own_bounds = bounded id_of (distance query) (own_boxes marks old) in
      let listed = is_listed id_of (map id_of (cells_needed contents query k)) in
      let tests : AllByRecursion (λ at. is_needed (bounds_of contents query) contents.cells d k at ≡ is_needed own_bounds contents.cells d k at) contents.cells = same_tests contents.cells own in
      let vectors = own_vectors contents sound contents.cells own in
      let least : IsLeastUnder answers (length marks) marks contents.cells listed old =
      least_under answers marks contents.cells listed old sound.valid vectors
      (least_same answers (own_boxes marks old) contents.cells (is_needed own_bounds contents.cells d k) listed old
      (λ i among. need_lists (bounds_of contents query) contents.cells d k i sound.ids among ∙ all_at (λ at. is_needed (bounds_of contents query) contents.cells d k at ≡ is_needed own_bounds contents.cells d k at) contents.cells i tests among)
      (nearest_least id_of (distance query) (own_boxes marks old) contents.cells k old sound.ids (own_lie marks contents.cells old sound.valid vectors))) in
      subst (λ (n : ℕ). IsLeastUnder answers n marks contents.cells (is_listed id_of ids) old) sound.has_shape.one_each
      (subst (λ (l : List ℕ). IsLeastUnder answers (length marks) marks contents.cells (is_listed id_of l) old) (sym are) least)

module _ {told : Type 0} {contents : Contents} {query : Query} {k : ℕ} {highs : Kept} {entries : List Entry} (fills : Fills told contents query k contents.cells highs entries) where
  -- the entries that are near the k least upper bounds of all are those of the candidates
  pub candidates_counted : told → length (filter (is_near_to highs) entries) ≡ length (cell_candidates contents query k)
  candidates_counted t =
      let s = bounds_of contents query in
      let queue = cells_queued contents query k contents.cells in
      passed_permuted (is_near_to highs) (map (entry_of contents query) queue) entries (fills.held t)
      ∙ filter_mapped (entry_of contents query) (is_near_to highs) (is_candidate s contents.cells k) queue (tests t)
      ∙ ap length (queued_candidates s k contents.cells)
    where
      tests : told → (c : ℕ × ℕ) → is_near_to highs (entry_of contents query c) ≡ is_candidate (bounds_of contents query) contents.cells k c
      tests t c =
          ap (λ (l : List Pair). ltb (lesser l (low_pair (bounds_of contents query) c)) highs.most) (fills.highs t)
          ∙ ap (λ (n : ℕ). ltb (lesser (take k (ascending (pairs id_of (bounds_of contents query).high contents.cells))) (low_pair (bounds_of contents query) c)) n) fills.most
          ∙ kept_tells k (pairs id_of (bounds_of contents query).high contents.cells) (low_pair (bounds_of contents query) c)

  pub needed_few : told → {ids : List ℕ} → ids ≡ map id_of (clamped_needed contents query k) → length ids ≤ length (filter (is_near_to highs) entries)
  needed_few t {ids} are =
      let s = bounds_of contents query in
      let d = clamped_distance contents query in
      let count : length ids ≡ length (clamped_needed contents query k) = ap length are ∙ length-map (clamped_needed contents query k) id_of in
      let few : length (need s contents.cells d k) ≤ length (candidates s contents.cells k) = needed_at_most s contents.cells d k (clamped_lie contents query k (fills.ordered t)).highs in
      let same = candidates_counted t in
      omega (arith, count, few, same)
