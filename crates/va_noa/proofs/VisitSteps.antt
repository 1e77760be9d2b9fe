-- A visit of the queue that has gone some way.
use Rattle.std.proofs.Common.{◌≡◌, ℕ, ◌≤◌, true, false, List, [], ◌∷◌, ◌++◌, filter, length, map, take, ltb, Contains, if◌then◌else◌, refl, ap, sym, ◌∙◌, subst, append_assoc, arith}
use Rattle.std.proofs.lemmas.Bool.Decides.{nat_tests}
use Rattle.std.proofs.lemmas.List.{append-nil, length-map}
use Rattle.std.specs.List.{AllByRecursion}
use Rattle.std.specs.List.Sorted.{IsPermutation}
use Rattle.std.proofs.lemmas.List.Elements.{filter-append}
use Rattle.std.proofs.lemmas.List.Sorted.{IsPermutation-map, IsPermutation-sym, IsPermutation-trans, Contains-permutation, length_permutation}
use Rattle.va_core.specs.Approximations.{NamesDiffer, is_near, is_needed, is_wide, low_pair, paired, pairs}
use Rattle.va_core.specs.Ranking.{answer, ascending, lesser, placed}
use Rattle.va_core.specs.Sorting.{ascending_by, IsFloor, IsInOrder}
use Rattle.va_core.specs.Distance.{Query}
use Rattle.va_core.proofs.Covering.{named_pairs_differ}
use Rattle.va_core.proofs.Members.{all_append}
use Rattle.va_core.proofs.Nearest.{answer_is_first}
use Rattle.va_core.proofs.Sorting.{all_ascending_by, ascending_by_in_order, ascending_by_permutes}
use Rattle.va_keep.specs.Kept.{Kept}
use Rattle.va_keep.specs.Queued as queues
use Rattle.va_keep.specs.declared.entry.Entry.{Entry}
use Rattle.va_ports.specs.Faults.{IfMemory}
use Rattle.va_ports.specs.Shelves.{Contents, id_of}
use Rattle.va_ports.specs.Searches.{Stopped, Took, bounds_of, clamped_distance, distance_of}
use Rattle.va_ports.specs.declared.search.SearchFault.{SearchFault}
use Rattle.va_ports.specs.declared.shelf.Shelf.{Ghosts}
use Rattle.va_ports.proofs.Own.{clamped_low}
use Rattle.va_ports.proofs.Searching.{PassesBoth, PassesNone, stopped_after, stopped_as, took_as, took_both, took_none}
use Rattle.va_bounded.specs.BoundedCells.{HasBounds, cell_of, wide_cells}
use Rattle.va_bounded.specs.Keeps.{KeepsLeast, clamped_pairs}
use Rattle.va_bounded.proofs.Keeping.{keeps_none, keeps_tells, near_kept}
use Rattle.va_noa.specs.Entries.{bounded_at, entry_of}
use Rattle.va_noa.specs.Filling.{AreOrdered, cells_queued}
use Rattle.va_noa.specs.NearestReads.{clamped_needed}
use Rattle.va_noa.proofs.Holding.{Lie, holding_answers, holding_needed, holding_tells}
use Rattle.va_noa.proofs.InOrder.{far_none, needed_first, next_near, sorted_lesser, sorted_ranked, stopped_first, stops_all, stops_far}
use Rattle.va_noa.proofs.Lists.{contains_right, one_of_name, order_right, tail}
use Rattle.va_noa.proofs.Popping.{Apart, IsFirst, popped_first}
use Rattle.va_noa.proofs.Queued.{queued_all, queued_candidates, queued_differ}

abbrev Cells : Type 0
Cells = List (ℕ × ℕ)

moved_all : {X : Type 0} (P Q : X → Type 0) → ((x : X) → P x → Q x) → (l : List X) → AllByRecursion P l → AllByRecursion Q l
moved_all P Q h [] g = tt
moved_all P Q h (x ∷ l) g = (h x g.0, moved_all P Q h l g.1)

-- a clamped distance lies between the bounds, where these are in order
clamped_high : (dist low high : ℕ) → low ≤ high → (if ltb dist low then low else (if ltb high dist then high else dist)) ≤ high
clamped_high dist low high order = grind (arith, nat_tests, order)

module _ (contents : Contents) (query : Query) (k : ℕ) where
  -- the queued cells in the order of their least pairs
  abbrev pub sorted_cells : Cells
  sorted_cells = ascending_by (low_pair (bounds_of contents query)) (cells_queued contents query k contents.cells)

  clamped_lows : (cells : Cells) → AreOrdered contents query cells → AllByRecursion (λ c. (bounds_of contents query).low c ≤ clamped_distance contents query c) cells
  clamped_lows [] h = tt
  clamped_lows (c ∷ cells) h = (clamped_low (bounds_of contents query) (distance_of contents query) c h.0, clamped_lows cells h.1)

  clamped_highs : (cells : Cells) → AreOrdered contents query cells → AllByRecursion (λ c. clamped_distance contents query c ≤ (bounds_of contents query).high c) cells
  clamped_highs [] h = tt
  clamped_highs (c ∷ cells) h = (clamped_high (distance_of contents query c) ((bounds_of contents query).low c) ((bounds_of contents query).high c) h.0, clamped_highs cells h.1)

  pub clamped_lie : AreOrdered contents query contents.cells → Lie (bounds_of contents query) (clamped_distance contents query) contents.cells
  clamped_lie h = record { lows = clamped_lows contents.cells h; highs = clamped_highs contents.cells h }

  queued_lows : AreOrdered contents query contents.cells → AllByRecursion (λ c. (bounds_of contents query).low c ≤ clamped_distance contents query c) (cells_queued contents query k contents.cells)
  queued_lows h = queued_all (bounds_of contents query) k (λ c. (bounds_of contents query).low c ≤ clamped_distance contents query c) [] contents.cells (clamped_lows contents.cells h)

  sorted_lows : AreOrdered contents query contents.cells → AllByRecursion (λ c. (bounds_of contents query).low c ≤ clamped_distance contents query c) sorted_cells
  sorted_lows h = all_ascending_by (λ c. (bounds_of contents query).low c ≤ clamped_distance contents query c) (low_pair (bounds_of contents query)) (cells_queued contents query k contents.cells) (queued_lows h)

  -- the sorted cells tell who is near
  sorted_tells : AreOrdered contents query contents.cells → (c : ℕ × ℕ) → is_near (bounds_of contents query) contents.cells (clamped_distance contents query) k c ≡ is_near (bounds_of contents query) sorted_cells (clamped_distance contents query) k c
  sorted_tells h c =
      let s = bounds_of contents query in
      let q = cells_queued contents query k contents.cells in
      holding_tells s (clamped_distance contents query) contents.cells k (clamped_lie h) q (queued_lows h) (queued_candidates s k contents.cells) c
      ∙ ap (λ (n : ℕ). ltb n k) (sym (sorted_lesser id_of (clamped_distance contents query) (low_pair s) q (low_pair s c)))

  rest_apart : NamesDiffer id_of contents.cells → (visited rest : Cells) → sorted_cells ≡ visited ++ rest → Apart rest
  rest_apart differ visited rest split a b p q e =
      let queue = cells_queued contents query k contents.cells in
      let back : (c : ℕ × ℕ) → Contains rest c → Contains queue c = λ c h. Contains-permutation sorted_cells queue c (IsPermutation-sym queue sorted_cells (ascending_by_permutes (low_pair (bounds_of contents query)) queue))
      (subst (λ (l : Cells). Contains l c) (sym split) (contains_right visited rest c h)) in
      one_of_name id_of queue a b (queued_differ (bounds_of contents query) k [] contents.cells differ) (back a p) (back b q) e

  rest_order : (visited rest : Cells) → sorted_cells ≡ visited ++ rest → IsInOrder (low_pair (bounds_of contents query)) (visited ++ rest)
  rest_order visited rest split = subst (IsInOrder (low_pair (bounds_of contents query))) split (ascending_by_in_order (low_pair (bounds_of contents query)) (cells_queued contents query k contents.cells))

  -- what is needed, of the sorted cells in two parts, where the first were near
  needed_split : (ordered : AreOrdered contents query contents.cells) (visited rest : Cells) → sorted_cells ≡ visited ++ rest → AllByRecursion (λ c. is_near (bounds_of contents query) contents.cells (clamped_distance contents query) k c ≡ true) visited →
      clamped_needed contents query k ≡ wide_cells contents query visited ++ filter (is_needed (bounds_of contents query) contents.cells (clamped_distance contents query) k) rest
  needed_split ordered visited rest split near =
      let s = bounds_of contents query in
      let d = clamped_distance contents query in
      sym (holding_needed s d contents.cells k (clamped_lie ordered) (cells_queued contents query k contents.cells) (queued_lows ordered) (queued_candidates s k contents.cells))
      ∙ ap (filter (is_needed s contents.cells d k)) split
      ∙ needed_first s d k contents.cells visited rest near

  -- no later cell can matter
  abbrev pub IsDone : Cells → Cells → Type 0
  IsDone visited rest = AllByRecursion (λ e. k ≤ lesser (pairs id_of (clamped_distance contents query) visited) (low_pair (bounds_of contents query) e)) rest

-- Some cells of the queue were visited, and all were near. Where the shelf tells, the entries of the rest are left.
pub record Visits {S : Type 0} (g : Ghosts S) (contents : Contents) (query : Query) (k : ℕ) (left : List Entry) (kept : Kept) (old now : S) (ids : List ℕ) : Type 0 where
  pub visited : Cells
  pub rest : Cells
  pub took : Took g contents query (wide_cells contents query visited) old now [] ids
  pub keeps : KeepsLeast g.told contents query k visited kept
  pub split : g.told → sorted_cells contents query k ≡ visited ++ rest
  pub held : g.told → IsPermutation (map (entry_of contents query) rest) left
  pub near : g.told → AllByRecursion (λ c. is_near (bounds_of contents query) contents.cells (clamped_distance contents query) k c ≡ true) visited

-- an entry that was popped, of the cells that were left
pub record Pops {S : Type 0} (g : Ghosts S) (contents : Contents) (query : Query) (rest : Cells) (entry : Entry) (left : List Entry) : Type 0 where
  pub first : g.told → IsFirst contents query rest entry left

pub popped_bounds : {S : Type 0} {g : Ghosts S} {contents : Contents} {query : Query} {rest : Cells} {entry : Entry} {left : List Entry} → Pops g contents query rest entry left → g.told → HasBounds contents query (bounded_at entry)
popped_bounds pops t = record { low = ap (λ (n : Entry). n.low) (pops.first t).is; high = ap (λ (n : Entry). n.high) (pops.first t).is }

module _ {S : Type 0} {g : Ghosts S} {contents : Contents} {query : Query} {k : ℕ} where
  pub visits_start : PassesNone g → {entries : List Entry} {kept : Kept} {x : S} {ids : List ℕ} → kept.most ≡ k → kept.pairs ≡ [] → ids ≡ [] → (g.told → IsPermutation (map (entry_of contents query) (cells_queued contents query k contents.cells)) entries) →
      Visits g contents query k entries kept x x ids
  visits_start none {entries} {kept} {x} {ids} most no_pairs no_ids held = record {
    visited = [];
    rest = sorted_cells contents query k;
    took = rw no_ids (took_none g contents query x x [] (none x));
    keeps = subst (λ (n : ℕ). KeepsLeast g.told contents query n [] kept) most (keeps_none g.told contents query kept no_pairs);
    split = λ _. refl;
    held = λ t.
        let queue = cells_queued contents query k contents.cells in
        let E = entry_of contents query in
        IsPermutation-trans (map E (sorted_cells contents query k)) (map E queue) entries
        (IsPermutation-map E (sorted_cells contents query k) queue (IsPermutation-sym queue (sorted_cells contents query k) (ascending_by_permutes (low_pair (bounds_of contents query)) queue))) (held t);
    near = λ _. tt;
  }

  module _ {entries : List Entry} {kept : Kept} {old now : S} {ids : List ℕ} (ordered : g.told → AreOrdered contents query contents.cells) (v : Visits g contents query k entries kept old now ids) (done : g.told → IsDone contents query k v.visited v.rest) where
    pub visits_took : Took g contents query (clamped_needed contents query k) old now [] ids
    visits_took =
        let s = bounds_of contents query in
        let d = clamped_distance contents query in
        took_as g contents query (wide_cells contents query v.visited) (clamped_needed contents query k) old now [] ids
        (λ t.
        let far : AllByRecursion (λ i. is_near (bounds_of contents query) contents.cells (clamped_distance contents query) k i ≡ false) v.rest =
        moved_all (λ i. is_near (bounds_of contents query) (v.visited ++ v.rest) (clamped_distance contents query) k i ≡ false) (λ i. is_near (bounds_of contents query) contents.cells (clamped_distance contents query) k i ≡ false)
        (λ i h. sorted_tells contents query k (ordered t) i ∙ ap (λ (l : Cells). is_near (bounds_of contents query) l (clamped_distance contents query) k i) (v.split t) ∙ h) v.rest
        (stops_far (bounds_of contents query) (clamped_distance contents query) k v.visited v.rest v.rest (done t)) in
        needed_split contents query k (ordered t) v.visited v.rest (v.split t) (v.near t)
        ∙ ap (λ (l : Cells). wide_cells contents query v.visited ++ l) (far_none (bounds_of contents query) (clamped_distance contents query) k contents.cells v.rest far)
        ∙ append-nil (wide_cells contents query v.visited))
        v.took

    pub visits_kept : NamesDiffer id_of contents.cells → g.told → kept.pairs ≡ answer (clamped_pairs contents query contents.cells) k
    visits_kept differ t =
        let s = bounds_of contents query in
        let d = clamped_distance contents query in
        let q = cells_queued contents query k contents.cells in
        let lows : AllByRecursion (λ i. s.low i ≤ d i) (v.visited ++ v.rest) = subst (AllByRecursion (λ i. s.low i ≤ d i)) (v.split t) (sorted_lows contents query k (ordered t)) in
        v.keeps.least t
        ∙ sym (stopped_first s d k v.visited v.rest lows (done t))
        ∙ ap (λ (l : Cells). take k (ascending (clamped_pairs contents query l))) (sym (v.split t))
        ∙ ap (take k) (sorted_ranked id_of d (low_pair s) q)
        ∙ sym (answer_is_first (clamped_pairs contents query q) k (named_pairs_differ id_of d q (queued_differ s k [] contents.cells differ)))
        ∙ holding_answers s d contents.cells k (clamped_lie contents query k (ordered t)) q (queued_lows contents query k (ordered t)) (queued_candidates s k contents.cells)

  -- where no entry is left, no cell is
  pub none_left : {entries : List Entry} {kept : Kept} {old now : S} {ids : List ℕ} → (v : Visits g contents query k entries kept old now ids) → entries ≡ [] → g.told → IsDone contents query k v.visited v.rest
  none_left {entries} v none t =
      let few : length entries ≡ length (map (entry_of contents query) v.rest) = length_permutation (map (entry_of contents query) v.rest) entries (v.held t) in
      let count : length (map (entry_of contents query) v.rest) ≡ length v.rest = length-map v.rest (entry_of contents query) in
      let empty : length v.rest ≡ 0 = sym count ∙ sym few ∙ ap length none in
      no_members v.visited v.rest empty
    where
      no_members : (visited rest : Cells) → length rest ≡ 0 → IsDone contents query k visited rest
      no_members visited [] e = tt
      no_members visited (c ∷ rest) e = absurd (omega (arith, e))

  pub popped : NamesDiffer id_of contents.cells → {entries left : List Entry} {entry : Entry} {kept : Kept} {old now : S} {ids : List ℕ} → (v : Visits g contents query k entries kept old now ids) → IsPermutation entries (entry ∷ left) → IsFloor queues.low_pair entry left →
      Pops g contents query v.rest entry left
  popped differ v moved floor = record {
    first = λ t. popped_first contents query v.rest (order_right (low_pair (bounds_of contents query)) v.visited v.rest (rest_order contents query k v.visited v.rest (v.split t))) (rest_apart contents query k differ v.visited v.rest (v.split t)) (v.held t) moved floor;
  }

  module _ {entries left : List Entry} {entry : Entry} {kept : Kept} {old mid : S} {ids : List ℕ} (ordered : g.told → AreOrdered contents query contents.cells) (v : Visits g contents query k entries kept old mid ids) (pops : Pops g contents query v.rest entry left) where
    split_first : g.told → sorted_cells contents query k ≡ v.visited ++ (cell_of (bounded_at entry) ∷ tail v.rest)
    split_first t = v.split t ∙ ap (λ (l : Cells). v.visited ++ l) (pops.first t).cells_are

    -- the test of the pairs that are kept is that of the cells that were visited
    kept_test : g.told → is_near (bounds_of contents query) v.visited (clamped_distance contents query) k (cell_of (bounded_at entry)) ≡ ltb (lesser kept.pairs (queues.low_pair entry)) kept.most
    kept_test t = keeps_tells g.told contents query (bounded_at entry) (popped_bounds pops) k v.visited kept v.keeps t

    near_of_all : ltb (lesser kept.pairs (queues.low_pair entry)) kept.most ≡ true → g.told → is_near (bounds_of contents query) contents.cells (clamped_distance contents query) k (cell_of (bounded_at entry)) ≡ true
    near_of_all near t =
        let s = bounds_of contents query in
        let d = clamped_distance contents query in
        let c = cell_of (bounded_at entry) in
        let lows : AllByRecursion (λ i. s.low i ≤ d i) (v.visited ++ (c ∷ tail v.rest)) = subst (AllByRecursion (λ i. s.low i ≤ d i)) (split_first t) (sorted_lows contents query k (ordered t)) in
        sorted_tells contents query k (ordered t) c
        ∙ ap (λ (l : Cells). is_near s l d k c) (split_first t)
        ∙ next_near s d k v.visited c (tail v.rest) (rest_order contents query k v.visited (c ∷ tail v.rest) (split_first t)) lows
        ∙ kept_test t ∙ near

    -- the near one was visited
    pub visits_more : PassesBoth g → {dist : ℕ} {kept' : Kept} {now : S} {ids' : List ℕ} → ltb (lesser kept.pairs (queues.low_pair entry)) kept.most ≡ true → (g.told → dist ≡ clamped_distance contents query (cell_of (bounded_at entry))) →
        Took g contents query (wide_cells contents query (cell_of (bounded_at entry) ∷ [])) mid now ids ids' → kept' ≡ record kept { pairs = take kept.most (placed (paired dist entry.id) kept.pairs) } →
        Visits g contents query k left kept' old now ids'
    visits_more both {dist} {kept'} {now} {ids'} near is took offer =
        let c = cell_of (bounded_at entry) in
        record {
          visited = v.visited ++ c ∷ [];
          rest = tail v.rest;
          took = took_as g contents query (wide_cells contents query v.visited ++ wide_cells contents query (c ∷ [])) (wide_cells contents query (v.visited ++ c ∷ [])) old now [] ids'
              (λ _. filter-append (is_wide (bounds_of contents query)) v.visited (c ∷ []))
              (took_both g contents query both (wide_cells contents query v.visited) (wide_cells contents query (c ∷ [])) old mid now [] ids ids' v.took took);
          keeps = near_kept g.told contents query (bounded_at entry) (popped_bounds pops) k v.visited kept v.keeps dist kept' is offer;
          split = λ t. split_first t ∙ sym (append_assoc v.visited (c ∷ []) (tail v.rest));
          held = λ t. (pops.first t).left_are;
          near = λ t. all_append (λ i. is_near (bounds_of contents query) contents.cells (clamped_distance contents query) k i ≡ true) v.visited (c ∷ []) (v.near t) (near_of_all near t, tt);
        }

    -- its read failed
    pub visits_stopped : PassesBoth g → {now : S} {why : SearchFault} → ltb (lesser kept.pairs (queues.low_pair entry)) kept.most ≡ true →
        ((reads : Cells) → Stopped g contents query (wide_cells contents query (cell_of (bounded_at entry) ∷ []) ++ reads) mid now why) → IfMemory why ⊥ →
        Stopped g contents query (clamped_needed contents query k) old now why
    visits_stopped both {now} {why} near stop never =
        let s = bounds_of contents query in
        let d = clamped_distance contents query in
        let c = cell_of (bounded_at entry) in
        let more = filter (is_needed s contents.cells d k) (tail v.rest) in
        stopped_as g contents query (wide_cells contents query v.visited ++ (wide_cells contents query (c ∷ []) ++ more)) (clamped_needed contents query k) old now why
        (λ t. needed_split contents query k (ordered t) (v.visited ++ c ∷ []) (tail v.rest) (split_first t ∙ sym (append_assoc v.visited (c ∷ []) (tail v.rest)))
        (all_append (λ i. is_near (bounds_of contents query) contents.cells (clamped_distance contents query) k i ≡ true) v.visited (c ∷ []) (v.near t) (near_of_all near t, tt))
        ∙ ap (λ (l : Cells). l ++ filter (is_needed (bounds_of contents query) contents.cells (clamped_distance contents query) k) (tail v.rest)) (filter-append (is_wide (bounds_of contents query)) v.visited (cell_of (bounded_at entry) ∷ []))
        ∙ append_assoc (wide_cells contents query v.visited) (wide_cells contents query (cell_of (bounded_at entry) ∷ [])) (filter (is_needed (bounds_of contents query) contents.cells (clamped_distance contents query) k) (tail v.rest)))
        (stopped_after g contents query both (wide_cells contents query v.visited) (wide_cells contents query (c ∷ []) ++ more) old mid now why [] ids v.took (stop more) never)

    pub stops_at : ltb (lesser kept.pairs (queues.low_pair entry)) kept.most ≡ false → g.told → IsDone contents query k v.visited v.rest
    stops_at far t = subst (λ (l : Cells). AllByRecursion (λ e. k ≤ lesser (pairs id_of (clamped_distance contents query) v.visited) (low_pair (bounds_of contents query) e)) l) (sym (pops.first t).cells_are)
        (stops_all (bounds_of contents query) (clamped_distance contents query) k v.visited (cell_of (bounded_at entry)) (tail v.rest)
        (rest_order contents query k v.visited (cell_of (bounded_at entry) ∷ tail v.rest) (split_first t)) (kept_test t ∙ far))
