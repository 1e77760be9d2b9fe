-- One cell more in the queue.
use Rattle.std.proofs.Common.{◌≡◌, ℕ, zero, suc, ◌<◌, ◌≤◌, true, false, List, [], ◌∷◌, ◌++◌, map, take, ltb, Contains, ◌⊎◌, inl, inr, refl, ap, sym, ◌∙◌, subst, append_assoc}
use Rattle.std.specs.Prelude.{Option, Some, IfSome}
use Rattle.std.specs.List.Sorted.{IsPermutation}
use Rattle.std.proofs.lemmas.List.{append-nil, map-append}
use Rattle.std.proofs.lemmas.List.Sorted.{IsPermutation-push_more, IsPermutation-refl, IsPermutation-sym, Contains-permutation}
use Rattle.va_core.specs.declared.pair.Pair.{Pair}
use Rattle.va_core.specs.Ranking.{ascending, lesser, placed}
use Rattle.va_core.specs.Approximations.{is_candidate, paired, pairs}
use Rattle.va_core.specs.Distance.{Query}
use Rattle.va_core.proofs.Members.{all_append, contains_cases, contains_none}
use Rattle.va_core.proofs.Nearest.{kept_more, kept_tells}
use Rattle.va_keep.specs.Kept.{Kept}
use Rattle.va_keep.specs.Queued.{is_near_to}
use Rattle.va_keep.specs.declared.entry.Entry.{Entry}
use Rattle.va_ports.specs.Shelves.{Contents, id_of}
use Rattle.va_ports.specs.Searches.{bounds_of}
use Rattle.va_bounded.specs.BoundedCells.{HasBounds, cell_of}
use Rattle.va_bounded.specs.declared.cell.BoundedCell.{BoundedCell}
use Rattle.va_noa.specs.Entries.{AreEntries, entry_at, entry_of}
use Rattle.va_noa.specs.Filling.{Fills, cells_queued, queued}
use Rattle.va_noa.proofs.Queued.{queued_joined}

abbrev Cells : Type 0
Cells = List (ℕ × ℕ)

-- what holds of what an option has
pub some_is : {T : Type 0} (next : Option T) (x : T) (P : T → Type 0) → next ≡ Some x → IfSome next P → P x
some_is next x P is holds = subst (λ (n : Option _). IfSome n P) is holds

-- what taking in a cell does
pub record TakesIn (cell : BoundedCell) (kept kept' : Kept) (entries entries' : List Entry) : Type 0 where
  pub highs : kept' ≡ record kept { pairs = take kept.most (placed (paired cell.high cell.id) kept.pairs) }
  pub near : is_near_to kept' (entry_at cell) ≡ true → IsPermutation (entry_at cell ∷ entries) entries'
  pub far : is_near_to kept' (entry_at cell) ≡ false → entries' ≡ entries

entry_is : (contents : Contents) (query : Query) (cell : BoundedCell) → HasBounds contents query cell → entry_at cell ≡ entry_of contents query (cell_of cell)
entry_is contents query cell bounds =
    ap (λ (n : ℕ). record { low = n; id = cell.id; high = cell.high; place = cell.place }) bounds.low
    ∙ ap (λ (n : ℕ). record { low = (bounds_of contents query).low (cell_of cell); id = cell.id; high = n; place = cell.place }) bounds.high

module _ (contents : Contents) (query : Query) (k : ℕ) (cells : Cells) (cell : BoundedCell) where
  joined : cells_queued contents query k (cells ++ cell_of cell ∷ []) ≡ cells_queued contents query k cells ++ queued (bounds_of contents query) k cells (cell_of cell ∷ [])
  joined = queued_joined (bounds_of contents query) k [] cells (cell_of cell ∷ [])

  -- it was near
  held_near : (entries entries' : List Entry) → is_candidate (bounds_of contents query) (cells ++ cell_of cell ∷ []) k (cell_of cell) ≡ true → IsPermutation (map (entry_of contents query) (cells_queued contents query k cells)) entries →
      IsPermutation (entry_of contents query (cell_of cell) ∷ entries) entries' → IsPermutation (map (entry_of contents query) (cells_queued contents query k (cells ++ cell_of cell ∷ []))) entries'
  held_near entries entries' is_one before now =
      let one : queued (bounds_of contents query) k cells (cell_of cell ∷ []) ≡ cell_of cell ∷ [] = rw is_one refl in
      let all : map (entry_of contents query) (cells_queued contents query k (cells ++ cell_of cell ∷ [])) ≡ map (entry_of contents query) (cells_queued contents query k cells) ++ entry_of contents query (cell_of cell) ∷ [] =
      ap (map (entry_of contents query)) (joined ∙ ap (λ (l : Cells). cells_queued contents query k cells ++ l) one) ∙ map-append (entry_of contents query) (cells_queued contents query k cells) (cell_of cell ∷ []) in
      subst (λ (l : List Entry). IsPermutation l entries') (sym all) (IsPermutation-push_more (map (entry_of contents query) (cells_queued contents query k cells)) entries entries' (entry_of contents query (cell_of cell)) before now)

  held_far : (entries entries' : List Entry) → is_candidate (bounds_of contents query) (cells ++ cell_of cell ∷ []) k (cell_of cell) ≡ false → IsPermutation (map (entry_of contents query) (cells_queued contents query k cells)) entries →
      entries' ≡ entries → IsPermutation (map (entry_of contents query) (cells_queued contents query k (cells ++ cell_of cell ∷ []))) entries'
  held_far entries entries' is_none before same =
      let none : queued (bounds_of contents query) k cells (cell_of cell ∷ []) ≡ [] = rw is_none refl in
      let all : cells_queued contents query k (cells ++ cell_of cell ∷ []) ≡ cells_queued contents query k cells = joined ∙ ap (λ (l : Cells). cells_queued contents query k cells ++ l) none ∙ append-nil (cells_queued contents query k cells) in
      rw (all, same) before

module _ {told : Type 0} {contents : Contents} {query : Query} {k : ℕ} {cells : Cells} {cell : BoundedCell} {kept kept' : Kept} {entries entries' : List Entry} (bounds : told → HasBounds contents query cell) (fills : Fills told contents query k cells kept entries) (takes : TakesIn cell kept kept' entries entries') where
  most_more : kept'.most ≡ k
  most_more = ap (λ (x : Kept). x.most) takes.highs ∙ fills.most

  highs_more : told → kept'.pairs ≡ take k (ascending (pairs id_of (bounds_of contents query).high (cells ++ cell_of cell ∷ [])))
  highs_more t =
      let s = bounds_of contents query in
      ap (λ (x : Kept). x.pairs) takes.highs
      ∙ ap (λ (n : ℕ). take n (placed (paired cell.high cell.id) kept.pairs)) fills.most
      ∙ ap (λ (n : ℕ). take k (placed (paired n cell.id) kept.pairs)) (bounds t).high
      ∙ kept_more k (paired (s.high (cell_of cell)) cell.id) (pairs id_of s.high cells) kept.pairs (fills.highs t)
      ∙ ap (λ (l : List Pair). take k (ascending l)) (sym (map-append (λ (c : ℕ × ℕ). paired (s.high c) (id_of c)) cells (cell_of cell ∷ [])))

  -- what is kept tells whether the cell is queued
  tells : told → is_candidate (bounds_of contents query) (cells ++ cell_of cell ∷ []) k (cell_of cell) ≡ is_near_to kept' (entry_at cell)
  tells t =
      let s = bounds_of contents query in
      let all = pairs id_of s.high (cells ++ cell_of cell ∷ []) in
      ap (λ (n : ℕ). ltb (lesser all (paired n cell.id)) k) (sym (bounds t).low)
      ∙ sym (kept_tells k all (paired cell.low cell.id))
      ∙ ap (λ (l : List Pair). ltb (lesser l (paired cell.low cell.id)) k) (sym (highs_more t))
      ∙ ap (λ (n : ℕ). ltb (lesser kept'.pairs (paired cell.low cell.id)) n) (sym most_more)

  held_more : told → IsPermutation (map (entry_of contents query) (cells_queued contents query k (cells ++ cell_of cell ∷ []))) entries'
  held_more t =
      elim (is_near_to kept' (entry_at cell)) as (λ c. is_near_to kept' (entry_at cell) ≡ c → IsPermutation (map (entry_of contents query) (cells_queued contents query k (cells ++ cell_of cell ∷ []))) entries') [
        | true ↦ λ e. held_near contents query k cells cell entries entries' (tells t ∙ e) (fills.held t) (subst (λ (x : Entry). IsPermutation (x ∷ entries) entries') (entry_is contents query cell (bounds t)) (takes.near e))
        | false ↦ λ e. held_far contents query k cells cell entries entries' (tells t ∙ e) (fills.held t) (takes.far e)
      ] refl

  pub fills_more : cell.low ≤ cell.high → Fills told contents query k (cells ++ cell_of cell ∷ []) kept' entries'
  fills_more order = record {
    most = most_more;
    highs = highs_more;
    held = held_more;
    ordered = λ t. all_append (λ (c : ℕ × ℕ). (bounds_of contents query).low c ≤ (bounds_of contents query).high c) cells (cell_of cell ∷ []) (fills.ordered t)
        (rw (sym (bounds t).low, sym (bounds t).high) order, tt);
  }

pub fills_none : (told : Type 0) (contents : Contents) (query : Query) (kept : Kept) (entries : List Entry) → kept.pairs ≡ [] → entries ≡ [] → Fills told contents query kept.most [] kept entries
fills_none told contents query kept entries none no_entries = record {
  most = refl;
  highs = λ _. none ∙ empty kept.most;
  held = λ _. rw no_entries (IsPermutation-refl []);
  ordered = λ _. tt;
}
  where
    empty : (k : ℕ) → [] ≡ take k (ascending [])
    empty zero = refl
    empty (suc k) = refl

entry_more : (capacity : ℕ) (entries : List Entry) {cell : BoundedCell} {e : Entry} → cell.place < capacity → cell.low ≤ cell.high → AreEntries capacity entries → (entry_at cell ≡ e) ⊎ Contains entries e → (e.place < capacity) × (e.low ≤ e.high)
entry_more capacity entries place order all (inl is) = (subst (λ (x : Entry). x.place < capacity) is place, subst (λ (x : Entry). x.low ≤ x.high) is order)
entry_more capacity entries {e = e} place order all (inr h) = all e h

pub entries_more : (capacity : ℕ) {cell : BoundedCell} {kept kept' : Kept} {entries entries' : List Entry} → TakesIn cell kept kept' entries entries' → cell.place < capacity → cell.low ≤ cell.high → AreEntries capacity entries → AreEntries capacity entries'
entries_more capacity {cell} {kept} {kept'} {entries} {entries'} takes place order all e h =
    elim (is_near_to kept' (entry_at cell)) as (λ c. is_near_to kept' (entry_at cell) ≡ c → (e.place < capacity) × (e.low ≤ e.high)) [
      | true ↦ λ t. entry_more capacity entries place order all (contains_cases (entry_at cell) e entries
          (Contains-permutation entries' (entry_at cell ∷ entries) e (IsPermutation-sym (entry_at cell ∷ entries) entries' (takes.near t)) h))
      | false ↦ λ t. all e (subst (λ (l : List Entry). Contains l e) (takes.far t) h)
    ] refl

pub entries_none : (capacity : ℕ) (entries : List Entry) → entries ≡ [] → AreEntries capacity entries
entries_none capacity entries none e h = absurd (contains_none e (subst (λ (l : List Entry). Contains l e) none h))

-- some cells were taken, and these are left
pub record FillsTo (told : Type 0) (contents : Contents) (query : Query) (k : ℕ) (left : Cells) (kept : Kept) (entries : List Entry) : Type 0 where
  pub taken : Cells
  pub split : contents.cells ≡ taken ++ left
  pub fills : Fills told contents query k taken kept entries

pub to_more : {told : Type 0} {contents : Contents} {query : Query} {k : ℕ} {cell : BoundedCell} {left left' : Cells} {kept kept' : Kept} {entries entries' : List Entry} →
    (told → HasBounds contents query cell) → cell.low ≤ cell.high → left ≡ cell_of cell ∷ left' → FillsTo told contents query k left kept entries → TakesIn cell kept kept' entries entries' → FillsTo told contents query k left' kept' entries'
to_more {cell = cell} {left' = left'} bounds order gave to takes = record {
  taken = to.taken ++ cell_of cell ∷ [];
  split = to.split ∙ ap (λ (l : Cells). to.taken ++ l) gave ∙ sym (append_assoc to.taken (cell_of cell ∷ []) left');
  fills = fills_more bounds to.fills takes order;
}

pub to_end : {told : Type 0} {contents : Contents} {query : Query} {k : ℕ} {left : Cells} {kept : Kept} {entries : List Entry} → left ≡ [] → FillsTo told contents query k left kept entries → Fills told contents query k contents.cells kept entries
to_end {told} {contents} {query} {k} {left} {kept} {entries} none to =
    subst (λ (l : Cells). Fills told contents query k l kept entries) (sym (to.split ∙ ap (λ (l : Cells). to.taken ++ l) none ∙ append-nil to.taken)) to.fills
