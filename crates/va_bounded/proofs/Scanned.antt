-- A scan that has taken some cells. What it reads of the cells that come after others is `after`.
use Rattle.std.proofs.Common.{◌≡◌, ℕ, List, [], ◌∷◌, ◌++◌, sym, ap, ◌∙◌, append_assoc}
use Rattle.std.proofs.lemmas.List.{append-nil}
use Rattle.va_core.specs.Distance.{Query}
use Rattle.va_ports.specs.Faults.{IfMemory}
use Rattle.va_ports.specs.Searches.{Took, Stopped}
use Rattle.va_ports.specs.Shelves.{Contents}
use Rattle.va_ports.proofs.Searching.{PassesBoth, took_none, took_both, took_as, stopped_shelf, stopped_after, stopped_as}
use Rattle.va_ports.specs.declared.search.SearchFault.{SearchFault}
use Rattle.va_ports.specs.declared.search.SearchFault.TheVariants.{Shelf}
use Rattle.va_ports.specs.declared.shelf.ShelfFault.{ShelfFault}
use Rattle.va_ports.specs.declared.shelf.Shelf.{Ghosts}

abbrev Cells : Type 0
Cells = List (ℕ × ℕ)

-- what is read of no cell, and of cells in two parts
pub record Reads (after : Cells → Cells → Cells) : Type 0 where
  pub none : (before : Cells) → after before [] ≡ []
  pub both : (before first second : Cells) → after before (first ++ second) ≡ after before first ++ after (before ++ first) second

-- some cells were taken, and these are left; P holds of those that were taken
pub record Scanned {S : Type 0} (g : Ghosts S) (contents : Contents) (query : Query) (after : Cells → Cells → Cells) (P : Cells → Type 0) (left : Cells) (old new : S) (ids : List ℕ) : Type 0 where
  pub taken : Cells
  pub split : contents.cells ≡ taken ++ left
  pub took : Took g contents query (after [] taken) old new [] ids
  pub holds : P taken

module _ {S : Type 0} (g : Ghosts S) (both : PassesBoth g) (contents : Contents) (query : Query) (after : Cells → Cells → Cells) (reads : Reads after) where
  pub scanned_start : (P : Cells → Type 0) (left : Cells) (old new : S) (ids : List ℕ) → left ≡ contents.cells → ids ≡ [] → g.passes old [] new → P [] → Scanned g contents query after P left old new ids
  scanned_start P left old new ids all none passed holds = record {
    taken = [];
    split = sym all;
    took = rw none (took_as g contents query [] (after [] []) old new [] [] (λ _. reads.none []) (took_none g contents query old new [] passed));
    holds = holds;
  }

  -- the scan gave one cell more, and it was taken
  pub scanned_more : (P Q : Cells → Type 0) (cell : ℕ × ℕ) (left left' : Cells) (old mid given new : S) (ids ids' : List ℕ) → (first : Scanned g contents query after P left old mid ids) → left ≡ cell ∷ left' → g.passes mid [] given →
      Took g contents query (after first.taken (cell ∷ [])) given new ids ids' → Q (first.taken ++ cell ∷ []) → Scanned g contents query after Q left' old new ids'
  scanned_more P Q cell left left' old mid given new ids ids' first gave passed took holds = record {
    taken = first.taken ++ cell ∷ [];
    split = first.split ∙ ap (λ (l : Cells). first.taken ++ l) gave ∙ sym (append_assoc first.taken (cell ∷ []) left');
    took = took_as g contents query (after [] first.taken ++ after first.taken (cell ∷ [])) (after [] (first.taken ++ cell ∷ [])) old new [] ids' (λ _. reads.both [] first.taken (cell ∷ []))
        (took_both g contents query both (after [] first.taken) (after first.taken (cell ∷ [])) old given new [] ids ids' (given_after old mid given first.taken ids first.took passed) took);
    holds = holds;
  }
    where
      given_after : (old mid given : S) (taken : Cells) (ids : List ℕ) → Took g contents query (after [] taken) old mid [] ids → g.passes mid [] given → Took g contents query (after [] taken) old given [] ids
      given_after old mid given taken ids took passed = took_as g contents query (after [] taken ++ []) (after [] taken) old given [] ids (λ _. sym (append-nil (after [] taken)))
          (took_both g contents query both (after [] taken) [] old mid given [] ids ids took (took_none g contents query mid given ids passed))

  -- it failed in a cell
  pub scanned_stopped : (P : Cells → Type 0) (cell : ℕ × ℕ) (left left' : Cells) (old mid given new : S) (ids : List ℕ) (why : SearchFault) → (first : Scanned g contents query after P left old mid ids) → left ≡ cell ∷ left' → g.passes mid [] given →
      ((more : Cells) → Stopped g contents query (after first.taken (cell ∷ []) ++ more) given new why) → IfMemory why ⊥ → Stopped g contents query (after [] contents.cells) old new why
  scanned_stopped P cell left left' old mid given new ids why first gave passed stop never =
      let rest = after (first.taken ++ cell ∷ []) left' in
      let part = after first.taken (cell ∷ []) ++ rest in
      stopped_as g contents query (after [] first.taken ++ part) (after [] contents.cells) old new why
      (λ _. ap (after []) (first.split ∙ ap (λ (l : Cells). first.taken ++ l) gave) ∙ reads.both [] first.taken (cell ∷ left') ∙ ap (λ (l : Cells). after [] first.taken ++ l) (reads.both first.taken (cell ∷ []) left'))
      (stopped_after g contents query both (after [] first.taken) part old mid new why [] ids first.took
      (stopped_after g contents query both [] part mid given new why ids ids (took_none g contents query mid given ids passed) (stop rest) never) never)

  -- the shelf failed to give a cell
  pub scanned_failed : (P : Cells → Type 0) (left : Cells) (old mid new : S) (ids : List ℕ) (fault : ShelfFault) → Scanned g contents query after P left old mid ids → g.passes mid [] new → Stopped g contents query (after [] contents.cells) old new (Shelf fault)
  scanned_failed P left old mid new ids fault first passed =
      stopped_as g contents query (after [] first.taken ++ after first.taken left) (after [] contents.cells) old new (Shelf fault)
      (λ _. ap (after []) first.split ∙ reads.both [] first.taken left)
      (stopped_after g contents query both (after [] first.taken) (after first.taken left) old mid new (Shelf fault) [] ids first.took (stopped_shelf g contents query (after first.taken left) mid new fault passed) tt)

  -- no cell was left
  pub all_taken : (P : Cells → Type 0) (left : Cells) (old mid : S) (ids : List ℕ) → (first : Scanned g contents query after P left old mid ids) → left ≡ [] → first.taken ≡ contents.cells
  all_taken P left old mid ids first none = sym (first.split ∙ ap (λ (l : Cells). first.taken ++ l) none ∙ append-nil first.taken)

  pub scanned_end : (P : Cells → Type 0) (left : Cells) (old mid new : S) (ids : List ℕ) → Scanned g contents query after P left old mid ids → left ≡ [] → g.passes mid [] new → Took g contents query (after [] contents.cells) old new [] ids
  scanned_end P left old mid new ids first none passed =
      took_as g contents query (after [] first.taken ++ []) (after [] contents.cells) old new [] ids
      (λ _. ap (after []) (sym (all_taken P left old mid ids first none)) ∙ sym (append-nil (after [] first.taken)))
      (took_both g contents query both (after [] first.taken) [] old mid new [] ids ids first.took (took_none g contents query mid new ids passed))
