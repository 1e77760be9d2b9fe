-- What is queued while a scan goes over the cells.
use Rattle.std.specs.Prelude.{◌≡◌, ℕ, ◌≤◌, List, [], ◌∷◌, ◌++◌, map, take, if◌then◌else◌}
use Rattle.std.specs.List.{AllByRecursion}
use Rattle.std.specs.List.Sorted.{IsPermutation}
use Rattle.va_core.specs.Approximations.{Approximations, is_candidate, pairs}
use Rattle.va_core.specs.Ranking.{ascending}
use Rattle.va_core.specs.Distance.{Query}
use Rattle.va_keep.specs.Kept.{Kept}
use Rattle.va_keep.specs.declared.entry.Entry.{Entry}
use Rattle.va_ports.specs.Shelves.{Contents, id_of}
use Rattle.va_ports.specs.Searches.{bounds_of}
use Rattle.va_noa.specs.Entries.{entry_of}

-- of the members that come after others, those that are candidates among the members up to themselves
abbrev pub queued : {X : Type 0} → Approximations X → ℕ → List X → List X → List X
queued s k before [] = []
queued s k before (x ∷ members) = if is_candidate s (before ++ x ∷ []) k x then x ∷ queued s k (before ++ x ∷ []) members else queued s k (before ++ x ∷ []) members

abbrev pub cells_queued : Contents → Query → ℕ → List (ℕ × ℕ) → List (ℕ × ℕ)
cells_queued contents query k cells = queued (bounds_of contents query) k [] cells

-- the queue has the entries of the cells that are queued while a scan goes over all
abbrev pub HoldsQueued : Contents → Query → ℕ → List Entry → Type 0
HoldsQueued contents query k entries = IsPermutation (map (entry_of contents query) (cells_queued contents query k contents.cells)) entries

-- the lower bound of each is at most the upper one
abbrev pub AreOrdered : Contents → Query → List (ℕ × ℕ) → Type 0
AreOrdered contents query cells = AllByRecursion (λ cell. (bounds_of contents query).low cell ≤ (bounds_of contents query).high cell) cells

-- Where the shelf tells: the k least pairs of upper bounds of these cells are kept, and the queue has the entries of those
-- that were queued.
pub record Fills (told : Type 0) (contents : Contents) (query : Query) (k : ℕ) (cells : List (ℕ × ℕ)) (kept : Kept) (entries : List Entry) : Type 0 where
  pub most : kept.most ≡ k
  pub highs : told → kept.pairs ≡ take k (ascending (pairs id_of (bounds_of contents query).high cells))
  pub held : told → IsPermutation (map (entry_of contents query) (cells_queued contents query k cells)) entries
  pub ordered : told → AreOrdered contents query cells
