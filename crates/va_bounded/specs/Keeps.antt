-- The k least pairs of the cells that were taken.
use Rattle.std.specs.Prelude.{◌≡◌, ℕ, List, take}
use Rattle.va_core.specs.declared.pair.Pair.{Pair}
use Rattle.va_core.specs.Approximations.{pairs}
use Rattle.va_core.specs.Ranking.{ascending}
use Rattle.va_core.specs.Distance.{Query}
use Rattle.va_keep.specs.Kept.{Kept}
use Rattle.va_ports.specs.Shelves.{Contents, id_of}
use Rattle.va_ports.specs.Searches.{clamped_distance}

-- the pairs at clamped distances
abbrev pub clamped_pairs : Contents → Query → List (ℕ × ℕ) → List Pair
clamped_pairs contents query cells = pairs id_of (clamped_distance contents query) cells

-- Where the shelf tells, the k least of the pairs of these cells are kept.
pub record KeepsLeast (told : Type 0) (contents : Contents) (query : Query) (k : ℕ) (cells : List (ℕ × ℕ)) (kept : Kept) : Type 0 where
  pub most : kept.most ≡ k
  pub least : told → kept.pairs ≡ take k (ascending (clamped_pairs contents query cells))

-- those of all cells
abbrev pub KeepsLeastOfAll : Type 0 → Contents → Query → ℕ → Kept → Type 0
KeepsLeastOfAll told contents query k kept = KeepsLeast told contents query k contents.cells kept
