-- What holds of the lists of reads: they are least sets in the sense of what must be read to know the answer.
use Rattle.std.specs.Prelude.{◌≡◌, ◌≢◌, ℕ, suc, ◌≤◌, true, not, List, ◌++◌, length, map}
use Rattle.va_core.specs.Places.{Item, IdsDiffer}
use Rattle.va_core.specs.Distance.{Query, distance}
use Rattle.va_core.specs.Marks.{AreValid}
use Rattle.va_core.specs.Ranking.{ascending}
use Rattle.va_core.specs.Kth.{kth, is_beyond}
use Rattle.va_core.specs.Boxes.{substitute}
use Rattle.va_core.specs.Cells.{box_of}
use Rattle.std.specs.List.{AllByRecursion}
use Rattle.va_core.specs.Approximations.{pairs, low_pair, is_needed, is_candidate, need_next}
use Rattle.va_core.specs.Determining.{IsLeastUnder, AllVectors, nearest_of, within_of, replaced, is_listed}
use Rattle.va_core.specs.Reads.{approximated, nearest_reads, within_reads, nearest_candidates}

abbrev pub id_of : Item → ℕ
id_of item = item.id

abbrev pub vector_of : Item → List ℕ
vector_of item = item.vector

abbrev pub ids_of : List Item → List ℕ
ids_of items = map id_of items

-- items of different ids with vectors of so many dimensions, and valid marks of as many
pub record AreApproximated (marks : List (List ℕ)) (items : List Item) : Type 0 where
  pub valid : AreValid marks
  pub vectors : AllVectors (length marks) items vector_of
  pub differ : IdsDiffer items

-- What is read for the k nearest is the least set that determines them.
abbrev pub NearestReadsAreLeast : Type 0
NearestReadsAreLeast = (marks : List (List ℕ)) (query : Query) (items : List Item) (k : ℕ) → AreApproximated marks items →
    IsLeastUnder (nearest_of id_of (distance query) items k) (length marks) marks items (is_listed id_of (ids_of (nearest_reads marks query items k))) vector_of

-- What is read for the items within a radius is the least set that determines them.
abbrev pub WithinReadsAreLeast : Type 0
WithinReadsAreLeast = (marks : List (List ℕ)) (query : Query) (items : List Item) (radius : ℕ) → AreApproximated marks items →
    IsLeastUnder (within_of id_of (distance query) items radius) (length marks) marks items (is_listed id_of (ids_of (within_reads marks query items radius))) vector_of

-- The map with the substitute in place of a needed vector has another answer.
abbrev pub SubstitutesTell : Type 0
SubstitutesTell = (marks : List (List ℕ)) (query : Query) (items : List Item) (k : ℕ) → AreApproximated marks items →
    AllByRecursion (λ item. is_needed (approximated marks query) items (λ other. distance query other.vector) k item ≡ true →
    nearest_of id_of (distance query) items k (replaced id_of vector_of item (substitute (distance query) (box_of marks item.vector) item.vector))
    ≢ nearest_of id_of (distance query) items k vector_of) items

-- What is needed for k + 1 is what is needed for k, and then those for which exactly k pairs are less than the least pair.
abbrev pub ReadsGrow : Type 0
ReadsGrow = (marks : List (List ℕ)) (query : Query) (items : List Item) (k : ℕ) →
    nearest_reads marks query items (suc k) ≡ nearest_reads marks query items k ++ need_next (approximated marks query) items (λ item. distance query item.vector) k

-- No more are needed than are candidates.
abbrev pub NeededAtMost : Type 0
NeededAtMost = (marks : List (List ℕ)) (query : Query) (items : List Item) (k : ℕ) → AreApproximated marks items →
    length (nearest_reads marks query items k) ≤ length (nearest_candidates marks query items k)

-- A candidate is an item whose least pair isn't kept out by the k-th of the greatest pairs, or any where those are fewer.
abbrev pub CandidateIsExact : Type 0
CandidateIsExact = (marks : List (List ℕ)) (query : Query) (items : List Item) (k : ℕ) (item : Item) → 1 ≤ k →
    is_candidate (approximated marks query) items k item ≡ not (is_beyond (kth k (ascending (pairs id_of (approximated marks query).high items))) (low_pair (approximated marks query) item))
