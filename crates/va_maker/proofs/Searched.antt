-- What a search over a shelf that keeps says of the shelf inside.
use Rattle.std.proofs.Common.{◌≡◌, ℕ, ◌≤◌, Bool, true, false, List, [], ◌∷◌, ◌++◌, filter, length, map, if◌then◌else◌, ap, ◌∙◌, arith}
use Rattle.std.proofs.lemmas.List.{length-map}
use Rattle.std.proofs.lemmas.List.Sorted.{length_permutation}
use Rattle.va_core.specs.Approximations.{is_needed, low_pair}
use Rattle.va_core.specs.Distance.{Query}
use Rattle.va_core.proofs.Sorting.{ascending_by_permutes}
use Rattle.va_ports.specs.Shelves.{Contents, place_of}
use Rattle.va_ports.specs.Searches.{Ends, Stopped, bounds_of, clamped_distance}
use Rattle.va_ports.specs.declared.search.SearchFault.{SearchFault}
use Rattle.va_ports.specs.declared.search.SearchFault.TheVariants.{Memory, Shelf, Mismatch}
use Rattle.va_ports.specs.declared.shelf.Shelf.{Ghosts}
use Rattle.va_noa.specs.NearestReads.{clamped_needed}
use Rattle.va_maker.specs.Kept.{Kept}
use Rattle.va_maker.specs.Keeps.{Keeps, kept_at}
use Rattle.va_maker.specs.Making.{kept_needed}
use Rattle.va_core.proofs.Members.{filter_few}

abbrev Cells : Type 0
Cells = List (ℕ × ℕ)

module _ {K S : Type 0} (outer : Ghosts K) (g : Ghosts S) (tells : g.told → outer.told) (contents : Contents) (query : Query) where
  ends_through : (before last : Cells) (why : SearchFault) → Ends outer contents query before last why → Ends g contents query before last why
  ends_through before last Memory ends = ends
  ends_through before last (Shelf fault) ends = ends
  ends_through before last (Mismatch place dist low high) ends =
      (ends.0, ends.1, record { at = ends.2.at; outside = ends.2.outside; numbers = λ t. ends.2.numbers (tells t) })

-- a search stopped outside where it stopped inside
pub stopped_through : {K S : Type 0} {outer : Ghosts K} (g : Ghosts S) {contents : Contents} {query : Query} {reads : Cells} {old new : K} (old' new' : S) {why : SearchFault} → (g.told → outer.told) →
    ((places : List ℕ) → outer.passes old places new → g.passes old' places new') → Stopped outer contents query reads old new why → Stopped g contents query reads old' new' why
stopped_through {outer = outer} g {contents} {query} {reads} {old} {new} old' new' {why} tells passes stop = record {
  before = stop.before;
  last = stop.last;
  after = stop.after;
  passed = passes (map place_of (stop.before ++ stop.last)) stop.passed;
  exact = λ t. stop.exact (tells t);
  between = λ t. stop.between (tells t);
  ends = ends_through outer g tells contents query stop.before stop.last why stop.ends;
}

-- no more is needed than there are cells
needed_few : (contents : Contents) (query : Query) (k : ℕ) → length (clamped_needed contents query k) ≤ length contents.cells
needed_few contents query k =
    let needed : Cells = filter (is_needed (bounds_of contents query) contents.cells (clamped_distance contents query) k) contents.cells in
    let same : length (clamped_needed contents query k) ≡ length needed = length_permutation needed (clamped_needed contents query k) (ascending_by_permutes (low_pair (bounds_of contents query)) needed) in
    let few : length needed ≤ length contents.cells = filter_few (is_needed (bounds_of contents query) contents.cells (clamped_distance contents query) k) contents.cells in
    omega (arith, same, few)

-- room for all cells was enough
pub kept_all : {told : Type 0} (contents : Contents) (query : Query) (k : ℕ) (read : Cells) {old new : Kept} → Keeps told contents old (map place_of read) new → (old.vectors ≡ []) × (old.most ≡ length contents.cells) → (told → read ≡ clamped_needed contents query k) → told →
    new.vectors ≡ kept_needed contents query k
kept_all contents query k read {old} {new} keeps start exact t =
    let is : read ≡ clamped_needed contents query k = exact t in
    let none : length old.vectors ≡ 0 = ap (λ (l : List (ℕ × List ℕ)). length l) start.0 in
    let count : length (map place_of read) ≡ length (clamped_needed contents query k) = length-map read place_of ∙ ap (λ (l : Cells). length l) is in
    let few : length (clamped_needed contents query k) ≤ length contents.cells = needed_few contents query k in
    let most : old.most ≡ length contents.cells = start.1 in
    keeps.vectors t (omega (arith, none, count, few, most))
    ∙ ap (λ (l : List (ℕ × List ℕ)). l ++ map (kept_at contents) (map place_of read)) start.0
    ∙ ap (λ (l : Cells). map (kept_at contents) (map place_of l)) is
