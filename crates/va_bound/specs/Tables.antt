-- A table of bounds: for each dimension as many entries as the dimension with the most slices has.
use Rattle.std.specs.Prelude.{◌≡◌, ℕ, ◌+◌, ◌-◌, ◌*◌, ◌<◌, ◌≤◌, List, length, get_or}
use Rattle.std.specs.List.{AllByRecursion}
use Rattle.va_core.specs.Shape.{sum_below}
use Rattle.va_core.specs.Distance.{Query, IsQuery}
use Rattle.va_core.specs.Marks.{AreValid, row_at}
use Rattle.va_core.specs.Cells.{span_of, NamesSlices}
use Rattle.va_core.specs.Parts.{least_part, greatest_part}
use Rattle.va_bound.specs.declared.entry.Entry.{Entry}
use Rattle.va_core.specs.DistanceParts.{part_of}
use Rattle.va_bound.specs.Extremes.{IsExtreme, IsSmall}

pub record Table : Type 0 where
  pub dims : ℕ
  pub slices : ℕ
  pub entries : List Entry

abbrev pub none : Entry
none = record { least = 0; greatest = 0; least_at = 0; greatest_at = 0 }

-- the entry of a slice of a dimension
abbrev pub entry_at : Table → ℕ → ℕ → Entry
entry_at table dim slice = get_or table.entries (dim * table.slices + slice) none

pub record IsTable (table : Table) : Type 0 where
  pub dims : table.dims ≤ 256
  pub size : length table.entries ≡ table.dims * table.slices
  pub small : AllByRecursion IsSmall table.entries

-- a slice that has values
abbrev pub IsFull : List ℕ → ℕ → Type 0
IsFull row slice = (slice + 1 < length row) × (get_or row slice 0 < get_or row (slice + 1) 0)

-- the entry of a slice that has values has their extremes
abbrev pub IsRight : List (List ℕ) → Query → ℕ → ℕ → Entry → Type 0
IsRight marks query dim slice entry = IsFull (row_at marks dim) slice →
    IsExtreme (part_of query dim) (span_of (row_at marks dim) slice).low ((span_of (row_at marks dim) slice).high - (span_of (row_at marks dim) slice).low) entry

abbrev pub AreRight : List (List ℕ) → Query → ℕ → List Entry → Type 0
AreRight marks query slices entries = (dim slice : ℕ) → slice < slices → dim * slices + slice < length entries → IsRight marks query dim slice (get_or entries (dim * slices + slice) none)

-- the table has the bounds of the query under the marks
pub record AreBounds (marks : List (List ℕ)) (query : Query) (table : Table) : Type 0 where
  pub query_fits : IsQuery (length marks) query
  pub valid : AreValid marks
  pub dims : table.dims ≡ length marks
  pub size : length table.entries ≡ table.dims * table.slices
  pub fits : (dim : ℕ) → dim < length marks → length (row_at marks dim) ≤ table.slices + 1
  pub right : AreRight marks query table.slices table.entries

-- a slice for each dimension, and each has an entry
pub record HasEntries (table : Table) (slices : List ℕ) : Type 0 where
  pub one_each : length slices ≡ table.dims
  pub inside : (dim : ℕ) → dim < table.dims → get_or slices dim 0 < table.slices

-- the sums of the entries of some slices
abbrev pub least_sum : Table → List ℕ → ℕ
least_sum table slices = sum_below (λ dim. (entry_at table dim (get_or slices dim 0)).least) (length slices)

abbrev pub greatest_sum : Table → List ℕ → ℕ
greatest_sum table slices = sum_below (λ dim. (entry_at table dim (get_or slices dim 0)).greatest) (length slices)

-- it holds under whichever marks and of whichever query the table has the bounds of, where the slices have values
abbrev pub Tells : Table → List ℕ → (List (List ℕ) → Query → Type 0) → Type 0
Tells table slices P = (marks : List (List ℕ)) (query : Query) → AreBounds marks query table → NamesSlices marks slices → P marks query

-- the least and the greatest part over the values of a slice
abbrev pub least_over : List (List ℕ) → Query → ℕ → ℕ → ℕ
least_over marks query dim slice = least_part (part_of query dim) (span_of (row_at marks dim) slice).low ((span_of (row_at marks dim) slice).high - (span_of (row_at marks dim) slice).low)

abbrev pub greatest_over : List (List ℕ) → Query → ℕ → ℕ → ℕ
greatest_over marks query dim slice = greatest_part (part_of query dim) (span_of (row_at marks dim) slice).low ((span_of (row_at marks dim) slice).high - (span_of (row_at marks dim) slice).low)
