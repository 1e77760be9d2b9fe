-- What searches over live items read, where the cell of each vector is known under the marks.
use Rattle.std.specs.Prelude.{ℕ, List}
use Rattle.va_core.specs.Places.{Item}
use Rattle.va_core.specs.Distance.{Query, distance}
use Rattle.va_core.specs.Cells.{box_of}
use Rattle.va_core.specs.Approximations.{Approximations, need, need_within, candidates}
use Rattle.va_core.specs.Determining.{bounded}
use Rattle.va_core.specs.Scanning.{scanned}

-- what the cells tell of the items
abbrev pub approximated : List (List ℕ) → Query → Approximations Item
approximated marks query = bounded (λ (item : Item). item.id) (distance query) (λ (item : Item). box_of marks item.vector)

-- what is needed for the k nearest, ascending by lower bound and id
abbrev pub nearest_reads : List (List ℕ) → Query → List Item → ℕ → List Item
nearest_reads marks query items k = need (approximated marks query) items (λ item. distance query item.vector) k

-- what is needed for the items within a radius, in their order
abbrev pub within_reads : List (List ℕ) → Query → List Item → ℕ → List Item
within_reads marks query items radius = need_within (approximated marks query) items radius

-- what a scan in the order of the items reads for the k nearest
abbrev pub scan_reads : List (List ℕ) → Query → List Item → ℕ → List Item
scan_reads marks query items k = scanned (approximated marks query) items (λ item. distance query item.vector) k

-- the items that the upper bounds leave
abbrev pub nearest_candidates : List (List ℕ) → Query → List Item → ℕ → List Item
nearest_candidates marks query items k = candidates (approximated marks query) items k
