-- What is queued while a scan goes over the cells.
use Rattle.std.specs.Prelude.{◌≡◌, ℕ, ◌≤◌, List, ◌++◌, map}
use Rattle.std.specs.List.{AllByRecursion}
use Rattle.std.specs.List.Sorted.{IsPermutation}
use Rattle.va_core.specs.Distance.{Query}
use Rattle.va_keep.specs.declared.entry.Entry.{Entry}
use Rattle.va_ports.specs.Shelves.{Contents, place_of}
use Rattle.va_noa.specs.Entries.{entry_of}
use Rattle.va_cursor.specs.Rankings.{cell_at}

-- The queue has an entry for each cell that isn't left, with the bounds of its code where the shelf tells.
pub record Fills (told : Type 0) (contents : Contents) (query : Query) (left : List (ℕ × ℕ)) (entries : List Entry) (places : List ℕ) : Type 0 where
  pub taken : List Entry
  pub cells : contents.cells ≡ map cell_at taken ++ left
  pub held : IsPermutation taken entries
  pub places_are : places ≡ map place_of (map cell_at taken)
  pub bounds : told → taken ≡ map (entry_of contents query) (map cell_at taken)
  pub order : AllByRecursion (λ (e : Entry). e.low ≤ e.high) taken
