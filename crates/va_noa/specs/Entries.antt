-- Entries of cells.
use Rattle.std.specs.Prelude.{ℕ, ◌<◌, ◌≤◌, List, Contains}
use Rattle.va_core.specs.Distance.{Query}
use Rattle.va_ports.specs.Shelves.{Contents, place_of, id_of}
use Rattle.va_ports.specs.Searches.{bounds_of}
use Rattle.va_bounded.specs.declared.cell.BoundedCell.{BoundedCell}
use Rattle.va_keep.specs.declared.entry.Entry.{Entry}

-- the entry of a cell of the shelf
abbrev pub entry_of : Contents → Query → ℕ × ℕ → Entry
entry_of contents query cell = record { low = (bounds_of contents query).low cell; id = id_of cell; high = (bounds_of contents query).high cell; place = place_of cell }

-- the entry of a cell with its bounds, and back
abbrev pub entry_at : BoundedCell → Entry
entry_at cell = record { low = cell.low; id = cell.id; high = cell.high; place = cell.place }

abbrev pub bounded_at : Entry → BoundedCell
bounded_at entry = record { place = entry.place; id = entry.id; low = entry.low; high = entry.high }

-- each has a place below the capacity, and its bounds in order
abbrev pub AreEntries : ℕ → List Entry → Type 0
AreEntries capacity entries = (entry : Entry) → Contains entries entry → (entry.place < capacity) × (entry.low ≤ entry.high)
