-- What contracts see of a tray.
use Rattle.std.specs.Prelude.{◌≡◌, ℕ, ◌+◌, ◌-◌, ◌^◌, min, Bool, ◌==◌, List, ◌++◌, drop}
use Rattle.std.specs.List.{list_any}
use Rattle.va_core.specs.Marks.{cell}
use Rattle.va_ports.specs.Shelves.{Contents}
use Rattle.va_ports.specs.TrayCells.{cells_of, vector_at}
use Rattle.va_ports.specs.declared.tray.Tray.{Tray}

abbrev pub contents : Tray → Contents
contents tray = record {
  shape = tray.shape;
  marks = tray.marks;
  cells = cells_of tray.cells.items;
  code = λ place. cell tray.marks (vector_at tray.shape.dims tray.cells.items place);
  vector = λ place. vector_at tray.shape.dims tray.cells.items place;
}

-- the cells that the scan hasn't given
abbrev pub left : Tray → List (ℕ × ℕ)
left tray = drop tray.at (cells_of tray.cells.items)

-- the places fetched so far
abbrev pub fetched : Tray → List ℕ
fetched tray = tray.fetched.items

-- the numbers of the calls that fail
abbrev pub fails : Tray → List ℕ
fails tray = tray.fails.items

-- the number of the next call
abbrev pub number : Tray → ℕ
number tray = tray.number

abbrev pub faults : Tray → ℕ
faults tray = tray.faults

-- how many of the faults were for want of memory
abbrev pub starved : Tray → ℕ
starved tray = tray.starved

-- the next call is to fail
abbrev pub fails_next : Tray → Bool
fails_next tray = list_any (λ (n : ℕ). n == number tray) (fails tray)

-- one more, or the last value of a counter
abbrev pub raised : ℕ → ℕ
raised count = min (count + 1) (2 ^ 64 - 1)

-- What it holds stays, and so does the list of the calls that fail.
pub record Passes (old : Tray) (places : List ℕ) (new : Tray) : Type 0 where
  pub contents_stay : contents new ≡ contents old
  pub fails_stay : fails new ≡ fails old
  pub fetched_grow : fetched new ≡ fetched old ++ places
