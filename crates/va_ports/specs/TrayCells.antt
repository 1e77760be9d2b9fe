-- What a tray holds in its cells.
use Rattle.std.specs.Prelude.{◌≡◌, ℕ, ◌==◌, List, [], ◌∷◌, length, map, replicate, if◌then◌else◌}
use Rattle.std.specs.List.{AllByRecursion}
use Rattle.va_ports.specs.declared.tray_cell.TrayCell.{TrayCell}

-- its place and its id
abbrev pub cell_of : TrayCell → ℕ × ℕ
cell_of cell = (cell.place, cell.id)

abbrev pub cells_of : List TrayCell → List (ℕ × ℕ)
cells_of cells = map cell_of cells

-- the vector of a place, or zeros where it has no cell
abbrev pub vector_at : ℕ → List TrayCell → ℕ → List ℕ
vector_at dims [] place = replicate dims 0
vector_at dims (cell ∷ cells) place = if cell.place == place then cell.vector else vector_at dims cells place

-- each vector has so many bytes
abbrev pub HaveDims : ℕ → List TrayCell → Type 0
HaveDims dims cells = AllByRecursion (λ cell. length cell.vector ≡ dims) cells
