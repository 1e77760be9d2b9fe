-- Facts by recursion that hold in one way at most, so that a struct may keep them.
use Rattle.std.specs.Prelude.{◌≡◌, ◌≢◌, ℕ, ◌+◌, List, [], ◌∷◌, length}
use Rattle.std.proofs.Props.{props}
use Rattle.std.specs.List.{AllByRecursion, AllByRecursion-prop}
use Rattle.va_core.specs.Approximations.{NamesDiffer}
use Rattle.va_ports.specs.Shelves.{PlacesAscend, place_of, id_of}
use Rattle.va_ports.specs.TrayCells.{HaveDims}
use Rattle.va_ports.specs.declared.tray_cell.TrayCell.{TrayCell}

pub places_prop : (from capacity : ℕ) (cells : List (ℕ × ℕ)) → IsProp (PlacesAscend from capacity cells)
places_prop from capacity [] = hlevel props
places_prop from capacity (cell ∷ cells) = let rest : IsProp (PlacesAscend (place_of cell + 1) capacity cells) = places_prop (place_of cell + 1) capacity cells in hlevel (props, rest)

others_prop : (id : ℕ) (cells : List (ℕ × ℕ)) → IsProp (AllByRecursion (λ (other : ℕ × ℕ). id_of other ≢ id) cells)
others_prop id cells = AllByRecursion-prop (λ (other : ℕ × ℕ). id_of other ≢ id) (λ other. hlevel props) cells

pub ids_prop : (cells : List (ℕ × ℕ)) → IsProp (NamesDiffer id_of cells)
ids_prop [] = hlevel props
ids_prop (cell ∷ cells) =
    let first : IsProp (AllByRecursion (λ (other : ℕ × ℕ). id_of other ≢ id_of cell) cells) = others_prop (id_of cell) cells in
    let rest : IsProp (NamesDiffer id_of cells) = ids_prop cells in
    hlevel (props, first, rest)

pub dims_prop : (dims : ℕ) (cells : List TrayCell) → IsProp (HaveDims dims cells)
dims_prop dims cells = AllByRecursion-prop (λ (cell : TrayCell). length cell.vector ≡ dims) (λ cell. hlevel props) cells
