-- Cells whose places ascend and whose ids differ.
use Rattle.std.proofs.Common.{◌≢◌, ℕ, ◌+◌, ◌<◌, ◌≤◌, List, [], ◌∷◌, ◌++◌, length, arith}
use Rattle.std.specs.List.{AllByRecursion}
use Rattle.va_core.specs.Approximations.{NamesDiffer}
use Rattle.va_core.proofs.Members.{all_append}
use Rattle.va_ports.specs.Shelves.{AreInside, PlacesAscend, place_of, id_of}

-- there are no more cells than places
pub few_cells : (from capacity : ℕ) (cells : List (ℕ × ℕ)) → from ≤ capacity → PlacesAscend from capacity cells → from + length cells ≤ capacity
few_cells from capacity [] le ascend = omega arith
few_cells from capacity (cell ∷ cells) le ascend =
    let h : (place_of cell + 1) + length cells ≤ capacity = few_cells (place_of cell + 1) capacity cells (omega (arith, ascend.1)) ascend.2 in
    omega (arith, h, ascend.0)

-- each place is below the capacity
pub inside_cells : (from capacity : ℕ) (cells : List (ℕ × ℕ)) → PlacesAscend from capacity cells → AreInside capacity cells
inside_cells from capacity [] ascend = tt
inside_cells from capacity (cell ∷ cells) ascend = (ascend.1, inside_cells (place_of cell + 1) capacity cells ascend.2)

-- one more cell, in a place above all others
pub places_more : (from capacity place id : ℕ) (cells : List (ℕ × ℕ)) → from ≤ place → PlacesAscend from capacity cells → AllByRecursion (λ (cell : ℕ × ℕ). place_of cell < place) cells → place < capacity → PlacesAscend from capacity (cells ++ (place, id) ∷ [])
places_more from capacity place id [] le ascend below inside = (le, inside, tt)
places_more from capacity place id (cell ∷ cells) le ascend below inside =
    (ascend.0, ascend.1, places_more (place_of cell + 1) capacity place id cells (omega (arith, below.0)) ascend.2 below.1 inside)

-- and with a new id
pub ids_more : (place id : ℕ) (cells : List (ℕ × ℕ)) → NamesDiffer id_of cells → AllByRecursion (λ (cell : ℕ × ℕ). id_of cell ≢ id) cells → NamesDiffer id_of (cells ++ (place, id) ∷ [])
ids_more place id [] differ new = (tt, tt)
ids_more place id (cell ∷ cells) differ new =
    (all_append (λ (other : ℕ × ℕ). id_of other ≢ id_of cell) cells ((place, id) ∷ []) differ.0 ((λ e. new.0 (omega (arith, e))), tt), ids_more place id cells differ.1 new.1)
