-- The cells of a tray.
use Rattle.std.proofs.Common.{◌≡◌, ◌≢◌, ℕ, zero, suc, ◌+◌, ◌<◌, ◌≤◌, Bool, true, false, eqb, List, [], ◌∷◌, ◌++◌, length, get_or, drop, if◌then◌else◌, refl, sym, ap, subst, ◌∙◌, add-one, arith}
use Rattle.std.specs.List.{AllByRecursion}
use Rattle.std.proofs.lemmas.Bool.Decides.{nat_tests}
use Rattle.va_ports.specs.Shelves.{PlacesAscend, place_of}
use Rattle.va_ports.specs.TrayCells.{HaveDims, cell_of, cells_of, vector_at}
use Rattle.va_ports.specs.declared.tray_cell.TrayCell.{TrayCell}

ascend_from : (from capacity : ℕ) (cells : List TrayCell) (k : ℕ) (d : TrayCell) → PlacesAscend from capacity (cells_of cells) → k < length cells → from ≤ (get_or cells k d).place
ascend_from from capacity [] k d places l = absurd (omega arith)
ascend_from from capacity (cell ∷ cells) zero d places l = places.0
ascend_from from capacity (cell ∷ cells) (suc k) d places l =
    let h : cell.place + 1 ≤ (get_or cells k d).place = ascend_from (cell.place + 1) capacity cells k d places.2 (omega arith) in
    omega (arith, h, places.0)

-- the vector of a cell's place is the cell's
pub at_place : (dims from capacity : ℕ) (cells : List TrayCell) (k : ℕ) (d : TrayCell) → PlacesAscend from capacity (cells_of cells) → k < length cells → vector_at dims cells (get_or cells k d).place ≡ (get_or cells k d).vector
at_place dims from capacity [] k d places l = absurd (omega arith)
at_place dims from capacity (cell ∷ cells) zero d places l = let same : eqb cell.place cell.place ≡ true = grind (arith, nat_tests) in rw same refl
at_place dims from capacity (cell ∷ cells) (suc k) d places l =
    let above : cell.place + 1 ≤ (get_or cells k d).place = ascend_from (cell.place + 1) capacity cells k d places.2 (omega arith) in
    let other : eqb cell.place (get_or cells k d).place ≡ false = grind (arith, nat_tests) in
    rw other (at_place dims (cell.place + 1) capacity cells k d places.2 (omega arith))

pub dims_at : (dims : ℕ) (cells : List TrayCell) (k : ℕ) (d : TrayCell) → HaveDims dims cells → k < length cells → length (get_or cells k d).vector ≡ dims
dims_at dims [] k d all l = absurd (omega arith)
dims_at dims (cell ∷ cells) zero d all l = all.0
dims_at dims (cell ∷ cells) (suc k) d all l = dims_at dims cells k d all.1 (omega arith)

pub dims_more : (dims : ℕ) (cells : List TrayCell) (cell : TrayCell) → HaveDims dims cells → length cell.vector ≡ dims → HaveDims dims (cells ++ cell ∷ [])
dims_more dims [] cell all h = (h, tt)
dims_more dims (first ∷ cells) cell all h = (all.0, dims_more dims cells cell all.1 h)

-- one more cell, in a place above all others
pub vector_new : (dims : ℕ) (cells : List TrayCell) (cell : TrayCell) → AllByRecursion (λ (other : ℕ × ℕ). place_of other < cell.place) (cells_of cells) → vector_at dims (cells ++ cell ∷ []) cell.place ≡ cell.vector
vector_new dims [] cell below = let same : eqb cell.place cell.place ≡ true = grind (arith, nat_tests) in rw same refl
vector_new dims (first ∷ cells) cell below =
    let lt = below.0 in
    let other : eqb first.place cell.place ≡ false = grind (arith, nat_tests, lt) in
    rw other (vector_new dims cells cell below.1)

pub vector_others : (dims : ℕ) (cells : List TrayCell) (cell : TrayCell) (place : ℕ) → place ≢ cell.place → vector_at dims (cells ++ cell ∷ []) place ≡ vector_at dims cells place
vector_others dims [] cell place ne = let other : eqb cell.place place ≡ false = grind (arith, nat_tests) in rw other refl
vector_others dims (first ∷ cells) cell place ne = elim (eqb first.place place) as (λ c. (if c then first.vector else vector_at dims (cells ++ cell ∷ []) place) ≡ (if c then first.vector else vector_at dims cells place)) [
  | true ↦ refl
  | false ↦ vector_others dims cells cell place ne
]

pub cells_more : (cells : List TrayCell) (cell : TrayCell) → cells_of (cells ++ cell ∷ []) ≡ cells_of cells ++ cell_of cell ∷ []
cells_more [] cell = refl
cells_more (first ∷ cells) cell = ap (λ l. cell_of first ∷ l) (cells_more cells cell)

pub cells_at : (cells : List TrayCell) (k : ℕ) (d : TrayCell) → k < length cells → drop k (cells_of cells) ≡ cell_of (get_or cells k d) ∷ drop (suc k) (cells_of cells)
cells_at [] k d l = absurd (omega arith)
cells_at (cell ∷ cells) zero d l = refl
cells_at (cell ∷ cells) (suc k) d l = cells_at cells k d (omega arith)

pub cells_end : (cells : List TrayCell) (k : ℕ) → length cells ≤ k → drop k (cells_of cells) ≡ []
cells_end [] zero l = refl
cells_end [] (suc k) l = refl
cells_end (cell ∷ cells) zero l = absurd (omega arith)
cells_end (cell ∷ cells) (suc k) l = cells_end cells k (omega arith)

pub vector_from : (dims : ℕ) (cells : List TrayCell) (k : ℕ) (d : TrayCell) (place : ℕ) → k < length cells → vector_at dims (drop k cells) place ≡ (if eqb (get_or cells k d).place place then (get_or cells k d).vector else vector_at dims (drop (suc k) cells) place)
vector_from dims [] k d place l = absurd (omega arith)
vector_from dims (cell ∷ cells) zero d place l = refl
vector_from dims (cell ∷ cells) (suc k) d place l = vector_from dims cells k d place (omega arith)

pub length_cells : (cells : List TrayCell) → length (cells_of cells) ≡ length cells
length_cells [] = refl
length_cells (cell ∷ cells) = ap (λ n. suc n) (length_cells cells)

-- the list stayed, or got longer
pub pushed : (P : List TrayCell → Type 0) (ok : Bool) (old more new : List TrayCell) → new ≡ (if ok then more else old) → P old → P more → P new
pushed P true old more new e h k = subst P (sym e) k
pushed P false old more new e h k = subst P (sym e) h

-- the scan at an index gives the cell there
pub gave_next : (cells cells' : List TrayCell) (at at' : ℕ) (cell : TrayCell) → cells' ≡ cells → at' ≡ at → at' < length cells' → cell ≡ get_or cells' at' cell → drop at (cells_of cells) ≡ cell_of cell ∷ drop (at' + 1) (cells_of cells')
gave_next cells cells' at at' cell same same_at l is =
    ap (λ (l : List TrayCell). drop at (cells_of l)) (sym same)
    ∙ ap (λ (n : ℕ). drop n (cells_of cells')) (sym same_at)
    ∙ cells_at cells' at' cell l
    ∙ ap (λ (i : TrayCell). cell_of i ∷ drop (suc at') (cells_of cells')) (sym is)
    ∙ ap (λ (n : ℕ). cell_of cell ∷ drop n (cells_of cells')) (sym (add-one at'))

pub vector_next : (dims capacity : ℕ) (cells cells' : List TrayCell) (at : ℕ) (cell : TrayCell) → cells' ≡ cells → at < length cells' → cell ≡ get_or cells' at cell → PlacesAscend 0 capacity (cells_of cells) → vector_at dims cells cell.place ≡ cell.vector
vector_next dims capacity cells cells' at cell same l is places =
    let h : vector_at dims cells (get_or cells at cell).place ≡ (get_or cells at cell).vector = at_place dims 0 capacity cells at cell places (rw same at l) in
    rw (sym (is ∙ ap (λ (l : List TrayCell). get_or l at cell) same)) at h

pub dims_next : (dims : ℕ) (cells cells' : List TrayCell) (at : ℕ) (cell : TrayCell) → cells' ≡ cells → at < length cells' → cell ≡ get_or cells' at cell → HaveDims dims cells → length cell.vector ≡ dims
dims_next dims cells cells' at cell same l is all =
    let h : length (get_or cells at cell).vector ≡ dims = dims_at dims cells at cell all (rw same at l) in
    rw (sym (is ∙ ap (λ (l : List TrayCell). get_or l at cell) same)) at h
