-- What a table of bounds tells of the cells of its marks.
use Rattle.std.proofs.Common.{◌≡◌, ℕ, suc, ◌+◌, ◌-◌, ◌*◌, ◌<◌, ◌≤◌, List, [], ◌∷◌, ◌++◌, length, get_or, refl, ap, sym, ◌∙◌, subst, ⊎_elim, arith}
use Rattle.std.specs.List.{AllByRecursion}
use Rattle.std.proofs.lemmas.Bool.{cases_lt}
use Rattle.std.proofs.lemmas.List.{get_or_append_left, get_or_push, length_push}
use Rattle.std.proofs.lemmas.Nat.{mul-add-lt, same_from_place}
use Rattle.va_core.specs.Shape.{sum_below}
use Rattle.va_core.specs.Boxes.{low_of, high_of, lowest, highest}
use Rattle.va_core.specs.Cells.{box, NamesSlices}
use Rattle.va_core.specs.Distance.{Query, distance}
use Rattle.va_core.specs.DistanceParts.{part_of}
use Rattle.va_core.specs.Marks.{cell, row_at}
use Rattle.va_core.specs.Parts.{least_part, greatest_part}
use Rattle.va_core.proofs.CellBounds.{sum_same, low_summed, high_summed, lowest_at, highest_at, lowest_length, highest_length, begin_of, further_of}
use Rattle.va_core.proofs.Cells.{names_own}
use Rattle.va_core.proofs.Members.{all_append, all_below}
use Rattle.va_bound.specs.declared.entry.Entry.{Entry}
use Rattle.va_bound.specs.Extremes.{IsExtreme, IsSmall}
use Rattle.va_bound.specs.Tables.{Table, none, entry_at, IsFull, IsRight, AreRight, AreBounds, HasEntries, least_sum, greatest_sum}

-- slices that marks have stand in the table
pub names_entries : (marks : List (List ℕ)) (query : Query) (table : Table) (slices : List ℕ) → AreBounds marks query table → NamesSlices marks slices → HasEntries table slices
names_entries marks query table slices are names = record {
  one_each = names.one_each ∙ sym are.dims;
  inside = λ dim h. let d : dim < length marks = omega (arith, h, are.dims) in omega (arith, names.inside dim d, are.fits dim d);
}

-- and those of a vector do
pub entries_of_cell : (marks : List (List ℕ)) (query : Query) (table : Table) (vector codes : List ℕ) → AreBounds marks query table → length vector ≡ length marks → ((i : ℕ) → get_or vector i 0 < 256) → codes ≡ cell marks vector → HasEntries table codes
entries_of_cell marks query table vector codes are len small e =
    names_entries marks query table codes are (subst (NamesSlices marks) (sym e) (names_own marks vector are.valid (record { one_each = len; bytes = all_below 256 vector small })))

-- where an entry stands
pub entry_inside : (table : Table) (dim slice : ℕ) → dim < table.dims → slice < table.slices → dim * table.slices + slice < table.dims * table.slices
entry_inside table dim slice h g = let inside = mul-add-lt dim table.slices slice table.dims h g in omega (arith, inside)

pub extreme_at : (marks : List (List ℕ)) (query : Query) (table : Table) (dim slice : ℕ) → AreBounds marks query table → dim < length marks → IsFull (row_at marks dim) slice →
    IsExtreme (part_of query dim) (get_or (row_at marks dim) slice 0) (get_or (row_at marks dim) (slice + 1) 0 - 1 - get_or (row_at marks dim) slice 0) (entry_at table dim slice)
extreme_at marks query table dim slice are h full =
    let d : dim < table.dims = omega (arith, h, are.dims) in
    let s : slice < table.slices = omega (arith, full.0, are.fits dim h) in
    let place = entry_inside table dim slice d s in
    are.right dim slice s (omega (arith, place, are.size)) full

extreme_of : (marks : List (List ℕ)) (query : Query) (table : Table) (slices : List ℕ) (dim : ℕ) → AreBounds marks query table → NamesSlices marks slices → dim < length marks →
    IsExtreme (part_of query dim) (begin_of marks slices dim) (further_of marks slices dim) (entry_at table dim (get_or slices dim 0))
extreme_of marks query table slices dim are names h = extreme_at marks query table dim (get_or slices dim 0) are h (names.inside dim h, names.full dim h)

-- The sums of the entries are the bounds of the cell.
pub sum_is_low : (marks : List (List ℕ)) (query : Query) (table : Table) (slices : List ℕ) → AreBounds marks query table → NamesSlices marks slices → least_sum table slices ≡ low_of (distance query) (box marks slices)
sum_is_low marks query table slices are names =
    sum_same (λ dim. (entry_at table dim (get_or slices dim 0)).least) (λ dim. least_part (part_of query dim) (begin_of marks slices dim) (further_of marks slices dim)) (length slices)
    (λ dim h. (extreme_of marks query table slices dim are names (omega (arith, h, names.one_each))).least)
    ∙ (ap (sum_below (λ dim. least_part (part_of query dim) (begin_of marks slices dim) (further_of marks slices dim))) names.one_each
    ∙ sym (low_summed marks query slices are.query_fits names))

pub sum_is_high : (marks : List (List ℕ)) (query : Query) (table : Table) (slices : List ℕ) → AreBounds marks query table → NamesSlices marks slices → greatest_sum table slices ≡ high_of (distance query) (box marks slices)
sum_is_high marks query table slices are names =
    sum_same (λ dim. (entry_at table dim (get_or slices dim 0)).greatest) (λ dim. greatest_part (part_of query dim) (begin_of marks slices dim) (further_of marks slices dim)) (length slices)
    (λ dim h. (extreme_of marks query table slices dim are names (omega (arith, h, names.one_each))).greatest)
    ∙ (ap (sum_below (λ dim. greatest_part (part_of query dim) (begin_of marks slices dim) (further_of marks slices dim))) names.one_each
    ∙ sym (high_summed marks query slices are.query_fits names))

-- lists that are equal place by place
same_places : (xs ys : List ℕ) → length xs ≡ length ys → ((i : ℕ) → i < length xs → get_or xs i 0 ≡ get_or ys i 0) → xs ≡ ys
same_places [] [] len h = refl
same_places [] (y ∷ ys) len h = absurd (omega (arith, len))
same_places (x ∷ xs) [] len h = absurd (omega (arith, len))
same_places (x ∷ xs) (y ∷ ys) len h =
    let first : x ≡ y = h 0 (omega arith) in
    let rest : xs ≡ ys = same_places xs ys (omega (arith, len)) (λ i b. h (suc i) (omega (arith, b))) in cc

-- The first values that attain the extremes are the first vectors of the cell at its bounds.
pub values_are_lowest : (marks : List (List ℕ)) (query : Query) (table : Table) (slices out : List ℕ) → AreBounds marks query table → NamesSlices marks slices → length out ≡ length slices →
    ((dim : ℕ) → dim < length slices → get_or out dim 0 ≡ (entry_at table dim (get_or slices dim 0)).least_at) → out ≡ lowest (distance query) (box marks slices)
values_are_lowest marks query table slices out are names len h =
    same_places out (lowest (distance query) (box marks slices)) (len ∙ (names.one_each ∙ sym (lowest_length marks query slices are.query_fits names)))
    (λ dim b. let d : dim < length marks = omega (arith, b, len, names.one_each) in
    h dim (omega (arith, b, len)) ∙ ((extreme_of marks query table slices dim are names d).least_at ∙ sym (lowest_at marks query slices dim are.query_fits names d)))

pub values_are_highest : (marks : List (List ℕ)) (query : Query) (table : Table) (slices out : List ℕ) → AreBounds marks query table → NamesSlices marks slices → length out ≡ length slices →
    ((dim : ℕ) → dim < length slices → get_or out dim 0 ≡ (entry_at table dim (get_or slices dim 0)).greatest_at) → out ≡ highest (distance query) (box marks slices)
values_are_highest marks query table slices out are names len h =
    same_places out (highest (distance query) (box marks slices)) (len ∙ (names.one_each ∙ sym (highest_length marks query slices are.query_fits names)))
    (λ dim b. let d : dim < length marks = omega (arith, b, len, names.one_each) in
    h dim (omega (arith, b, len)) ∙ ((extreme_of marks query table slices dim are names d).greatest_at ∙ sym (highest_at marks query slices dim are.query_fits names d)))

-- one entry more in the table
pub right_pushed : (marks : List (List ℕ)) (query : Query) (slices d s : ℕ) (entries : List Entry) (entry : Entry) → length entries ≡ d * slices + s → s < slices → AreRight marks query slices entries → IsRight marks query d s entry → AreRight marks query slices (entries ++ entry ∷ [])
right_pushed marks query slices d s entries entry len inside right new dim slice b place full = ⊎_elim
    (λ (lt : dim * slices + slice < length entries). rw (get_or_append_left entries (entry ∷ []) none (dim * slices + slice) lt) (right dim slice b lt full))
    (λ (ge : length entries ≤ dim * slices + slice).
    let last : dim * slices + slice ≡ length entries = omega (arith, ge, place, length_push entries entry) in
    let same : (dim ≡ d) × (slice ≡ s) = same_from_place dim slice d s slices b inside (last ∙ len) in
    let here : get_or (entries ++ entry ∷ []) (dim * slices + slice) none ≡ entry = get_or_push entries entry none (dim * slices + slice) (sym last) in
    let right_here : IsRight marks query dim slice entry = subst (λ (n : ℕ). IsRight marks query n slice entry) (sym same.0) (subst (λ (n : ℕ). IsRight marks query d n entry) (sym same.1) new) in
    rw here (right_here full))
    (cases_lt (dim * slices + slice) (length entries))

pub small_pushed : (entries : List Entry) (entry : Entry) → AllByRecursion IsSmall entries → IsSmall entry → AllByRecursion IsSmall (entries ++ entry ∷ [])
small_pushed entries entry h small = all_append IsSmall entries (entry ∷ []) h (small, tt)

pub none_small : IsSmall none
none_small = record { least = omega arith; greatest = omega arith }
