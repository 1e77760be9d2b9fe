-- Lists that are made by pushes, number after number.
use Rattle.std.proofs.Common.{◌≡◌, ℕ, ◌+◌, ◌<◌, List, [], ◌∷◌, ◌++◌, map, refl, ap, sym, ◌∙◌, arith, length, below_more, subst}
use Rattle.std.specs.List.{range_with_len}
use Rattle.std.proofs.lemmas.List.{get_or_push, get_or_append_left, length_push}
use Rattle.std.proofs.lemmas.List.FromFn.{map-range_with_len_more, length-map-range_with_len, get_or-map-range_with_len, fill_by_all}
use Rattle.va_core.specs.Marks.{AreValid, IsRow, row_at}
use Rattle.va_marks.specs.Rows.{AreRows}

pub pushed_by : {X : Type 0} (f : ℕ → X) (xs ys : List X) (t : ℕ) (x : X) → ys ≡ xs ++ x ∷ [] → xs ≡ map f (range_with_len 0 t) → x ≡ f t → ys ≡ map f (range_with_len 0 (t + 1))
pushed_by f xs ys t x e h g =
    e ∙ ap (λ zs. zs ++ x ∷ []) h ∙ ap (λ z. map f (range_with_len 0 t) ++ z ∷ []) g ∙ sym (map-range_with_len_more f 0 t t (omega arith))

-- functions that agree below n make the same list of n
pub map_agree : {X : Type 0} (f g : ℕ → X) (n : ℕ) (d : X) → ((t : ℕ) → t < n → f t ≡ g t) → map f (range_with_len 0 n) ≡ map g (range_with_len 0 n)
map_agree f g n d h = fill_by_all g (map f (range_with_len 0 n)) n d (length-map-range_with_len f 0 n)
    (λ k l. get_or-map-range_with_len f 0 n k k d l (omega arith) ∙ h k l)

-- a valid row more
valid_pushed : (rows : List (List ℕ)) (row : List ℕ) → AreValid rows → IsRow row → AreValid (rows ++ row ∷ [])
valid_pushed rows row valid here dim inside =
    let len : length (rows ++ row ∷ []) ≡ length rows + 1 = length_push rows row in
    below_more (λ k. IsRow (row_at (rows ++ row ∷ []) k)) (length rows)
    (λ k l. subst IsRow (sym (get_or_append_left rows (row ∷ []) [] k l)) (valid k l))
    (subst IsRow (sym (get_or_push rows row [] (length rows) refl)) here)
    dim (omega arith)

pub rows_pushed : (f : ℕ → List ℕ) (xs ys : List (List ℕ)) (dim : ℕ) (row : List ℕ) → ys ≡ xs ++ row ∷ [] → AreRows f dim xs → row ≡ f dim → IsRow row → AreRows f (dim + 1) ys
rows_pushed f xs ys dim row e rows is valid = record {
  so_far = pushed_by f xs ys dim row e rows.so_far is;
  valid = subst AreValid (sym e) (valid_pushed xs row rows.valid valid);
}

pub rows_are_valid : (f : ℕ → List ℕ) (count : ℕ) (rows : List (List ℕ)) → AreRows f count rows → (dim : ℕ) → dim < count → IsRow (f dim)
rows_are_valid f count rows are dim l =
    let len : length rows ≡ count = ap length are.so_far ∙ length-map-range_with_len f 0 count in
    subst IsRow (ap (λ all. row_at all dim) are.so_far ∙ get_or-map-range_with_len f 0 count dim dim [] l (omega arith)) (are.valid dim (omega arith))
