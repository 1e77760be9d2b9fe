-- The test whether a packed code names a cell.
use Rattle.std.proofs.Common.{◌≡◌, ◌↔◌, ⊎_elim, ℕ, zero, suc, ◌+◌, ◌<◌, Bool, true, false, ◌&&◌, eqb, ltb, IsTrue, List, [], ◌∷◌, length, get_or, replicate, if◌then◌else◌, refl, sym, ap, subst, ◌∙◌, arith}
use Rattle.std.proofs.lemmas.Bool.{cases_lt, lt-ltb}
use Rattle.std.proofs.lemmas.Bool.Decides.{nat_tests}
use Rattle.std.proofs.lemmas.List.{get_or_past}
use Rattle.va_core.specs.Cells.{NamesSlices}
use Rattle.va_core.specs.Codes.{packed}
use Rattle.va_core.specs.Marks.{AreValid, HasShape, cell, row_at}
use Rattle.va_core.specs.Shape.{Shape, IsShape}
use Rattle.va_core.specs.Vectors.{IsVector}
use Rattle.va_core.proofs.Cells.{later_names, names_own}
use Rattle.va_cells.specs.Slices.{are_same, have_values, is_cell_code, slices_of}
use Rattle.va_pack.specs.Unpacked.{IsNamed, unpacked}
use Rattle.va_pack.proofs.Unpacked.{packed_is_named, slices_named, unpacked_is}
use Rattle.va_core.proofs.Tests.{and_both, both_and}

same_is : (xs ys : List ℕ) → are_same xs ys ≡ true → xs ≡ ys
same_is [] [] is = refl
same_is [] (y ∷ ys) is = cc
same_is (x ∷ xs) [] is = cc
same_is (x ∷ xs) (y ∷ ys) is =
    let both = and_both (eqb x y) (are_same xs ys) is in
    let first : x ≡ y = grind (arith, nat_tests, both.0) in
    let rest : xs ≡ ys = same_is xs ys both.1 in cc

is_same : (xs : List ℕ) → are_same xs xs ≡ true
is_same [] = refl
is_same (x ∷ xs) = let first : eqb x x ≡ true = grind (arith, nat_tests) in both_and (eqb x x) (are_same xs xs) first (is_same xs)

less_than : (a b : ℕ) → ltb a b ≡ true → a < b
less_than a b is = grind (arith, is)

-- a slice with a value is one of its row
inside_row : (row : List ℕ) (slice : ℕ) → get_or row slice 0 < get_or row (slice + 1) 0 → slice + 1 < length row
inside_row row slice less = ⊎_elim (λ inside. inside) (λ past. absurd (let none : get_or row (slice + 1) 0 ≡ 0 = get_or_past row (slice + 1) 0 past in omega (arith, less, none))) (cases_lt (slice + 1) (length row))

module _ (row : List ℕ) (marks : List (List ℕ)) (slice : ℕ) (slices : List ℕ) (first : get_or row slice 0 < get_or row (slice + 1) 0) (rest : NamesSlices marks slices) where
  more_inside : (dim : ℕ) → dim < length (row ∷ marks) → get_or (slice ∷ slices) dim 0 + 1 < length (row_at (row ∷ marks) dim)
  more_inside zero less = inside_row row slice first
  more_inside (suc dim) less = rest.inside dim (omega (arith, less))

  more_full : (dim : ℕ) → dim < length (row ∷ marks) → get_or (row_at (row ∷ marks) dim) (get_or (slice ∷ slices) dim 0) 0 < get_or (row_at (row ∷ marks) dim) (get_or (slice ∷ slices) dim 0 + 1) 0
  more_full zero less = first
  more_full (suc dim) less = rest.full dim (omega (arith, less))

  more_named : NamesSlices (row ∷ marks) (slice ∷ slices)
  more_named = record { one_each = ap suc rest.one_each; inside = more_inside; full = more_full }

values_named : (marks : List (List ℕ)) (slices : List ℕ) → have_values marks slices ≡ true → NamesSlices marks slices
values_named [] [] is = record { one_each = refl; inside = λ dim less. absurd (omega (arith, less)); full = λ dim less. absurd (omega (arith, less)) }
values_named [] (slice ∷ slices) is = cc
values_named (row ∷ marks) [] is = cc
values_named (row ∷ marks) (slice ∷ slices) is =
    let both = and_both (ltb (get_or row slice 0) (get_or row (slice + 1) 0)) (have_values marks slices) is in
    more_named row marks slice slices (less_than _ _ both.0) (values_named marks slices both.1)

named_values : (marks : List (List ℕ)) (slices : List ℕ) → NamesSlices marks slices → have_values marks slices ≡ true
named_values [] [] names = refl
named_values [] (slice ∷ slices) names = absurd (omega (arith, names.one_each))
named_values (row ∷ marks) [] names = absurd (omega (arith, names.one_each))
named_values (row ∷ marks) (slice ∷ slices) names =
    both_and (ltb (get_or row slice 0) (get_or row (slice + 1) 0)) (have_values marks slices)
    (lt-ltb (get_or row slice 0) (get_or row (slice + 1) 0) (names.full 0 (omega arith)))
    (named_values marks slices (later_names row marks slice slices names))

module _ (shape : Shape) (marks : List (List ℕ)) (code : List ℕ) where
  -- the test holds exactly where the code names a cell
  pub test_of_named : IsNamed shape marks code → is_cell_code shape marks code ≡ true
  test_of_named named = both_and (are_same (packed shape (unpacked shape code)) code) (have_values marks (unpacked shape code))
      (subst (λ (l : List ℕ). are_same l code ≡ true) (sym named.same) (is_same code)) (named_values marks (unpacked shape code) named.names)

  pub named_of_test : HasShape shape marks → is_cell_code shape marks code ≡ true → IsNamed shape marks code
  named_of_test has is =
      let both = and_both (are_same (packed shape (unpacked shape code)) code) (have_values marks (unpacked shape code)) is in
      let names = values_named marks (unpacked shape code) both.1 in
      record { are = slices_named shape marks (unpacked shape code) has names; same = same_is (packed shape (unpacked shape code)) code both.0; names = names }

  test_is : (test result : Bool) → is_cell_code shape marks code ≡ test → HasShape shape marks → IsTrue result ↔ IsNamed shape marks code → result ≡ test
  test_is true true is has exact = refl
  test_is false false is has exact = refl
  test_is true false is has exact = exact.1 (named_of_test has is)
  test_is false true is has exact = sym (test_of_named (exact.0 refl)) ∙ is

  pub tested : (result : Bool) → HasShape shape marks → IsTrue result ↔ IsNamed shape marks code → result ≡ is_cell_code shape marks code
  tested result has exact = test_is (is_cell_code shape marks code) result refl has exact

  -- the slices that were written are those of the code
  pub slices_given : (result : Bool) (slices : List ℕ) → result ≡ is_cell_code shape marks code → (IsTrue result → slices ≡ unpacked shape code) → (result ≡ false → slices ≡ cell marks (replicate shape.dims 0))
      → slices ≡ slices_of shape marks code
  slices_given true slices is named zeros = named refl ∙ ap (λ (b : Bool). if b then unpacked shape code else cell marks (replicate shape.dims 0)) is
  slices_given false slices is named zeros = zeros refl ∙ ap (λ (b : Bool). if b then unpacked shape code else cell marks (replicate shape.dims 0)) is

-- the packed cell of a vector gives the slices of its cell
pub own_slices : (shape : Shape) (marks : List (List ℕ)) (code vector : List ℕ) → IsShape shape → HasShape shape marks → AreValid marks → IsVector shape.dims vector → code ≡ packed shape (cell marks vector)
    → cell marks vector ≡ slices_of shape marks code
own_slices shape marks code vector is has valid bytes own =
    let names = names_own marks vector valid (subst (λ (n : ℕ). IsVector n vector) (sym has.one_each) bytes) in
    let are = slices_named shape marks (cell marks vector) has names in
    let test = test_of_named shape marks code (packed_is_named shape marks (cell marks vector) code is has names (sym own)) in
    unpacked_is shape (cell marks vector) code is are (sym own)
    ∙ sym (ap (λ (b : Bool). if b then unpacked shape code else cell marks (replicate {A = ℕ} shape.dims 0)) test)
