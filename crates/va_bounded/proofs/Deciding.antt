-- What the bounds of one cell decide.
use Rattle.std.proofs.Common.{◌≡◌, ℕ, ◌<◌, ◌≤◌, Bool, true, false, ◌&&◌, ltb, leb, [], ◌∷◌, refl, arith}
use Rattle.std.proofs.lemmas.Bool.Decides.{nat_tests}
use Rattle.va_core.specs.Approximations.{need_within}
use Rattle.va_core.specs.Distance.{Query}
use Rattle.va_ports.specs.Shelves.{Contents}
use Rattle.va_ports.specs.Searches.{bounds_of}
use Rattle.va_bounded.specs.BoundedCells.{HasBounds, cell_of, wide_cells}
use Rattle.va_bounded.specs.declared.cell.BoundedCell.{BoundedCell}

below : (a b low high : ℕ) → low ≡ a → high ≡ b → low < high → ltb a b ≡ true
below a b low high l h lt = grind (arith, nat_tests, l, h, lt)

not_below : (a b low high : ℕ) → low ≡ a → high ≡ b → high ≤ low → ltb a b ≡ false
not_below a b low high l h le = grind (arith, nat_tests, l, h, le)

at_most : (a low radius : ℕ) → low ≡ a → low ≤ radius → leb a radius ≡ true
at_most a low radius l le = grind (arith, nat_tests, l, le)

above : (a low radius : ℕ) → low ≡ a → radius < low → leb a radius ≡ false
above a low radius l lt = grind (arith, nat_tests, l, lt)

pub and_true : (b : Bool) → (b && true) ≡ b
and_true true = refl
and_true false = refl

pub and_false : (b : Bool) → (b && false) ≡ false
and_false true = refl
and_false false = refl

module _ {T : Type 0} (contents : Contents) (query : Query) (cell : BoundedCell) (bounds : T → HasBounds contents query cell) where
  pub wide_is : cell.low < cell.high → T → wide_cells contents query (cell_of cell ∷ []) ≡ cell_of cell ∷ []
  wide_is wide t = rw (below ((bounds_of contents query).low (cell_of cell)) ((bounds_of contents query).high (cell_of cell)) cell.low cell.high (bounds t).low (bounds t).high wide) refl

  pub narrow_is : cell.high ≤ cell.low → T → wide_cells contents query (cell_of cell ∷ []) ≡ []
  narrow_is narrow t = rw (not_below ((bounds_of contents query).low (cell_of cell)) ((bounds_of contents query).high (cell_of cell)) cell.low cell.high (bounds t).low (bounds t).high narrow) refl

  pub near_is : (radius : ℕ) → cell.low ≤ radius → T → need_within (bounds_of contents query) (cell_of cell ∷ []) radius ≡ wide_cells contents query (cell_of cell ∷ [])
  near_is radius near t =
      let s = bounds_of contents query in
      let yes : leb (s.low (cell_of cell)) radius ≡ true = at_most (s.low (cell_of cell)) cell.low radius (bounds t).low near in
      rw (yes, and_true (ltb (s.low (cell_of cell)) (s.high (cell_of cell)))) refl

  pub far_is : (radius : ℕ) → radius < cell.low → T → need_within (bounds_of contents query) (cell_of cell ∷ []) radius ≡ []
  far_is radius far t =
      let s = bounds_of contents query in
      let no : leb (s.low (cell_of cell)) radius ≡ false = above (s.low (cell_of cell)) cell.low radius (bounds t).low far in
      rw (no, and_false (ltb (s.low (cell_of cell)) (s.high (cell_of cell)))) refl
