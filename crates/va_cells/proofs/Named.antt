-- A packed code names a cell.
use Rattle.std.proofs.Common.{◌≡◌, ℕ, zero, suc, ◌+◌, ◌-◌, ◌<◌, ◌≤◌, List, length, get_or, take, replicate, Option, None, Some, is_some, Bool, if◌then◌else◌, ⊎_elim, sym, ◌∙◌, ap, arith}
use Rattle.std.proofs.lemmas.Bool.{cases_lt, le-ltb, lt-ltb, true≢false}
use Rattle.std.proofs.lemmas.List.{length-take-le, length-replicate}
use Rattle.va_core.specs.Cells.{NamesSlices}
use Rattle.va_core.specs.Codes.{AreSlices}
use Rattle.va_core.specs.Marks.{AreValid, HasShape, cell, interval, row_at}
use Rattle.va_core.specs.Shape.{Shape, IsShape}
use Rattle.va_core.specs.Vectors.{AreBytes}
use Rattle.va_core.proofs.Cells.{names_own}
use Rattle.va_layout.specs.Fields.{NamesCell}
use Rattle.va_pack.specs.Unpacked.{IsNamed, unpacked}
use Rattle.va_pack.proofs.Unpacked.{packed_is_named}

-- a code names a cell exactly where the slices that it unpacks to pack to it and none of them is empty
pub named_of_cell : (shape : Shape) (marks : List (List ℕ)) (code : List ℕ) → IsShape shape → HasShape shape marks → NamesCell shape marks code → IsNamed shape marks code
named_of_cell shape marks code is has names = packed_is_named shape marks names.slices code is has names.names names.packs

pub cell_of_named : (shape : Shape) (marks : List (List ℕ)) (code : List ℕ) → IsNamed shape marks code → NamesCell shape marks code
cell_of_named shape marks code named = record { slices = unpacked shape code; fit = named.are; packs = named.same; names = named.names }

-- a slice with a value
full_slice : (row : List ℕ) (slice : ℕ) → (interval row slice ≡ None → ⊥) → get_or row slice 0 < get_or row (slice + 1) 0
full_slice row slice some =
    let pick : Bool → Option (ℕ × ℕ) = λ b. (if b then Some (get_or row slice 0, get_or row (slice + 1) 0 - 1) else None) in
    ⊎_elim (λ less. less) (λ le. absurd (some (ap pick (le-ltb (get_or row slice 0) (get_or row (slice + 1) 0) le)))) (cases_lt (get_or row slice 0) (get_or row (slice + 1) 0))

-- no slice is empty where the marks rise strictly
pub rising_slice : (row : List ℕ) (slice : ℕ) → get_or row slice 0 < get_or row (slice + 1) 0 → interval row slice ≡ None → ⊥
rising_slice row slice less none =
    let pick : Bool → Option (ℕ × ℕ) = λ b. (if b then Some (get_or row slice 0, get_or row (slice + 1) 0 - 1) else None) in
    true≢false (ap is_some (sym (ap pick (lt-ltb (get_or row slice 0) (get_or row (slice + 1) 0) less)) ∙ none))

-- slices with values to which a code unpacks are named by it
pub slices_have_values : (shape : Shape) (marks : List (List ℕ)) (xs : List ℕ) → HasShape shape marks → AreSlices shape xs
    → ((dim : ℕ) → dim < length marks → interval (row_at marks dim) (get_or xs dim 0) ≡ None → ⊥) → NamesSlices marks xs
slices_have_values shape marks xs has are values = record {
  one_each = are.one_each ∙ sym has.one_each;
  inside = λ dim less. (let fit = are.fit dim (omega (arith, less, has.one_each)) in let count = has.counts dim (omega (arith, less, has.one_each)) in omega (arith, fit, count));
  full = λ dim less. full_slice (row_at marks dim) (get_or xs dim 0) (values dim less);
}

zeros_are_bytes : (n m : ℕ) → AreBytes (take n (replicate m 0))
zeros_are_bytes zero m = tt
zeros_are_bytes (suc n) zero = tt
zeros_are_bytes (suc n) (suc m) = (omega arith, zeros_are_bytes n m)

-- the slices of the vector of zeros aren't empty
pub zeros_named : (marks : List (List ℕ)) (n : ℕ) → AreValid marks → n ≡ length marks → n ≤ 256 → NamesSlices marks (cell marks (take n (replicate 256 0)))
zeros_named marks n valid is few = names_own marks (take n (replicate 256 0)) valid (record {
  one_each = length-take-le n (replicate 256 0) (omega (arith, few, length-replicate {A = ℕ} 256 0)) ∙ is;
  bytes = zeros_are_bytes n 256;
})
