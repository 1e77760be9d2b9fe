-- Cells in the order of their ids.
use Rattle.std.proofs.Common.{◌≡◌, ◌≢◌, ℕ, suc, ◌<◌, ◌≤◌, false, List, [], ◌∷◌, map, length, get_or, Contains, inl, inr, sym, ap, ◌∙◌, subst, arith}
use Rattle.std.specs.List.{AllByRecursion}
use Rattle.std.specs.List.Sorted.{IsNonDecreasingBy, IsPermutation}
use Rattle.std.proofs.lemmas.Bool.Decides.{nat_tests}
use Rattle.std.proofs.lemmas.List.Sorted.{Contains-permutation, IsPermutation-sym}
use Rattle.va_core.specs.declared.pair.Pair.{Pair}
use Rattle.va_core.specs.Approximations.{NamesDiffer, paired}
use Rattle.va_core.specs.Ranking.{is_less}
use Rattle.va_core.specs.Sorting.{IsFloor, IsInOrder, ascending_by}
use Rattle.va_core.proofs.Keyed.{ascending_by_is_only}
use Rattle.va_core.proofs.Members.{contains_cases, contains_first, contains_later, contains_none}
use Rattle.va_ports.specs.Shelves.{Contents, id_of}
use Rattle.va_maker.specs.Coded.{coded_at, key_of}
use Rattle.va_maker.specs.declared.coded.CodedCell.{CodedCell}

not_less : (a b : ℕ) → b ≤ a → is_less (paired 0 a) (paired 0 b) ≡ false
not_less a b h = grind (arith, nat_tests, h)

floor_of : (x : CodedCell) (l : List CodedCell) → ((j : ℕ) → j < length l → x.id ≤ (get_or l j x).id) → IsFloor key_of x l
floor_of x [] h = tt
floor_of x (y ∷ l) h = (not_less y.id x.id (h 0 (omega arith)), floor_of x l (λ j in'. h (suc j) (omega (arith, in'))))

-- a sort by ids leaves them in order
pub in_order : (l : List CodedCell) → IsNonDecreasingBy (λ (cell : CodedCell). cell.id) l → IsInOrder key_of l
in_order [] h = tt
in_order (x ∷ l) h = (floor_of x l (λ j in'. h 0 (suc j) x (omega arith) (omega (arith, in'))), in_order l (λ i j d le in'. h (suc i) (suc j) d (omega (arith, le)) (omega (arith, in'))))

-- no other cell has the id
absent : (contents : Contents) (id : ℕ) (cells : List (ℕ × ℕ)) (b : CodedCell) → AllByRecursion (λ (cell : ℕ × ℕ). id_of cell ≢ id) cells → Contains (map (coded_at contents) cells) b → b.id ≢ id
absent contents id [] b all in' = absurd (contains_none b in')
absent contents id (cell ∷ cells) b all in' = elim (contains_cases (coded_at contents cell) b (map (coded_at contents) cells) in') [
  | inl e ↦ λ same. all.0 (ap (λ (c : CodedCell). c.id) e ∙ same)
  | inr later ↦ absent contents id cells b all.1 later
]

one_each : (contents : Contents) (cells : List (ℕ × ℕ)) → NamesDiffer id_of cells → (a b : CodedCell) → Contains (map (coded_at contents) cells) a → Contains (map (coded_at contents) cells) b → a.id ≡ b.id → a ≡ b
one_each contents [] differ a b in' among same = absurd (contains_none a in')
one_each contents (cell ∷ cells) differ a b in' among same = elim (contains_cases (coded_at contents cell) a (map (coded_at contents) cells) in') [
  | inl e ↦ elim (contains_cases (coded_at contents cell) b (map (coded_at contents) cells) among) [
    | inl f ↦ sym e ∙ f
    | inr later ↦ absurd (absent contents (id_of cell) cells b differ.0 later (sym same ∙ sym (ap (λ (c : CodedCell). c.id) e)))
  ]
  | inr first ↦ elim (contains_cases (coded_at contents cell) b (map (coded_at contents) cells) among) [
    | inl f ↦ absurd (absent contents (id_of cell) cells a differ.0 first (same ∙ sym (ap (λ (c : CodedCell). c.id) f)))
    | inr later ↦ one_each contents cells differ.1 a b first later same
  ]
]

-- what a sort by ids makes of the cells of a shelf
pub sorted_is : (contents : Contents) (cells : List (ℕ × ℕ)) (new : List CodedCell) → NamesDiffer id_of cells → IsPermutation (map (coded_at contents) cells) new → IsNonDecreasingBy (λ (cell : CodedCell). cell.id) new →
    new ≡ ascending_by key_of (map (coded_at contents) cells)
sorted_is contents cells new differ moved sorted = ascending_by_is_only key_of (map (coded_at contents) cells) new moved (in_order new sorted)
    (λ a b in' among same. one_each contents cells differ a b in' among (ap (λ (p : Pair). p.id) same))

all_if : {X : Type 0} (P : X → Type 0) (l : List X) → ((x : X) → Contains l x → P x) → AllByRecursion P l
all_if P [] h = tt
all_if P (x ∷ l) h = (h x (contains_first x l), all_if P l (λ y in'. h y (contains_later x y l in')))

all_holds : {X : Type 0} (P : X → Type 0) (l : List X) (x : X) → AllByRecursion P l → Contains l x → P x
all_holds P [] x all in' = absurd (contains_none x in')
all_holds P (y ∷ l) x all in' = elim (contains_cases y x l in') [
  | inl e ↦ subst P e all.0
  | inr later ↦ all_holds P l x all.1 later
]

-- a sort only moves members
pub all_moved : {X : Type 0} (P : X → Type 0) (old new : List X) → IsPermutation old new → AllByRecursion P old → AllByRecursion P new
all_moved P old new moved all = all_if P new (λ x in'. all_holds P old x all (Contains-permutation new old x (IsPermutation-sym old new moved) in'))
