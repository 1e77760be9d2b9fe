-- What the top of a heap of pairs is among the pairs in order.
use Rattle.std.proofs.Common.{◌≡◌, ℕ, suc, ◌-◌, ◌<◌, true, false, List, [], ◌∷◌, ◌++◌, length, take, get_or, Option, Some, None, IsSome, IfSome, slice_get, ◌↔◌, Bor, refl, ap, sym, ◌∙◌, take_at, arith}
use Rattle.std.specs.Option.{option_copied}
use Rattle.std.specs.BinaryHeap.{IsUpperBound}
use Rattle.std.specs.List.{AllByRecursion}
use Rattle.std.specs.List.Sorted.{IsPermutation}
use Rattle.std.proofs.lemmas.List.Sorted.{length_permutation}
use Rattle.va_core.specs.declared.pair.Pair.{Pair}
use Rattle.va_core.specs.Ranking.{is_less, ascending, pair_cmp}
use Rattle.va_core.proofs.Ranking.{cmp_is_less, placed_last, all_ascending, ascending_in_order, ascending_permuted, length_ascending}

-- an upper bound is less than none of the pairs
pub less_than_none : (top : Pair) (l : List Pair) → IsUpperBound pair_cmp top l → AllByRecursion (λ q. is_less top q ≡ false) l
less_than_none top [] h = tt
less_than_none top (q ∷ l) h = (sym (cmp_is_less top q) ∙ h.0, less_than_none top l h.1)

-- and so it is the last in order
with_top : (top : Pair) (rest : List Pair) → IsUpperBound pair_cmp top rest → ascending (top ∷ rest) ≡ ascending rest ++ top ∷ []
with_top top rest h = placed_last top (ascending rest) (ascending_in_order rest) (all_ascending (λ q. is_less top q ≡ false) rest (less_than_none top rest h))

at_end : {X : Type 0} (l : List X) (x : X) → slice_get (l ++ x ∷ []) (length l) ≡ Some x
at_end [] x = refl
at_end (y ∷ l) x = at_end l x

pub top_is_last : (items : List Pair) (top : Pair) → 0 < length items → top ≡ get_or items 0 top → IsUpperBound pair_cmp top items → slice_get (ascending items) (length items - 1) ≡ Some top
top_is_last [] top h e bound = absurd (omega arith)
top_is_last (first ∷ rest) top h e bound =
    let place : suc (length rest) - 1 ≡ length (ascending rest) = let n : length (ascending rest) ≡ length rest = length_ascending rest in omega (arith, n) in
    let same : first ≡ top = sym e in
    rw (same, place, with_top top rest bound.1) (at_end (ascending rest) top)

-- without the top the others stay in order
pub without_top : (items rest : List Pair) (top : Pair) → IsPermutation items (top ∷ rest) → IsUpperBound pair_cmp top rest → ascending rest ≡ take (length items - 1) (ascending items)
without_top items rest top moved bound =
    let count : suc (length rest) ≡ length items = length_permutation items (top ∷ rest) moved in
    let others : length (ascending rest) ≡ length rest = length_ascending rest in
    sym (ap (take (length items - 1)) (sym (ascending_permuted items (top ∷ rest) moved) ∙ with_top top rest bound)
    ∙ take_at (ascending rest) (top ∷ []) (length items - 1) (omega (arith, count, others)))

-- in the words of `peek` and `pop`
pub peeked : (items : List Pair) (len : ℕ) (r : Option (Bor Pair)) → length items ≡ len → (IsSome r ↔ (0 < len)) → IfSome r (λ x. x.now ≡ get_or items 0 x.now) → IfSome r (λ x. IsUpperBound pair_cmp x.now items) →
    option_copied r ≡ slice_get (ascending items) (len - 1)
peeked [] len None count some top bound = refl
peeked (p ∷ items) len None count some top bound = let g : false ≡ true = some.1 (omega arith) in cc
peeked items len (Some x) count some top bound =
    let has : 0 < len = some.0 refl in
    sym (rw (sym count) (top_is_last items x.now (omega arith) top bound))

pub popped : (items rest : List Pair) (len : ℕ) (r : Option Pair) → length items ≡ len → (IsSome r ↔ (0 < len)) → 0 < len → IfSome r (λ x. IsPermutation items (x ∷ rest)) → IfSome r (λ x. IsUpperBound pair_cmp x rest) →
    ascending rest ≡ take (len - 1) (ascending items)
popped items rest len None count some has moved bound = let g : false ≡ true = some.1 has in cc
popped items rest len (Some x) count some has moved bound = rw (sym count) (without_top items rest x moved bound)
