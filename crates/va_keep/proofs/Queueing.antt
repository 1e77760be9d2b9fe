-- What the top of a heap is among the entries of a queue.
use Rattle.std.proofs.Common.{◌≡◌, ◌<◌, false, List, [], ◌∷◌, length, refl, ap, sym, subst, arith, is_lt, suc, get_or, Contains}
use Rattle.std.specs.BinaryHeap.{IsUpperBound}
use Rattle.std.specs.List.Sorted.{IsPermutation}
use Rattle.std.proofs.lemmas.List.Sorted.{IsPermutation-map}
use Rattle.std.proofs.lemmas.Bool.Decides.{nat_tests}
use Rattle.std.specs.declared.cmp.Reverse.{Reverse}
use Rattle.va_core.specs.Ranking.{is_less}
use Rattle.va_core.specs.Sorting.{IsFloor}
use Rattle.va_core.proofs.Members.{contains_first}
use Rattle.va_keep.specs.declared.entry.Entry.{Entry}
use Rattle.va_keep.specs.Queued.{entries_of, entry_cmp, back_cmp, low_pair}

pub moved : (items rest : List (Reverse Entry)) → IsPermutation items rest → IsPermutation (entries_of items) (entries_of rest)
moved items rest h = IsPermutation-map (λ (r : Reverse Entry). r.0) items rest h

not_before : (p q : Entry) → is_lt (entry_cmp q p) ≡ false → is_less (low_pair q) (low_pair p) ≡ false
not_before p q h = grind (arith, nat_tests, h)

-- the top of the heap has a least pair
pub top_is_least : (top : Reverse Entry) (rest : List (Reverse Entry)) → IsUpperBound back_cmp top rest → IsFloor low_pair top.0 (entries_of rest)
top_is_least top [] h = tt
top_is_least top (r ∷ rest) h = (not_before top.0 r.0 h.0, top_is_least top rest h.1)

pub count : (items : List (Reverse Entry)) → length (entries_of items) ≡ length items
count [] = refl
count (r ∷ items) = ap suc (count items)

pub first_in : (items : List (Reverse Entry)) (top : Reverse Entry) → 0 < length items → top ≡ get_or items 0 top → Contains (entries_of items) top.0
first_in [] top h e = absurd (omega arith)
first_in (r ∷ items) top h e = subst (λ (x : Reverse Entry). Contains (r.0 ∷ entries_of items) x.0) (sym e) (contains_first r.0 (entries_of items))
