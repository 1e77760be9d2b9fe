-- The order of pairs, and the answer to a nearest search: all pairs are ranked, and those stay that
-- have fewer than k lesser ones.
use Rattle.std.specs.Prelude.{◌≡◌, ◌≢◌, ℕ, ◌+◌, Bool, true, List, [], ◌∷◌, ◌&&◌, ◌||◌, ◌==◌, nat_lt, nat_le, filter, if◌then◌else◌}
use Rattle.std.specs.List.{AllByRecursion}
use Rattle.std.specs.Ordering.{nat_cmp, ordering_then}
use Rattle.std.proofs.Common.{Ordering}
use Rattle.va_core.specs.declared.pair.Pair.{Pair}

-- nearer, or as near and with a smaller id
abbrev pub is_less : Pair → Pair → Bool
is_less p q = nat_lt p.dist q.dist || (p.dist == q.dist && nat_lt p.id q.id)

-- how the code compares pairs
abbrev pub pair_cmp : Pair → Pair → Ordering
pair_cmp p q = ordering_then (nat_cmp p.dist q.dist) (nat_cmp p.id q.id)

-- how many of the pairs are less than p
abbrev pub lesser : List Pair → Pair → ℕ
lesser [] p = 0
lesser (q ∷ pairs) p = (if is_less q p then 1 else 0) + lesser pairs p

-- an ascending list with p in its place
abbrev pub placed : Pair → List Pair → List Pair
placed p [] = p ∷ []
placed p (q ∷ pairs) = if is_less q p then q ∷ placed p pairs else p ∷ (q ∷ pairs)

abbrev pub ascending : List Pair → List Pair
ascending [] = []
ascending (p ∷ pairs) = placed p (ascending pairs)

-- the ascending list of the pairs that have fewer than k lesser pairs
abbrev pub answer : List Pair → ℕ → List Pair
answer pairs k = ascending (filter (λ p. nat_lt (lesser pairs p) k) pairs)

-- the ascending list of the pairs whose distance is at most the radius
abbrev pub within : List Pair → ℕ → List Pair
within pairs radius = ascending (filter (λ p. nat_le p.dist radius) pairs)

-- p is none of the pairs
abbrev pub IsAbsent : Pair → List Pair → Type 0
IsAbsent p pairs = AllByRecursion (λ q. p ≢ q) pairs

-- no two of the pairs are the same
abbrev pub AllDiffer : List Pair → Type 0
AllDiffer [] = Unit {0}
AllDiffer (p ∷ pairs) = IsAbsent p pairs × AllDiffer pairs

-- p is less than each of the pairs
abbrev pub IsBelow : Pair → List Pair → Type 0
IsBelow p pairs = AllByRecursion (λ q. is_less p q ≡ true) pairs

-- each pair is less than every pair after it
abbrev pub IsAscending : List Pair → Type 0
IsAscending [] = Unit {0}
IsAscending (p ∷ pairs) = IsBelow p pairs × IsAscending pairs
