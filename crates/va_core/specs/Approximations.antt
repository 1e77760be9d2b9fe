-- What is known of the members of a map without reading their vectors: the name of each, which ranks equal distances, and
-- the least and the greatest distance that it may have. X is the type of members: ids, items, the cells of a shelf, or the
-- rows of a certificate.
use Rattle.std.specs.Prelude.{◌≢◌, ℕ, Bool, ◌&&◌, ◌==◌, List, [], ◌∷◌, map, nat_lt, nat_le}
use Rattle.std.specs.List.{filter, AllByRecursion}
use Rattle.va_core.specs.declared.pair.Pair.{Pair}
use Rattle.va_core.specs.Ranking.{lesser}
use Rattle.va_core.specs.Sorting.{ascending_by}

pub record Approximations (X : Type 0) : Type 0 where
  pub name : X → ℕ
  pub low : X → ℕ
  pub high : X → ℕ

-- no two of the members have one name
abbrev pub NamesDiffer : {X : Type 0} → (X → ℕ) → List X → Type 0
NamesDiffer name [] = Unit {0}
NamesDiffer name (x ∷ members) = AllByRecursion (λ y. name y ≢ name x) members × NamesDiffer name members

abbrev pub paired : ℕ → ℕ → Pair
paired dist id = record { dist = dist; id = id }

-- the pairs of the members at these distances
abbrev pub pairs : {X : Type 0} → (X → ℕ) → (X → ℕ) → List X → List Pair
pairs name dist members = map (λ i. paired (dist i) (name i)) members

-- the distance isn't known without reading
abbrev pub is_wide : {X : Type 0} → Approximations X → X → Bool
is_wide s i = nat_lt (s.low i) (s.high i)

-- the least pair that the member may have
abbrev pub low_pair : {X : Type 0} → Approximations X → X → Pair
low_pair s i = paired (s.low i) (s.name i)

-- fewer than k of the pairs are less than the least pair of i
abbrev pub is_near : {X : Type 0} → Approximations X → List X → (X → ℕ) → ℕ → X → Bool
is_near s members dist k i = nat_lt (lesser (pairs s.name dist members) (low_pair s i)) k

-- needed for the k nearest
abbrev pub is_needed : {X : Type 0} → Approximations X → List X → (X → ℕ) → ℕ → X → Bool
is_needed s members dist k i = is_wide s i && is_near s members dist k i

-- what is needed for the k nearest, ascending by the least pairs
abbrev pub need : {X : Type 0} → Approximations X → List X → (X → ℕ) → ℕ → List X
need s members dist k = ascending_by (low_pair s) (filter (is_needed s members dist k) members)

-- needed for k + 1 pairs and not for k
abbrev pub is_next : {X : Type 0} → Approximations X → List X → (X → ℕ) → ℕ → X → Bool
is_next s members dist k i = is_wide s i && lesser (pairs s.name dist members) (low_pair s i) == k

abbrev pub need_next : {X : Type 0} → Approximations X → List X → (X → ℕ) → ℕ → List X
need_next s members dist k = ascending_by (low_pair s) (filter (is_next s members dist k) members)

-- needed for the pairs within a radius
abbrev pub is_needed_within : {X : Type 0} → Approximations X → ℕ → X → Bool
is_needed_within s radius i = is_wide s i && nat_le (s.low i) radius

-- what is needed for the pairs within a radius, in the order of the members
abbrev pub need_within : {X : Type 0} → Approximations X → List X → ℕ → List X
need_within s members radius = filter (is_needed_within s radius) members

-- fewer than k of the greatest pairs are less than the least pair of i
abbrev pub is_candidate : {X : Type 0} → Approximations X → List X → ℕ → X → Bool
is_candidate s members k i = is_near s members s.high k i

abbrev pub candidates : {X : Type 0} → Approximations X → List X → ℕ → List X
candidates s members k = filter (is_candidate s members k) members
