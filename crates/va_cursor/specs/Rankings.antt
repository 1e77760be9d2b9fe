-- Entries of cells that have distances: their ranking, and what is left of it once some pairs were given.
use Rattle.std.specs.Prelude.{◌≡◌, ℕ, ◌<◌, Bool, true, List, [], ◌∷◌, ◌++◌, length, nat_lt, filter, Contains}
use Rattle.std.specs.List.{AllByRecursion}
use Rattle.va_core.specs.declared.pair.Pair.{Pair}
use Rattle.va_core.specs.Approximations.{NamesDiffer, pairs}
use Rattle.va_core.specs.Ranking.{ascending, lesser}
use Rattle.va_core.specs.Sorting.{ascending_by, placed_by, IsInOrder}
use Rattle.va_keep.specs.Queued.{entry_bounds, low_pair}
use Rattle.va_keep.specs.declared.entry.Entry.{Entry}
use Rattle.va_ports.specs.Searches.{IsBetween}

-- its place and its id
abbrev pub cell_at : Entry → ℕ × ℕ
cell_at entry = (entry.place, entry.id)

abbrev pub id_at : Entry → ℕ
id_at entry = entry.id

-- the distance of the cell
abbrev pub distance_at : (ℕ × ℕ → ℕ) → Entry → ℕ
distance_at dist entry = dist (cell_at entry)

-- the distance isn't known without reading
abbrev pub is_wide : Entry → Bool
is_wide entry = nat_lt entry.low entry.high

abbrev pub pairs_at : (ℕ × ℕ → ℕ) → List Entry → List Pair
pairs_at dist entries = pairs id_at (distance_at dist) entries

-- the pairs in order
abbrev pub ranking : (ℕ × ℕ → ℕ) → List Entry → List Pair
ranking dist entries = ascending (pairs_at dist entries)

-- how many pairs are less than the least pair of the entry
abbrev pub ahead : (ℕ × ℕ → ℕ) → List Entry → Entry → ℕ
ahead dist entries entry = lesser (pairs_at dist entries) (low_pair entry)

abbrev pub LiesBetween : (ℕ × ℕ → ℕ) → Entry → Type 0
LiesBetween dist entry = IsBetween entry_bounds (distance_at dist) entry

-- the entry once its distance is known
abbrev pub settled : ℕ → Entry → Entry
settled dist entry = record { low = dist; id = entry.id; high = dist; place = entry.place }

-- These entries were read one by one: each was the first, and wide, and its distance lay between its bounds. It was put
-- back with the distance.
abbrev pub Reads : (ℕ × ℕ → ℕ) → List Entry → List Entry → List Entry → Type 0
Reads dist [] held held' = held' ≡ held
Reads dist (entry ∷ read) held held' =
    (rest : List Entry) × (held ≡ entry ∷ rest) × (is_wide entry ≡ true) × LiesBetween dist entry × Reads dist read (placed_by low_pair (settled (distance_at dist entry) entry) rest) held'

-- one of the entries has this cell, and these bounds if they are wide
pub record IsOf (entries : List Entry) (entry : Entry) : Type 0 where
  pub origin : Entry
  pub member : Contains entries origin
  pub cell : cell_at origin ≡ cell_at entry
  pub wide : is_wide entry ≡ true → origin ≡ entry

-- Of these entries r pairs were given, and some were read since the last of them. The others are held in the order of
-- their least pairs.
pub record Remains (dist : ℕ × ℕ → ℕ) (entries : List Entry) (r : ℕ) (since held : List Entry) : Type 0 where
  pub before : List Entry
  pub given : List Pair
  pub ranks : ranking dist entries ≡ given ++ ranking dist held
  pub count : length given ≡ r
  -- what was read before the last pair, what was read since, and what wasn't read are all wide entries in order
  pub queue : ascending_by low_pair (filter is_wide entries) ≡ before ++ (since ++ filter is_wide held)
  pub past : AllByRecursion (λ e. ahead dist entries e < r) before
  pub present : AllByRecursion (λ e. ahead dist entries e ≡ r) since
  pub beyond : AllByRecursion (λ e. lesser given (low_pair e) ≡ r) held
  pub order : IsInOrder low_pair held
  pub between : AllByRecursion (LiesBetween dist) held
  pub differ : NamesDiffer id_at held
  pub of : AllByRecursion (IsOf entries) held
  pub idle : held ≡ [] → since ≡ []
