-- What a queue holds.
use Rattle.std.specs.Prelude.{ℕ, ◌≤◌, Bool, List, length, map, nat_lt}
use Rattle.std.specs.BinaryHeap.{IsHeap}
use Rattle.std.specs.Ordering.{nat_cmp, ordering_then}
use Rattle.std.proofs.Common.{Ordering}
use Rattle.std.specs.declared.cmp.Reverse.{Reverse}
use Rattle.va_core.specs.Approximations.{Approximations, paired}
use Rattle.va_core.specs.declared.pair.Pair.{Pair}
use Rattle.va_core.specs.Ranking.{lesser}
use Rattle.va_keep.specs.Kept.{Kept}
use Rattle.va_keep.specs.declared.entry.Entry.{Entry}

-- entries in some order, and for how many there is room
pub record Queued : Type 0 where
  pub room : ℕ
  pub entries : List Entry

-- the least pair of the entry
abbrev pub low_pair : Entry → Pair
low_pair entry = paired entry.low entry.id

-- what an entry tells of its cell
abbrev pub entry_bounds : Approximations Entry
entry_bounds = record { name = λ e. e.id; low = λ e. e.low; high = λ e. e.high }

-- fewer of the pairs that are held are less than the entry's least pair than may be held
abbrev pub is_near_to : Kept → Entry → Bool
is_near_to kept entry = nat_lt (lesser kept.pairs (low_pair entry)) kept.most

abbrev pub entries_of : List (Reverse Entry) → List Entry
entries_of items = map (λ r. r.0) items

-- how entries are compared: by least distance, then by id, and by the rest
abbrev pub entry_cmp : Entry → Entry → Ordering
entry_cmp p q = ordering_then (nat_cmp p.low q.low) (ordering_then (nat_cmp p.id q.id) (ordering_then (nat_cmp p.high q.high) (nat_cmp p.place q.place)))

abbrev pub back_cmp : Reverse Entry → Reverse Entry → Ordering
back_cmp p q = entry_cmp q.0 p.0

-- the items of the heap are in its order, and there are no more than there is room for
pub record IsQueued (room : ℕ) (items : List (Reverse Entry)) (capacity : ℕ) : Type 0 where
  pub order : IsHeap back_cmp items
  pub few : length items ≤ room
  pub fits : room ≤ capacity
  pub number : room ≤ 4294967295
