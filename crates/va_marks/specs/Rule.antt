-- The rule of the marks, in the words of the counts.
use Rattle.std.specs.Prelude.{ℕ, ◌+◌, ◌*◌, ◌-◌, ◌/◌, ◌^◌, ◌<◌, ◌≤◌, ◌==◌, nat_lt, if◌then◌else◌, List, sum, map, take}
use Rattle.std.specs.List.{range_with_len}
use Rattle.va_core.specs.Marks.{least_from}

-- how many coordinates are at most v, by how often each value stands among them
abbrev pub up_to : ℕ → List ℕ → ℕ
up_to v counts = sum (take (v + 1) counts)

-- v is the first value up to which there are more than `rank` coordinates
pub record IsFirstOver (counts : List ℕ) (rank v : ℕ) : Type 0 where
  pub a_value : v < 256
  pub over : rank < up_to v counts
  pub first : (w : ℕ) → w < v → up_to w counts ≤ rank

-- mark t of a dimension of b bits in which so many coordinates were added, by the counts of the values
abbrev pub mark_by : ℕ → ℕ → List ℕ → ℕ → ℕ
mark_by b added counts t =
    if t == 0 then 0
    else (if t == 2 ^ b then 256
    else (if added == 0 then t * 2 ^ (8 - b)
    else least_from (λ v. nat_lt (t * added / 2 ^ b) (up_to v counts)) 256 0))

-- all marks of the dimension
unfoldable pub row_by : ℕ → ℕ → List ℕ → List ℕ
row_by b added counts = map (mark_by b added counts) (range_with_len 0 (2 ^ b + 1))
