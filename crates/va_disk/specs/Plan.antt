-- Which calls of a world or a feed fail, and how their counts rise.
use Rattle.std.specs.Prelude.{◌≡◌, Result, OnOk, OnErr, ℕ, ◌+◌, ◌-◌, ◌^◌, min, Bool, false, ◌||◌, ◌==◌, nat_le, List, Option, Some, None}
use Rattle.std.specs.List.{list_any}

-- one more, or the last value of a counter
abbrev pub raised : ℕ → ℕ
raised count = min (count + 1) (2 ^ 64 - 1)

-- the stop isn't after the call
abbrev pub is_stopped : Option ℕ → ℕ → Bool
is_stopped None call = false
is_stopped (Some stop) call = nat_le stop call

abbrev pub fails_at : List ℕ → Option ℕ → ℕ → Bool
fails_at fails stop call = is_stopped stop call || list_any (λ (n : ℕ). n == call) fails

-- The count rises by one with a failure, and else not.
pub record Counted {T E : Type 0} (before now : ℕ) (result : Result T E) : Type 0 where
  pub ok : OnOk result (now ≡ before)
  pub err : OnErr result (now ≡ raised before)
