-- The extremes of a part of a distance over the values of a slice.
use Rattle.std.specs.Prelude.{◌≡◌, ℕ, ◌≤◌}
use Rattle.va_core.specs.Parts.{least_part, greatest_part, least_value, greatest_value}
use Rattle.va_bound.specs.declared.entry.Entry.{Entry}

-- the least and the greatest p over a number and n that follow it, and the first that attain them
pub record IsExtreme (p : ℕ → ℕ) (first n : ℕ) (entry : Entry) : Type 0 where
  pub least : entry.least ≡ least_part p first n
  pub greatest : entry.greatest ≡ greatest_part p first n
  pub least_at : entry.least_at ≡ least_value p first n
  pub greatest_at : entry.greatest_at ≡ greatest_value p first n

-- a part over 16 objects is at most this
pub record IsSmall (entry : Entry) : Type 0 where
  pub least : entry.least ≤ 68182614000
  pub greatest : entry.greatest ≤ 68182614000
