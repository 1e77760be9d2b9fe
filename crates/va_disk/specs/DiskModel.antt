-- The disk model, without the order of the writes, and the outcome that has one value wherever was written.
use Rattle.std.specs.Prelude.{◌≡◌, ◌⊎◌, ℕ, ◌+◌, ◌<◌, ◌≤◌, List, [], ◌∷◌, length, get_or}

-- one of the ranges has the byte at this place
abbrev pub IsWritten : List (ℕ × ℕ) → ℕ → Type 0
IsWritten [] place = ⊥
IsWritten (range ∷ others) place = ((range.0 ≤ place) × (place < range.0 + range.1)) ⊎ IsWritten others place

-- The stable image survives outside the ranges that were written since the last sync. What was written and what is
-- past the stable end may hold anything, and the length lies between the least and the greatest since then.
pub record KeepsModel (stable : List ℕ) (ranges : List (ℕ × ℕ)) (greatest : ℕ) (outcome : List ℕ) : Type 0 where
  pub no_shorter : length stable ≤ length outcome
  pub no_longer : length outcome ≤ greatest
  pub stays : (place : ℕ) → place < length stable → ¬ IsWritten ranges place → get_or outcome place 0 ≡ get_or stable place 0

-- the image with each byte of the ranges set to this value
pub record SetsWritten (image : List ℕ) (ranges : List (ℕ × ℕ)) (byte : ℕ) (outcome : List ℕ) : Type 0 where
  pub size : length outcome ≡ length image
  pub written : (place : ℕ) → place < length image → IsWritten ranges place → get_or outcome place 0 ≡ byte
  pub others : (place : ℕ) → place < length image → ¬ IsWritten ranges place → get_or outcome place 0 ≡ get_or image place 0

-- each range ends inside that length
abbrev pub AreWithin : ℕ → List (ℕ × ℕ) → Type 0
AreWithin size [] = Unit {0}
AreWithin size (range ∷ others) = (range.0 + range.1 ≤ size) × AreWithin size others
