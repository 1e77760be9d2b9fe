-- Vectors that are kept by the places that they were fetched of.
use Rattle.std.specs.Prelude.{◌≡◌, ℕ, ◌*◌, ◌≤◌, ◌==◌, List, [], ◌∷◌, length, take, drop, Option, None, Some, if◌then◌else◌}

-- at most so many places, each with its vector of `dims` bytes
pub record Kept : Type 0 where
  pub dims : ℕ
  pub most : ℕ
  pub vectors : List (ℕ × List ℕ)

-- places with vectors that stand one after another
abbrev pub kept_in : ℕ → List ℕ → List ℕ → List (ℕ × List ℕ)
kept_in dims [] bytes = []
kept_in dims (place ∷ places) bytes = (place, take dims bytes) ∷ kept_in dims places (drop dims bytes)

-- the vector of a place, if one was kept
abbrev pub kept_of : List (ℕ × List ℕ) → ℕ → Option (List ℕ)
kept_of [] place = None
kept_of (kept ∷ vectors) place = if kept.0 == place then Some kept.1 else kept_of vectors place

-- the bytes are those of so many vectors, and there is room for all that may come
pub record HasRoom (dims most : ℕ) (places bytes : List ℕ) (room_places room_bytes : ℕ) : Type 0 where
  pub filled : length bytes ≡ length places * dims
  pub few : length places ≤ most
  pub all_places : most ≤ room_places
  pub all_bytes : most * dims ≤ room_bytes
