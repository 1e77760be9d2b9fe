-- Codes in which each slice has half a byte.
use Rattle.std.specs.Prelude.{◌≡◌, ℕ, ◌+◌, ◌*◌, ◌/◌, ◌%◌, ◌<◌, List, length, get_or}

-- the slices are the halves of the bytes, the higher half of each first
pub record AreHalves (bytes slices : List ℕ) : Type 0 where
  pub high : (at : ℕ) → 2 * at < length slices → get_or slices (2 * at) 0 ≡ get_or bytes at 0 / 16
  pub low : (at : ℕ) → 2 * at + 1 < length slices → get_or slices (2 * at + 1) 0 ≡ get_or bytes at 0 % 16
