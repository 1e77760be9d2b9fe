-- Vectors: a byte for each dimension.
use Rattle.std.specs.Prelude.{◌≡◌, ℕ, ◌<◌, List, length}
use Rattle.std.specs.List.{AllByRecursion}

-- numbers from 0 to 255
abbrev pub AreBytes : List ℕ → Type 0
AreBytes numbers = AllByRecursion (λ n. n < 256) numbers

-- so many numbers, each a byte
pub record IsVector (dims : ℕ) (vector : List ℕ) : Type 0 where
  pub one_each : length vector ≡ dims
  pub bytes : AreBytes vector
