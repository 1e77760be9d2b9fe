-- Tables of the parts of a distance.
use Rattle.std.specs.Prelude.{◌≡◌, ℕ, ◌+◌, ◌*◌, ◌/◌, ◌%◌, ◌<◌, ◌≤◌, List, length, get_or}
use Rattle.std.specs.List.{AllByRecursion}
use Rattle.va_core.specs.DistanceParts.{part_at}
use Rattle.va_cert.specs.declared.certificate.Certificate.{Certificate}

-- each object has a number in the dimension
abbrev pub HaveNumbers : ℕ → List (List ℕ) → Type 0
HaveNumbers dim objects = AllByRecursion (λ o. dim < length o) objects

-- the part of a value in a dimension, in a table of them
abbrev pub in_table : List ℕ → ℕ → ℕ → ℕ
in_table parts dim v = get_or parts (dim * 256 + v) 0

-- the part that stands at a place
abbrev pub part_number : Certificate → ℕ → ℕ
part_number c at = part_at (get_or c.weights (at / 256) 0) (at / 256) c.objects (at % 256)

pub record IsTable (c : Certificate) (parts : List ℕ) : Type 0 where
  pub len : length parts ≡ length c.weights * 256
  pub number : (at : ℕ) → at < length c.weights * 256 → get_or parts at 0 ≡ part_number c at
  pub small : (at : ℕ) → at < length c.weights * 256 → get_or parts at 0 ≤ 16 * (65535 * 65025)
