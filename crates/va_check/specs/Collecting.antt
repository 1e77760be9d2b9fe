-- The bytes of a source, taken to its end.
use Rattle.std.specs.Prelude.{◌≡◌, ℕ, ◌<◌, ◌≤◌, List, [], length}
use Rattle.va_check.specs.declared.judging.Cut.{Cut}
use Rattle.va_check.specs.declared.judging.Cut.TheVariants as cuts
use Rattle.va_check.specs.Judging.{limit}

pub record Collects (old bytes new : List ℕ) : Type 0 where
  pub all : old ≡ bytes
  pub few : length bytes ≤ limit
  pub end : new ≡ []

abbrev pub CutShort : Cut → List ℕ → Type 0
CutShort cuts.ReadFault old = Unit {0}
CutShort cuts.TooLong old = limit < length old
CutShort cuts.Memory old = Unit {0}
