-- What contracts say of a world with a byte that changes.
use Rattle.std.specs.Prelude.{ℕ, Bool}
use Rattle.va_disk.specs.declared.loose.Loose.{Loose}
use Rattle.va_disk.specs.declared.world.World.{World}

-- the world that each call is passed on to
abbrev pub world : Loose → World
world loose = loose.world

-- where the byte stands that changes
abbrev pub at : Loose → ℕ
at loose = loose.at

-- what that byte is read as once something was given
abbrev pub value : Loose → ℕ
value loose = loose.value

-- whether anything was given yet
abbrev pub has_given : Loose → Bool
has_given loose = loose.has_given
