use Rattle.std.proofs.Common.{◌≡◌, ◌*◌, drop}
use Rattle.va_maker.specs.Kept.{kept_in, kept_of}
use Rattle.va_maker.proofs.kept.KeptVectors.vector_of.Given as goal

abbrev pub invariant-loop-position : goal.invariant-loop-position
invariant-loop-position l =
    kept_of l.self.vectors l.place
    ≡ kept_of (kept_in l.self-inside.dims (drop l.position l.self-inside.places.items) (drop (l.position * l.self-inside.dims) l.self-inside.bytes.items)) l.place
