use Rattle.std.proofs.Common.{◌≡◌, take}
use Rattle.va_model.specs.Searching.{weights_of}
use Rattle.va_serve.proofs.query.query_of.Given as goal

-- so many objects were taken
abbrev pub invariant-loop-i : goal.invariant-loop-i
invariant-loop-i l = l.query ≡ record { objects = take l.i l.room.objects; weights = weights_of l.dims l.room.weights }
