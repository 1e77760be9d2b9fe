use Rattle.std.proofs.Common.{◌≡◌, drop}
use Rattle.va_model.specs.Searching.{have_length}
use Rattle.va_serve.proofs.query.objects_fit.Given as goal

-- what is left decides
abbrev pub invariant-loop-i : goal.invariant-loop-i
invariant-loop-i l = have_length l.dims l.room.objects ≡ have_length l.dims (drop l.i l.room.objects)
