use Rattle.std.proofs.Common.{◌≡◌, take}
use Rattle.va_maker.proofs.copies.objects_of.Given as goal

abbrev pub invariant-loop-i : goal.invariant-loop-i
invariant-loop-i l = l.objects.items ≡ take l.i l.query.objects
