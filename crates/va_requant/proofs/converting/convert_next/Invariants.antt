use Rattle.va_requant.proofs.Advancing.{Converts}
use Rattle.va_requant.proofs.converting.convert_next.Given as goal

abbrev pub invariant-loop : goal.invariant-loop
invariant-loop g l = Converts g.D.Storage l.fn.store l.fn.disk l.counter l.after l.store l.disk
