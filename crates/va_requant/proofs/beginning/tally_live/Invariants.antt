use Rattle.va_requant.proofs.Tallying.{Tallied}
use Rattle.va_requant.proofs.beginning.tally_live.Given as goal

abbrev pub invariant-loop : goal.invariant-loop
invariant-loop g l = Tallied g.D.Storage l.fn.store l.fn.disk l.counter l.after l.store l.disk l.tally l.vector
