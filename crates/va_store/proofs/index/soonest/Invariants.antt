use Rattle.va_store.specs.Index.{IsSoonest}
use Rattle.va_store.proofs.index.soonest.Given as goal

abbrev pub invariant-loop-at : goal.invariant-loop-at
invariant-loop-at l = IsSoonest l.at l.entries l.found
