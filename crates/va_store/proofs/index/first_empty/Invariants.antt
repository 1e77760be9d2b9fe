use Rattle.va_store.specs.Index.{IsFilledTo}
use Rattle.va_store.proofs.index.first_empty.Given as goal

abbrev pub invariant-loop-place : goal.invariant-loop-place
invariant-loop-place l = IsFilledTo l.place l.ids
