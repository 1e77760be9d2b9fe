use Rattle.std.proofs.Common.{◌<◌, ℕ}
use Rattle.va_store.specs.Ids.{IsFree}
use Rattle.va_store.proofs.index.first_free_from.Given as goal

abbrev pub invariant-loop-place : goal.invariant-loop-place
invariant-loop-place l = (place : ℕ) → place < l.place → IsFree place l.ids l.held → ⊥
