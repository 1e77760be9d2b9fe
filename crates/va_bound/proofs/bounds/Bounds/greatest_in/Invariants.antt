use Rattle.std.proofs.Common.{◌≡◌, ◌<◌, ℕ, get_or}
use Rattle.va_bound.specs.Tables.{entry_at}
use Rattle.va_bound.proofs.bounds.Bounds.greatest_in.Given as goal

abbrev pub invariant-loop-dim : goal.invariant-loop-dim
invariant-loop-dim l = (dim : ℕ) → dim < l.dim → get_or l.out dim 0 ≡ (entry_at l.self dim (get_or l.codes dim 0)).greatest_at
