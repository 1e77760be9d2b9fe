use Rattle.std.proofs.Common.{◌≡◌, ◌*◌, ◌≤◌, get_or}
use Rattle.va_core.specs.Shape.{sum_below}
use Rattle.va_bound.specs.Tables.{entry_at}
use Rattle.va_bound.proofs.bounds.Bounds.high.Given as goal

abbrev pub invariant-loop-dim : goal.invariant-loop-dim
invariant-loop-dim l = record {
  sum : l.total ≡ sum_below (λ dim. (entry_at l.self dim (get_or l.codes dim 0)).greatest) l.dim;
  most : l.total ≤ l.dim * 68182614000;
}
