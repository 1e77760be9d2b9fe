use Rattle.std.proofs.Common.{◌≡◌, ◌*◌, ◌≤◌, get_or}
use Rattle.va_core.specs.Shape.{sum_below}
use Rattle.va_bound.specs.Tables.{entry_at}
use Rattle.va_bound.proofs.bounds.Bounds.both.Given as goal

abbrev pub invariant-loop-dim : goal.invariant-loop-dim
invariant-loop-dim l = record {
  low : l.low ≡ sum_below (λ dim. (entry_at l.self dim (get_or l.codes dim 0)).least) l.dim;
  high : l.high ≡ sum_below (λ dim. (entry_at l.self dim (get_or l.codes dim 0)).greatest) l.dim;
  most_low : l.low ≤ l.dim * 68182614000;
  most_high : l.high ≤ l.dim * 68182614000;
}
