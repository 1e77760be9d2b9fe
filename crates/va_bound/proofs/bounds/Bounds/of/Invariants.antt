use Rattle.std.proofs.Common.{◌≡◌, ◌*◌, ◌≤◌, length, vec_capacity}
use Rattle.std.specs.List.{AllByRecursion}
use Rattle.va_bound.specs.Extremes.{IsSmall}
use Rattle.va_bound.specs.Tables.{AreRight}
use Rattle.va_bound.proofs.bounds.Bounds.of.Given as goal

abbrev pub invariant-loop-dim : goal.invariant-loop-dim
invariant-loop-dim l = record {
  place : length l.entries.items ≡ l.dim * l.slices;
  room : l.dims * l.slices ≤ vec_capacity l.entries;
  right : AreRight l.marks l.query l.slices l.entries.items;
  small : AllByRecursion IsSmall l.entries.items;
}
