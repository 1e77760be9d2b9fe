use Rattle.std.proofs.Common.{◌≡◌, ◌+◌, ◌*◌, length, vec_capacity}
use Rattle.std.specs.List.{AllByRecursion}
use Rattle.va_bound.specs.Extremes.{IsSmall}
use Rattle.va_bound.specs.Tables.{AreRight}
use Rattle.va_bound.proofs.making.push_row.Given as goal

abbrev pub invariant-loop-slice : goal.invariant-loop-slice
invariant-loop-slice l = record {
  place : length l.entries.items ≡ l.fn.dim * l.fn.slices + l.slice;
  room : vec_capacity l.entries ≡ vec_capacity l.initial.entries;
  right : AreRight l.fn.marks l.fn.query l.fn.slices l.entries.items;
  small : AllByRecursion IsSmall l.entries.items;
}
