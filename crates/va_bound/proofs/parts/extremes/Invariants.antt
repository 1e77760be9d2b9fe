use Rattle.std.proofs.Common.{◌-◌, ◌≤◌}
use Rattle.va_core.specs.DistanceParts.{part_of}
use Rattle.va_bound.specs.Extremes.{IsExtreme, IsSmall}
use Rattle.va_bound.proofs.parts.extremes.Given as goal

abbrev pub invariant-loop-at : goal.invariant-loop-at
invariant-loop-at l = record {
  from : l.first ≤ l.at;
  upto : l.at ≤ l.last;
  extreme : IsExtreme (part_of l.query l.dim) l.at (l.last - l.at) l.entry;
  small : IsSmall l.entry;
}

abbrev pub decreases-loop-at : goal.decreases-loop-at
decreases-loop-at l = l.at - l.first
