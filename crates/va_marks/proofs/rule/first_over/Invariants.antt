use Rattle.std.proofs.Common.{◌-◌, ◌≡◌, ℕ, ◌<◌, ◌≤◌}
use Rattle.va_marks.specs.Rule.{up_to}
use Rattle.va_marks.proofs.rule.first_over.Given as goal

abbrev pub invariant-loop-found : goal.invariant-loop-found
invariant-loop-found l = record {
  a_value : l.value < 256;
  found : l.found ≡ up_to l.value l.counts;
  below : (v : ℕ) → v < l.value → up_to v l.counts ≤ l.rank;
}

abbrev pub decreases-loop-found : goal.decreases-loop-found
decreases-loop-found l = 256 - l.value
