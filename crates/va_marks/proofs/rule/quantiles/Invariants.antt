use Rattle.std.proofs.Common.{◌≡◌, ℕ, ◌*◌, ◌/◌, ◌^◌, ◌<◌, ◌≤◌, map}
use Rattle.std.specs.List.{range_with_len}
use Rattle.va_marks.specs.Rule.{up_to, mark_by}
use Rattle.va_marks.proofs.rule.quantiles.Given as goal

abbrev pub invariant-loop-t : goal.invariant-loop-t
invariant-loop-t l = record {
  a_value : l.value < 256;
  found : l.found ≡ up_to l.value l.counts;
  below : (v : ℕ) → v < l.value → up_to v l.counts ≤ l.t * l.fn.added / 2 ^ l.fn.bits;
  so_far : l.marks.items ≡ map (mark_by l.fn.bits l.fn.added l.counts) (range_with_len 0 l.t);
}
