use Rattle.std.proofs.Common.{◌≡◌, ◌≤◌, length, take, filter}
use Rattle.va_keep.specs.Queued.{entries_of, is_near_to}
use Rattle.va_keep.proofs.queue.Queue.count_near.Given as goal

abbrev pub invariant-loop-entry : goal.invariant-loop-entry
invariant-loop-entry l = record {
  counted : l.count ≡ length (filter (is_near_to l.keep) (entries_of (take l.entry-index l.entry-items)));
  few : l.count ≤ l.entry-index;
}
