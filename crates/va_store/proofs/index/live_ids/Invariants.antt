use Rattle.std.proofs.Common.{◌≡◌, ◌≤◌, length, take, vec_capacity}
use Rattle.va_store.specs.Index.{listed}
use Rattle.va_store.proofs.index.live_ids.Given as goal

abbrev pub invariant-loop-place : goal.invariant-loop-place
invariant-loop-place l = record {
  items : l.entries.items ≡ listed 0 (take l.place l.ids);
  room : length l.ids ≤ vec_capacity l.entries;
}
