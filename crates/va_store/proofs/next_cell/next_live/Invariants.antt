use Rattle.std.proofs.Common.{◌≡◌, ◌-◌, length}
use Rattle.va_store.specs.Shelved.{ScansOn, left_of}
use Rattle.va_store.proofs.next_cell.next_live.Given as goal

abbrev pub invariant-loop-place : goal.invariant-loop-place
invariant-loop-place g l =
    let D = g.D.Storage in
    record {
      left : left_of l.store ≡ left_of l.fn.store;
      scan : ScansOn D l.fn.store l.fn.disk l.store l.disk;
      unchanged : l.store.changed ≡ l.fn.store.changed;
      code_length : length l.code ≡ length l.fn.code;
      quiet : D.faults l.disk ≡ D.faults l.fn.disk;
    }

abbrev pub decreases-loop-place : goal.decreases-loop-place
decreases-loop-place g l = l.fn.store.shape.capacity - l.store.scan.place
