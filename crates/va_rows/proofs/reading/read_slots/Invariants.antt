use Rattle.std.proofs.Common.{◌≡◌, ◌≤◌, ◌-◌}
use Rattle.va_disk.specs.Frames.{OnlyReads}
use Rattle.va_rows.specs.Slots.{HoldsSlots, ReadsSlots}
use Rattle.va_rows.proofs.reading.read_slots.Given as goal

abbrev pub invariant-loop-done : goal.invariant-loop-done
invariant-loop-done g l =
    let D = g.D.Storage in
    record {
      in_range : l.done ≤ l.capacity;
      slots : D.told → HoldsSlots l.done (D.image l.fn.disk) l.out;
      reads : D.told → ReadsSlots l.layout.capacity (D.reads l.fn.disk) (D.reads l.disk);
      stayed : D.faults l.disk ≡ D.faults l.fn.disk;
      frame : OnlyReads D l.fn.disk l.disk;
    }

abbrev pub decreases-loop-done : goal.decreases-loop-done
decreases-loop-done g l = l.capacity - l.done
