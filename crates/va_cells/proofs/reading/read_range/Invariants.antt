use Rattle.std.proofs.Common.{◌≡◌, ◌+◌, ◌-◌, ◌≤◌, length, take}
use Rattle.va_disk.specs.Frames.{OnlyReads}
use Rattle.va_layout.specs.Parts.{part}
use Rattle.va_cells.specs.Reads.{ReadsRange}
use Rattle.va_cells.proofs.reading.read_range.Given as goal

abbrev pub invariant-loop-done : goal.invariant-loop-done
invariant-loop-done g l =
    let D = g.D.Storage in
    record {
      in_range : l.done ≤ length l.out;
      filled : D.told → take l.done l.out ≡ part l.at l.done (D.image l.fn.disk);
      reads : ReadsRange D 4096 (l.at + length l.fn.out) l.at (l.at + l.done) l.fn.disk l.disk;
      stayed : D.faults l.disk ≡ D.faults l.fn.disk;
      frame : OnlyReads D l.fn.disk l.disk;
    }

abbrev pub decreases-loop-done : goal.decreases-loop-done
decreases-loop-done g l = length l.out - l.done
