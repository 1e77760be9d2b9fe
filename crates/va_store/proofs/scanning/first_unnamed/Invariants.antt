use Rattle.std.proofs.Common.{◌≡◌, ℕ, Some, None, get_or, ◌-◌, ◌<◌}
use Rattle.va_cells.specs.Scans.{Agrees, ReadsPieces}
use Rattle.va_disk.specs.Frames.{OnlyReads}
use Rattle.va_layout.specs.Fields.{NamesCell, code_in}
use Rattle.va_store.proofs.scanning.first_unnamed.Given as goal

abbrev pub invariant-loop-place : goal.invariant-loop-place
invariant-loop-place g l =
    let D = g.D.Storage in
    record {
      shape : l.pages.shape ≡ l.fn.shape;
      region : l.pages.region ≡ l.fn.pages.region;
      agrees : D.told → Agrees l.pages (D.image l.disk);
      named : D.told → (q id : ℕ) → q < l.pages.place → get_or l.index q None ≡ Some id → NamesCell l.fn.shape l.marks (code_in l.fn.shape l.fn.pages.region q (D.image l.fn.disk));
      pieces : ReadsPieces D l.fn.pages.shape l.fn.pages.region l.fn.pages.end l.pages.end l.fn.disk l.disk;
      frame : OnlyReads D l.fn.disk l.disk;
      quiet : D.faults l.disk ≡ D.faults l.fn.disk;
    }

abbrev pub decreases-loop-place : goal.decreases-loop-place
decreases-loop-place g l = l.fn.shape.capacity - l.pages.place
