use Rattle.std.proofs.Common.{◌≡◌, ◌+◌, List, ℕ, take}
use Rattle.va_core.specs.MarkBytes.{marks_bytes, row_begin}
use Rattle.va_disk.specs.Crashes.{Follows}
use Rattle.va_disk.specs.Frames.{OnlyWrites}
use Rattle.va_layout.specs.Fields.{marks_range}
use Rattle.va_layout.specs.Layout.{marks_at}
use Rattle.va_layout.specs.Parts.{KeepsRest, part}
use Rattle.va_cells.proofs.writing.put_marks.Given as goal

abbrev pub invariant-loop-dim : goal.invariant-loop-dim
invariant-loop-dim g l =
    let D = g.D.Storage in
    let shape = l.layout in
    record {
      place : l.at ≡ marks_at shape l.fn.region + row_begin shape l.dim;
      written : D.told → part (marks_at shape l.fn.region) (row_begin shape l.dim) (D.image l.disk) ≡ marks_bytes (take l.dim l.marks);
      rest : D.told → KeepsRest (marks_range shape l.fn.region) (D.image l.fn.disk) (D.image l.disk);
      crash : D.honest → Follows (KeepsRest (marks_range shape l.fn.region)) (D.may_leave l.fn.disk) (D.may_leave l.disk);
      frame : OnlyWrites D l.fn.disk l.disk (λ c. (d : List ℕ) × D.may_leave l.fn.disk d × KeepsRest (marks_range shape l.fn.region) d c);
      size : D.size l.disk ≡ D.size l.fn.disk;
      stayed : D.faults l.disk ≡ D.faults l.fn.disk;
    }
