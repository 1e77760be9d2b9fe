use Rattle.std.proofs.Common.{◌-◌, ◌≡◌, ◌+◌, ◌≤◌, List, ℕ, max, replicate}
use Rattle.va_disk.specs.Crashes.{Holds, Torn, Follows}
use Rattle.va_disk.specs.Frames.{OnlyWrites}
use Rattle.va_gate.proofs.filling.fill.Given as goal

abbrev pub invariant-loop-done : goal.invariant-loop-done
invariant-loop-done g l =
    let D = g.D.Storage in
    record {
      in_range : l.done ≤ l.len;
      written : D.told → Holds (D.image l.fn.disk) l.at (replicate l.done l.byte) (D.image l.disk);
      size : D.size l.disk ≡ max (D.size l.fn.disk) (l.at + l.done);
      crash : D.honest → Follows (Torn l.at l.done) (D.may_leave l.fn.disk) (D.may_leave l.disk);
      stayed : D.faults l.disk ≡ D.faults l.fn.disk;
      frame : OnlyWrites D l.fn.disk l.disk (λ c. (d : List ℕ) × D.may_leave l.fn.disk d × Torn l.at l.done d c);
    }

abbrev pub decreases-loop-done : goal.decreases-loop-done
decreases-loop-done g l = l.len - l.done
