use Rattle.std.proofs.Common.{◌≡◌, length, ◌-◌, ◌≤◌, take}
use Rattle.va_disk.specs.Frames.{OnlyGives}
use Rattle.va_disk.specs.Told.{Gives}
use Rattle.va_disk.proofs.desk.give_all.Given as goal

abbrev pub invariant-loop-done : goal.invariant-loop-done
invariant-loop-done g l =
    let D = g.D.Storage in
    record {
      in_range : l.done ≤ length l.bytes;
      given : Gives D.told (D.given l.fn.desk) (take l.done l.bytes) (D.given l.desk);
      frame : OnlyGives D l.bytes l.fn.desk l.desk;
      stayed : D.sink_faults l.desk ≡ D.sink_faults l.fn.desk;
    }

abbrev pub decreases-loop-done : goal.decreases-loop-done
decreases-loop-done g l = length l.bytes - l.done
