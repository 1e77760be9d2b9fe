use Rattle.std.proofs.Common.{take}
use Rattle.va_disk.specs.DiskModel.{SetsWritten}
use Rattle.va_disk.proofs.history.set_written.Given as goal

abbrev pub invariant-loop-range : goal.invariant-loop-range
invariant-loop-range l = SetsWritten l.fn.bytes (take l.range-index l.ranges) l.byte l.bytes
