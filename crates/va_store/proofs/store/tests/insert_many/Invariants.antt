use Rattle.std.proofs.Common.{◌≡◌, length}
use Rattle.va_disk.specs.World.{image}
use Rattle.va_store.specs.Known.{FitsDisk}
use Rattle.va_store.proofs.store.tests.insert_many.Given as goal

abbrev pub invariant-loop-number : goal.invariant-loop-number
invariant-loop-number l = record {
  fits : FitsDisk (Unit {0}) l.store (length (image l.world)) (image l.world);
  held : length l.held ≡ l.store.shape.capacity;
}
