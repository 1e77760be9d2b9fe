use Rattle.std.proofs.Common.{◌≡◌, ◌+◌, length}
use Rattle.va_disk.specs.Told.{Takes}
use Rattle.va_serve.proofs.importing.take_all.Given as goal

abbrev pub invariant-loop-left : goal.invariant-loop-left
invariant-loop-left g l =
    let S = g.S.Source in
    record {
      taken : Takes S.told (S.left l.fn.source) l.bytes.items (S.left l.source);
      room : l.left + length l.bytes.items ≡ l.limit;
      quiet : S.faults l.source ≡ S.faults l.fn.source;
    }

abbrev pub decreases-loop-left : goal.decreases-loop-left
decreases-loop-left g l = l.left
