use Rattle.std.proofs.Common.{◌≡◌}
use Rattle.va_pack.specs.Held.{AreHeld, bits_before, written}
use Rattle.va_pack.proofs.Strings.{bits_below, string_below}
use Rattle.va_pack.proofs.packing.pack.Given as goal

abbrev pub invariant-loop-dim : goal.invariant-loop-dim
invariant-loop-dim l = record {
  held : AreHeld l.held;
  place : bits_before l.held ≡ bits_below l.fn.shape l.dim;
  written : written l.held l.out ≡ string_below l.fn.shape l.codes l.dim;
}
