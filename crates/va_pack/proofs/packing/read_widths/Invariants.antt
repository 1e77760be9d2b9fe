use Rattle.std.proofs.Common.{◌≡◌, ℕ, ◌+◌, ◌*◌, ◌^◌, ◌<◌, get_or}
use Rattle.va_core.specs.Shape.{bits_of}
use Rattle.va_pack.specs.Held.{AreHeld, HasRead}
use Rattle.va_pack.proofs.Strings.{bits_below, string_below}
use Rattle.va_pack.proofs.packing.read_widths.Given as goal

abbrev pub invariant-loop-dim : goal.invariant-loop-dim
invariant-loop-dim l = record {
  held : AreHeld l.held;
  place : 8 * l.held.at ≡ bits_below l.fn.shape l.dim + l.held.count;
  fit : (dim : ℕ) → dim < l.dim → get_or l.out dim 0 < 2 ^ bits_of l.fn.shape dim;
  read : HasRead l.held l.bytes (string_below l.fn.shape l.out l.dim);
}
