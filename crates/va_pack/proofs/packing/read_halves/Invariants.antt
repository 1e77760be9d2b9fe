use Rattle.std.proofs.Common.{◌≡◌, ℕ, ◌+◌, ◌*◌, ◌/◌, ◌%◌, ◌<◌, get_or}
use Rattle.va_pack.proofs.packing.read_halves.Given as goal

abbrev pub invariant-loop-at : goal.invariant-loop-at
invariant-loop-at l = record {
  high : (at : ℕ) → at < l.at → get_or l.out (2 * at) 0 ≡ get_or l.bytes at 0 / 16;
  low : (at : ℕ) → at < l.at → get_or l.out (2 * at + 1) 0 ≡ get_or l.bytes at 0 % 16;
}
