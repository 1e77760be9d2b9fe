use Rattle.std.proofs.Common.{◌≡◌, take}
use Rattle.va_check.specs.Gathers.{known_pairs, least_unknown}
use Rattle.va_check.proofs.known.gather.Given as goal

abbrev pub invariant-loop-row : goal.invariant-loop-row
invariant-loop-row l = record {
  known : l.known.items ≡ known_pairs l.cert (take l.row-index l.boxes);
  least : l.least ≡ least_unknown l.cert (take l.row-index l.boxes);
}
