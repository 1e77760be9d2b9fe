use Rattle.std.proofs.Common.{◌≡◌, ◌++◌, take, vec_capacity}
use Rattle.va_maker.proofs.kept.append.Given as goal

abbrev pub invariant-loop-value : goal.invariant-loop-value
invariant-loop-value l = record {
  items : l.bytes.items ≡ l.initial.bytes.items ++ take l.value-index l.vector;
  room : vec_capacity l.bytes ≡ vec_capacity l.initial.bytes;
}
