use Rattle.std.proofs.Common.{◌≡◌, ◌≤◌, length, drop}
use Rattle.va_cert.specs.Reasons as reasons
use Rattle.va_check.proofs.rows.first_difference.Given as goal

abbrev pub invariant-loop-pair : goal.invariant-loop-pair
invariant-loop-pair l = record {
  at : l.position ≡ l.pair-index;
  inside : l.position ≤ length l.answer;
  rest : reasons.first_difference l.position (drop l.position l.answer) (drop l.position l.known) ≡ reasons.first_difference 0 l.answer l.known;
}
