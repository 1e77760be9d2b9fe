use Rattle.std.proofs.Common.{◌≡◌, ◌≤◌, drop, None}
use Rattle.va_cert.specs.Reasons as reasons
use Rattle.va_check.proofs.form.first_bad_box.Given as goal

abbrev pub invariant-loop-row : goal.invariant-loop-row
invariant-loop-row l = record {
  few : l.position ≤ 4096;
  rest : reasons.first_bad_box l.dims l.before l.position (drop l.row-index l.boxes) ≡ reasons.first_bad_box l.dims None 0 l.boxes;
}
