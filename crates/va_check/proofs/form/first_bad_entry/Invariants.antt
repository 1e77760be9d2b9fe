use Rattle.std.proofs.Common.{◌≡◌, ◌≤◌, drop, None}
use Rattle.va_cert.specs.Reasons as reasons
use Rattle.va_check.proofs.Counted.{counted}
use Rattle.va_check.proofs.form.first_bad_entry.Given as goal

abbrev pub invariant-loop-taken : goal.invariant-loop-taken
invariant-loop-taken l = record {
  few : l.position ≤ counted l.before l.boxes;
  rest : reasons.first_bad_entry l.dims l.boxes l.before l.position (drop l.taken-index l.fetched) ≡ reasons.first_bad_entry l.dims l.boxes None 0 l.fetched;
}
