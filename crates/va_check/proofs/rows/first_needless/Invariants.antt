use Rattle.std.proofs.Common.{◌≡◌, drop}
use Rattle.va_cert.specs.Reasons as reasons
use Rattle.va_check.proofs.rows.first_needless.Given as goal

abbrev pub invariant-loop-taken : goal.invariant-loop-taken
invariant-loop-taken l = reasons.first_entry (reasons.is_needless l.cert) (drop l.taken-index l.taken-items) ≡ reasons.first_entry (reasons.is_needless l.cert) l.cert.fetched
