use Rattle.std.proofs.Common.{◌≡◌, drop}
use Rattle.va_cert.specs.Reasons as reasons
use Rattle.va_check.proofs.form.rises.Given as goal

abbrev pub invariant-loop-dim : goal.invariant-loop-dim
invariant-loop-dim l = reasons.rises (drop l.dim l.low) (drop l.dim l.high) ≡ reasons.rises l.low l.high
