use Rattle.std.proofs.Common.{◌≡◌, drop}
use Rattle.va_cert.specs.Reasons as reasons
use Rattle.va_check.proofs.form.have_length.Given as goal

abbrev pub invariant-loop-vector : goal.invariant-loop-vector
invariant-loop-vector l = reasons.have_length l.dims (drop l.vector-index l.vectors) ≡ reasons.have_length l.dims l.vectors
