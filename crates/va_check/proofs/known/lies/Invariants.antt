use Rattle.std.proofs.Common.{◌≡◌, drop}
use Rattle.va_core.specs.Boxes.{box_between}
use Rattle.va_cert.specs.Reasons as reasons
use Rattle.va_check.proofs.known.lies.Given as goal

abbrev pub invariant-loop-dim : goal.invariant-loop-dim
invariant-loop-dim l = reasons.lies (box_between (drop l.dim l.low) (drop l.dim l.high)) (drop l.dim l.vector) ≡ reasons.lies (box_between l.low l.high) l.vector
