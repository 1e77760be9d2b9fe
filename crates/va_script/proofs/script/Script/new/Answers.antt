use Rattle.std.proofs.Common.{◌∙◌, arith}
use Rattle.va_script.proofs.Lines.{begins}
use Rattle.va_script.proofs.script.Script.new.Goals as goal

pub invariant_of-result : goal.invariant_of-result
invariant_of-result c = (c.requires.small, omega arith, c.new.ensures ∙ c.from.ensures ∙ begins c.args.n)
