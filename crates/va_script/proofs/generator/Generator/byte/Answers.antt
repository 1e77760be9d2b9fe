use Rattle.std.proofs.Common.{refl, ap, ◌∙◌}
use Rattle.va_script.specs.Script.{byte_of, next_state}
use Rattle.va_script.proofs.Drawing.{wrapped}
use Rattle.va_script.proofs.generator.Generator.byte.Goals as goal

pub returns-clause-state : goal.returns-clause-state
returns-clause-state c = wrapped c.self.inside.state ∙ ap next_state c.self.view_is

pub returns-clause-byte : goal.returns-clause-byte
unfolding byte_of
returns-clause-byte c = refl
