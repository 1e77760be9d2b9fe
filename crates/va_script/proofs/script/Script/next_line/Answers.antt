use Rattle.std.proofs.Common.{refl, sym, ◌∙◌, arith}
use Rattle.va_script.proofs.Lines.{ended, next_given, some_left}
use Rattle.va_script.proofs.script.Script.next_line.Goals as goal

pub returns-then-self-clause-ended : goal.returns-then-self-clause-ended
returns-then-self-clause-ended c =
    (sym c.self.view_is ∙ ended c.self.inside.n c.self.inside.given (omega (arith, c.if-self.true)), refl)

pub returns-clause-given : goal.returns-clause-given
returns-clause-given c =
    sym c.self.view_is ∙ next_given c.self.inside.n c.self.inside.given c.in-Ok.line.items
    (omega (arith, c.if-self.false, c.self.invariant.1)) c.in-Ok.ensures.line

pub returns-in_default-clause-wants : goal.returns-in_default-clause-wants
returns-in_default-clause-wants c = λ none. some_left c.self.inside.n c.self.inside.given (omega (arith, c.if-self.false, c.self.invariant.1)) (c.self.view_is ∙ none)
