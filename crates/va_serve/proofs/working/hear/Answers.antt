use Rattle.std.proofs.Common.{◌∷◌, [], subst, sym}
use Rattle.va_model.specs.Lines.{line_of}
use Rattle.va_serve.specs.Working.{StopsSilently}
use Rattle.va_serve.specs.declared.status.Status.{Status}
use Rattle.va_serve.proofs.ScriptRuns.{adds_if, fault_stops, runs_if, stops_if}
use Rattle.va_serve.proofs.working.hear.Goals as goal

pub returns-in-Ok-clause-ran : goal.returns-in-Ok-clause-ran
returns-in-Ok-clause-ran g c = runs_if (line_of c.args.line.now) c.in-Ok.answer c.answer.new.self.lent c.in-Ok.ensures.owes.obeys c.answer.ensures.frame.given c.heard.result c.heard.ensures.granted

pub returns-in-Ok-clause-adds : goal.returns-in-Ok-clause-adds
returns-in-Ok-clause-adds g c = adds_if (line_of c.args.line.now) c.in-Ok.answer c.answer.new.self.lent c.in-Ok.ensures.owes.obeys c.answer.ensures.frame.given c.args.totals c.heard.result c.heard.ensures.granted c.heard.ensures.adds

pub returns-in-Ok-clause-stopped : goal.returns-in-Ok-clause-stopped
returns-in-Ok-clause-stopped g c = stops_if (line_of c.args.line.now) c.in-Ok.answer c.answer.new.self.lent c.in-Ok.ensures.owes.obeys c.answer.ensures.frame.given c.heard.result c.heard.ensures.refused

pub returns-in-Err-clause-stopped : goal.returns-in-Err-clause-stopped
returns-in-Err-clause-stopped g c =
    subst (λ (status : Status). StopsSilently g.D.Storage status (line_of c.args.line.now ∷ []) c.args.session.now.sitting c.args.desk.now c.answer.new.desk) (sym c.status_of.ensures)
    (fault_stops c.answer.new.self.lent c.answer.new.self.sitting c.in-Err.fault c.in-Err.ensures.owes.obeys c.answer.ensures.frame.given)
