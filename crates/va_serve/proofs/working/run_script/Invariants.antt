use Rattle.std.proofs.Common.{length, map}
use Rattle.va_model.specs.Lines.{line_of}
use Rattle.va_serve.specs.Failing.{CountsStay}
use Rattle.va_serve.specs.Promises.{IsSilent}
use Rattle.va_serve.specs.Session.{FitsSession}
use Rattle.va_serve.proofs.ScriptRuns.{SoFar}
use Rattle.va_serve.proofs.working.run_script.Given as goal

abbrev pub invariant-loop-line : goal.invariant-loop-line
invariant-loop-line g l =
    let D = g.D.Storage in
    record {
      far : SoFar D (map line_of l.fn.script) (map line_of l.script) l.fn.session.sitting l.session.sitting l.fn.desk l.desk l.totals;
      fits : FitsSession D l.session.sitting l.desk;
      frame : IsSilent D l.fn.desk l.desk;
      stays : CountsStay D l.fn.desk l.desk;
    }

abbrev pub decreases-loop-line : goal.decreases-loop-line
decreases-loop-line g l = length l.script
