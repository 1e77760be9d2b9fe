use Rattle.std.proofs.Common.{◌≡◌, false}
use Rattle.va_serve.specs.Failing.{CountsStay, Later}
use Rattle.va_serve.specs.Session.{FitsSession}
use Rattle.va_serve.proofs.RecordLines.{Ran}
use Rattle.va_serve.proofs.importing.run_each.Given as goal

abbrev pub invariant-loop-record : goal.invariant-loop-record
invariant-loop-record g l =
    let D = g.D.Storage in
    record {
      ran : Ran D l.records l.record-index l.fn.session.sitting l.session.sitting l.fn.desk l.desk;
      going : l.session.over ≡ false;
      fits : FitsSession D l.session.sitting l.desk;
      later : Later D l.fn.desk l.desk;
      stays : CountsStay D l.fn.desk l.desk;
    }
