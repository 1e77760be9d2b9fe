use Rattle.std.proofs.Common.{◌≡◌, false}
use Rattle.va_serve.specs.Failing.{CountsStay, Later}
use Rattle.va_serve.specs.Session.{FitsSession}
use Rattle.va_serve.proofs.Taking.{Running}
use Rattle.va_serve.proofs.serving.run_lines.Given as goal

abbrev pub invariant-loop-left : goal.invariant-loop-left
invariant-loop-left g l =
    let S = g.S.Source in
    let D = g.D.Storage in
    record {
      running : Running D S l.limit l.left l.buffer l.fn.session.sitting l.session.sitting l.fn.source l.source l.fn.desk l.desk;
      going : l.session.over ≡ false;
      fits : FitsSession D l.session.sitting l.desk;
      source : S.faults l.source ≡ S.faults l.fn.source;
      later : Later D l.fn.desk l.desk;
      stays : CountsStay D l.fn.desk l.desk;
    }

abbrev pub decreases-loop-left : goal.decreases-loop-left
decreases-loop-left g l = l.left
