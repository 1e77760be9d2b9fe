use Rattle.std.proofs.Common.{◌≡◌, false, drop}
use Rattle.va_serve.specs.Failing.{CountsStay, Later}
use Rattle.va_serve.specs.Session.{FitsSession}
use Rattle.va_serve.proofs.Progressing.{Partly}
use Rattle.va_serve.proofs.serving.take_piece.Given as goal

abbrev pub invariant-loop-byte : goal.invariant-loop-byte
invariant-loop-byte g l =
    let D = g.D.Storage in
    record {
      partly : Partly D l.fn.buffer l.buffer l.piece (drop l.byte-index l.piece) l.fn.session.sitting l.session.sitting l.fn.desk l.desk;
      going : l.session.over ≡ false;
      fits : FitsSession D l.session.sitting l.desk;
      later : Later D l.fn.desk l.desk;
      stays : CountsStay D l.fn.desk l.desk;
    }
