use Rattle.std.proofs.Common.{ap, sym, arith}
use Rattle.va_serve.specs.Owing.{Owes}
use Rattle.va_serve.specs.Session.{lent_in, sitting_in}
use Rattle.va_serve.proofs.Commands.{line_asks}
use Rattle.va_lang.proofs.OneSpelling.{line_in_ranges}
use Rattle.va_serve.proofs.session.Session.answer.Goals as goal

pub obey-requires-clause-ranges : goal.obey-requires-clause-ranges
obey-requires-clause-ranges g c = line_in_ranges c.in-Some.bytes.now _ c.in-Ok.ensures

pub returns-in-Ok-clause-owes : goal.returns-in-Ok-clause-owes
returns-in-Ok-clause-owes g c =
    rw (sym (ap (λ seat. seat.sitting) c.self.view_is))
    (line_asks (λ asked. Owes g.D.Storage asked (lent_in c.obey.new.work) (sitting_in c.self.inside.work) (sitting_in c.obey.new.work) c.args.desk.now c.obey.new.disk c.obey.result)
    c.args.line c.in-Some.bytes _ c.in-Some.is (omega (arith, c.if-bytes-gt-LONGEST.false)) c.in-Ok.ensures c.obey.ensures.owes)
