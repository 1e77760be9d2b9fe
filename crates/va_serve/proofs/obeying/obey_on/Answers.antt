use Rattle.std.proofs.Common.{◌∙◌, ap, refl, subst, sym}
use Rattle.va_lang.specs.Command.{Command, insert}
use Rattle.va_lang.specs.SaidCommand.{meant}
use Rattle.va_lang.specs.Spelling.{IsCommand}
use Rattle.va_serve.specs.Session.{lent_by}
use Rattle.va_serve.proofs.Commands.{marks_carries, stat_carries}
use Rattle.va_serve.proofs.Owing.{owes_as, owes_still}
use Rattle.va_serve.proofs.Ranks.{close_carries}
use Rattle.va_serve.proofs.obeying.obey_on.Goals as goal

pub convert-requires-clause-some : goal.convert-requires-clause-some
convert-requires-clause-some g c = (subst (λ (command : Command). IsCommand command) (ap (λ command. meant command c.args.room.now) c.in-Convert.is) c.requires.ranges).0

pub returns-in-Insert-clause-owes : goal.returns-in-Insert-clause-owes
returns-in-Insert-clause-owes g c = owes_as g.D.Storage (ap (λ command. meant command c.args.room.now) c.in-Insert.is ∙ ap (λ vector. insert c.in-Insert.id vector) (sym c.vector.ensures)) c.insert.ensures.owes

pub returns-in-Delete-clause-owes : goal.returns-in-Delete-clause-owes
returns-in-Delete-clause-owes g c = owes_as g.D.Storage (ap (λ command. meant command c.args.room.now) c.in-Delete.is) c.delete.ensures.owes

pub returns-in-Get-clause-owes : goal.returns-in-Get-clause-owes
returns-in-Get-clause-owes g c = owes_as g.D.Storage (ap (λ command. meant command c.args.room.now) c.in-Get.is) c.get.ensures.owes

pub returns-in-Knn-clause-owes : goal.returns-in-Knn-clause-owes
returns-in-Knn-clause-owes g c = owes_as g.D.Storage (ap (λ command. meant command c.args.room.now) c.in-Knn.is) c.knn.ensures.owes

pub returns-in-Ssa-clause-owes : goal.returns-in-Ssa-clause-owes
returns-in-Ssa-clause-owes g c = owes_as g.D.Storage (ap (λ command. meant command c.args.room.now) c.in-Ssa.is) c.ssa.ensures.owes

pub returns-in-Range-clause-owes : goal.returns-in-Range-clause-owes
returns-in-Range-clause-owes g c = owes_as g.D.Storage (ap (λ command. meant command c.args.room.now) c.in-Range.is) c.range.ensures.owes

pub returns-in-Open-clause-owes : goal.returns-in-Open-clause-owes
returns-in-Open-clause-owes g c = owes_as g.D.Storage (ap (λ command. meant command c.args.room.now) c.in-Open.is) c.«open».ensures.owes

pub returns-in-Next-clause-owes : goal.returns-in-Next-clause-owes
returns-in-Next-clause-owes g c = owes_as g.D.Storage (ap (λ command. meant command c.args.room.now) c.in-Next.is) c.next.ensures.owes

pub returns-in-Requant-clause-owes : goal.returns-in-Requant-clause-owes
returns-in-Requant-clause-owes g c = owes_as g.D.Storage (ap (λ command. meant command c.args.room.now) c.in-Requant.is) c.requant.ensures.owes

pub returns-in-Convert-clause-owes : goal.returns-in-Convert-clause-owes
returns-in-Convert-clause-owes g c = owes_as g.D.Storage (ap (λ command. meant command c.args.room.now) c.in-Convert.is) c.convert.ensures.owes

pub returns-in-Cert-clause-owes : goal.returns-in-Cert-clause-owes
returns-in-Cert-clause-owes g c = owes_as g.D.Storage (ap (λ command. meant command c.args.room.now) c.in-Cert.is) c.cert.ensures.owes

pub returns-in-Stat-clause-owes : goal.returns-in-Stat-clause-owes
returns-in-Stat-clause-owes g c = owes_still g.D.Storage c.stat.result (stat_carries g.D.Storage _ (ap (λ command. meant command c.args.room.now) c.in-Stat.is) c.args.work.now.cursors c.args.work.now.store c.args.disk.now _ (c.stat.ensures _))

pub returns-in-Marks-clause-owes : goal.returns-in-Marks-clause-owes
returns-in-Marks-clause-owes g c = owes_still g.D.Storage _ (marks_carries g.D.Storage _ (ap (λ command. meant command c.args.room.now) c.in-Marks.is) c.args.work.now.cursors c.args.work.now.store c.args.disk.now _ refl)

pub returns-in-Close-clause-owes : goal.returns-in-Close-clause-owes
returns-in-Close-clause-owes g c =
    let closes = c.close.ensures.closes (lent_by c.close.new.self) in
    owes_still g.D.Storage c.close.result (close_carries g.D.Storage _ _ (ap (λ command. meant command c.args.room.now) c.in-Close.is) c.args.work.now c.close.new.self c.args.disk.now _ c.close.ensures.store (closes.reply, closes.gone))
