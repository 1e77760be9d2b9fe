use Rattle.std.proofs.Common.{ap, refl}
use Rattle.va_lang.specs.Command as asked
use Rattle.va_lang.specs.SaidCommand.{meant}
use Rattle.va_serve.proofs.Owing.{owes_as, owes_unread}
use Rattle.va_serve.proofs.obeying.obey.Goals as goal

pub returns-in-Create-clause-owes : goal.returns-in-Create-clause-owes
returns-in-Create-clause-owes g c = owes_as g.D.Storage (ap (λ command. meant command c.args.room.now) c.in-Create.is)
    (owes_unread g.D.Storage c.create.result (asked.create c.in-Create.dims c.in-Create.bits c.in-Create.capacity) (record { no_query = λ kept. refl; no_cursor = refl }) refl c.create.ensures.obeys c.create.ensures.reads)

pub returns-in-Some : goal.returns-in-Some
returns-in-Some g c = record {
  owes = rw c.in-Some.is c.obey_on.ensures.owes;
  fits = c.obey_on.ensures.fits;
  frame = c.obey_on.ensures.frame;
  cause = c.obey_on.ensures.cause;
}
