use Rattle.va_serve.specs.Session.{sitting_in}
use Rattle.va_serve.proofs.Whole.{secure_at}
use Rattle.va_serve.proofs.session.Session.start.Goals as goal

pub returns-clause-secure : goal.returns-clause-secure
returns-clause-secure g c = λ keeps told state begins.
    secure_at g.D.Storage state (sitting_in c.in_ok-work.work) _ _ begins.stands c.open.ensures.frame.image c.in_ok-work.ensures.fits told (c.in_ok-work.ensures.durable keeps told)
