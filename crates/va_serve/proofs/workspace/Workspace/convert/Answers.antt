use Rattle.std.proofs.Common.{ap, refl, sym}
use Rattle.va_lang.specs.Command as asked
use Rattle.va_serve.specs.Session.{sitting_of}
use Rattle.va_serve.proofs.Owing.{owes_writing}
use Rattle.va_serve.proofs.workspace.Workspace.convert.Goals as goal

pub returns-clause-owes : goal.returns-clause-owes
returns-clause-owes g c = rw (ap sitting_of (sym c.self.view_is))
    (owes_writing g.D.Storage c.convert.result (asked.convert c.args.n) (record { no_query = λ kept. refl; no_cursor = refl }) refl (c.convert.ensures.obeys _ _ c.self.invariant.shapes) c.convert.ensures.others)
