use Rattle.std.proofs.Common.{ap, refl, sym}
use Rattle.va_lang.specs.Command as asked
use Rattle.va_lang.specs.SaidCommand.{query_in}
use Rattle.va_model.specs.Searching.{query_in as asked_there}
use Rattle.va_serve.specs.Session.{sitting_of}
use Rattle.va_serve.proofs.Owing.{owes_search}
use Rattle.va_serve.proofs.workspace.Workspace.knn.Goals as goal

pub returns-clause-owes : goal.returns-clause-owes
returns-clause-owes g c = rw (ap sitting_of (sym c.self.view_is))
    (owes_search g.D.Storage c.knn.result (asked.knn c.args.k (query_in c.args.room.now)) (record { query = λ kept. (asked_there kept (query_in c.args.room.now), refl); no_cursor = refl })
    (c.knn.ensures.obeys _ _) c.knn.ensures.bounds c.knn.ensures.frame)
