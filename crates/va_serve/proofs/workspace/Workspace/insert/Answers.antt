use Rattle.std.proofs.Common.{List, ℕ, ap, refl, subst, sym}
use Rattle.va_lang.specs.Command as asked
use Rattle.va_serve.specs.Held.{AreCounts}
use Rattle.va_serve.specs.Session.{sitting_of}
use Rattle.va_serve.proofs.Owing.{owes_unread}
use Rattle.va_serve.proofs.workspace.Workspace.insert.Goals as goal

pub returns-clause-owes : goal.returns-clause-owes
returns-clause-owes g c = rw (ap sitting_of (sym c.self.view_is))
    (owes_unread g.D.Storage c.insert.result (asked.insert c.args.id c.args.vector.now) (record { no_query = λ kept. refl; no_cursor = refl }) refl
    (c.insert.ensures.obeys _ _ c.self.invariant.shapes (subst (λ (numbers : List ℕ). AreCounts c.self.inside.cursors.items numbers) (sym c.deref.ensures.value) c.self.invariant.counts))
    c.insert.ensures.reads)
