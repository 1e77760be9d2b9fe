use Rattle.std.proofs.Common.{◌∙◌, List, Some, ap, refl, subst, sym, take, ℕ}
use Rattle.va_lang.specs.Command as asked
use Rattle.va_serve.specs.Promises.{Obeys, asked_by}
use Rattle.va_serve.specs.Session.{sitting_of, with_store}
use Rattle.va_serve.proofs.Commands.{front_is_room}
use Rattle.va_serve.proofs.Owing.{owes_plain}
use Rattle.va_serve.proofs.workspace.Workspace.get.Goals as goal

pub returns-clause-owes : goal.returns-clause-owes
returns-clause-owes g c =
    let held = c.get.new.store in
    rw (ap sitting_of (sym c.self.view_is))
    (owes_plain g.D.Storage c.get.result (asked.get c.args.id) (record { no_query = λ kept. refl; no_cursor = refl })
    (subst (λ (bytes : List ℕ). Obeys g.D.Storage (asked_by (asked.get c.args.id)) (record { vector = take held.shape.dims bytes; marks = Some held.marks }) (with_store c.self.inside.cursors.items c.self.inside.store) (with_store c.self.inside.cursors.items held) c.args.disk.now c.get.new.disk c.get.result)
    (sym (front_is_room _ _ _ (c.get.auto.room ∙ c.deref_mut.ensures.len))) (c.get.ensures.obeys _ _))
    c.get.ensures.others (λ reading. c.get.ensures.frame))
