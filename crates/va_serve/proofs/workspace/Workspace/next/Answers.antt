use Rattle.std.proofs.Common.{◌≡◌, ◌∙◌, List, Option, length, drop, ap, subst, sym}
use Rattle.va_cursor.specs.Cursors.{Cursor}
use Rattle.va_lang.specs.Command as asked
use Rattle.va_serve.specs.Owing.{Owes}
use Rattle.va_serve.specs.Promises.{asked_by}
use Rattle.va_serve.specs.Session.{Lent, lent_by, sitting_of, with_store}
use Rattle.va_serve.proofs.Commands.{front_is_room}
use Rattle.va_serve.proofs.Owing.{owes_next}
use Rattle.va_serve.proofs.workspace.Workspace.next.Goals as goal

pub returns-clause-owes : goal.returns-clause-owes
returns-clause-owes g c =
    let before : c.deref_mut.result.now ≡ c.self.inside.cursors.items = c.deref_mut.ensures.value in
    let names : length c.next.new.cursors ≡ c.self.inside.cursors.len = c.next.ensures.names ∙ c.deref_mut.ensures.len in
    let lent : Lent = lent_by (record { store = c.next.new.store; cursors = c.next.new.cursors; vector = c.self.inside.vector.items }) in
    rw (ap sitting_of (sym c.self.view_is))
    (subst (λ (cursors : List (Option Cursor)). Owes g.D.Storage (asked_by (asked.next c.args.name)) lent (with_store c.self.inside.cursors.items c.self.inside.store) (with_store cursors c.next.new.store) c.args.disk.now c.next.new.disk c.next.result)
    (sym (front_is_room c.self.inside.cursors.len c.next.new.cursors (drop (length c.next.new.cursors) c.self.inside.cursors.items) names))
    (subst (λ (cursors : List (Option Cursor)). Owes g.D.Storage (asked_by (asked.next c.args.name)) lent (with_store cursors c.self.inside.store) (with_store c.next.new.cursors c.next.new.store) c.args.disk.now c.next.new.disk c.next.result)
    before (owes_next g.D.Storage c.args.name c.next.result (c.next.ensures.obeys lent) c.next.ensures.held c.next.ensures.frame)))
