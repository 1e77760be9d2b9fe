use Rattle.std.proofs.Common.{◌≡◌, ◌∙◌, List, Option, length, drop, ap, refl, subst, sym}
use Rattle.va_cursor.specs.Cursors.{Cursor}
use Rattle.va_lang.specs.Command as asked
use Rattle.va_lang.specs.SaidCommand.{query_in}
use Rattle.va_serve.specs.Owing.{Owes}
use Rattle.va_serve.specs.Promises.{asked_by}
use Rattle.va_serve.specs.Session.{Lent, lent_by, sitting_of, with_store}
use Rattle.va_serve.proofs.Commands.{front_is_room}
use Rattle.va_serve.proofs.Owing.{owes_plain}
use Rattle.va_serve.proofs.workspace.Workspace.open.Goals as goal

pub returns-clause-owes : goal.returns-clause-owes
returns-clause-owes g c =
    let before : c.deref_mut.result.now ≡ c.self.inside.cursors.items = c.deref_mut.ensures.value in
    let names : length c.«open».new.cursors ≡ c.self.inside.cursors.len = c.«open».ensures.names ∙ sym (ap length before ∙ c.self.invariant.names) ∙ c.deref_mut.ensures.len in
    let lent : Lent = lent_by (record { store = c.«open».new.store; cursors = c.«open».new.cursors; vector = c.self.inside.vector.items }) in
    let command = asked.«open» c.args.name (query_in c.args.room.now) in
    rw (ap sitting_of (sym c.self.view_is))
    (subst (λ (cursors : List (Option Cursor)). Owes g.D.Storage (asked_by command) lent (with_store c.self.inside.cursors.items c.self.inside.store) (with_store cursors c.«open».new.store) c.args.disk.now c.«open».new.disk c.«open».result)
    (sym (front_is_room c.self.inside.cursors.len c.«open».new.cursors (drop (length c.«open».new.cursors) c.self.inside.cursors.items) names))
    (subst (λ (cursors : List (Option Cursor)). Owes g.D.Storage (asked_by command) lent (with_store cursors c.self.inside.store) (with_store c.«open».new.cursors c.«open».new.store) c.args.disk.now c.«open».new.disk c.«open».result)
    before (owes_plain g.D.Storage c.«open».result command (record { no_query = λ kept. refl; no_cursor = refl }) (c.«open».ensures.obeys lent) c.«open».ensures.others (λ reading. c.«open».ensures.frame))))
