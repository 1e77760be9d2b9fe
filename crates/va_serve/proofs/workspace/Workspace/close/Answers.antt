use Rattle.std.proofs.Common.{◌≡◌, ◌∙◌, List, [], Option, None, set, length, drop, ap, subst, sym}
use Rattle.va_cursor.specs.Cursors.{Cursor}
use Rattle.va_serve.specs.Answers.{Closes}
use Rattle.va_serve.specs.Held.{HaveShape}
use Rattle.va_serve.specs.Session.{Workspace}
use Rattle.va_serve.proofs.Commands.{front_is_room}
use Rattle.va_serve.proofs.Numbers.{shapes_set}
use Rattle.va_serve.proofs.workspace.Workspace.close.Goals as goal

pub invariant_of-self : goal.invariant_of-self
invariant_of-self c =
    let before : c.deref_mut.result.now ≡ c.self.inside.cursors.items = c.deref_mut.ensures.value in
    let names : length c.close.new.cursors ≡ c.self.inside.cursors.len = c.close.ensures.names ∙ c.deref_mut.ensures.len in
    let numbered : length c.close.new.held ≡ c.self.inside.held.len = c.close.ensures.held ∙ c.deref_mut-2.ensures.len in
    let gone : c.close.new.cursors ≡ set c.self.inside.cursors.items c.args.name None =
    (c.close.ensures.closes (record { vector = []; marks = None })).gone ∙ ap (λ (cursors : List (Option Cursor)). set cursors c.args.name None) before in
    rw (
      front_is_room c.self.inside.cursors.len c.close.new.cursors (drop (length c.close.new.cursors) c.self.inside.cursors.items) names,
      front_is_room c.self.inside.held.len c.close.new.held (drop (length c.close.new.held) c.self.inside.held.items) numbered,
    )
    (record {
      names = c.close.ensures.names ∙ ap length before ∙ c.self.invariant.names;
      shapes = subst (λ (cursors : List (Option Cursor)). HaveShape c.self.inside.store.shape cursors) (sym gone) (shapes_set c.self.inside.store.shape c.self.inside.cursors.items c.args.name None c.self.invariant.shapes tt);
      numbered = c.close.ensures.held ∙ ap length c.deref_mut-2.ensures.value ∙ c.self.invariant.numbered;
      counts = c.close.ensures.counts;
      room = c.self.invariant.room;
    })

pub returns-clause-closes : goal.returns-clause-closes
returns-clause-closes c = λ lent.
    let before : c.deref_mut.result.now ≡ c.self.inside.cursors.items = c.deref_mut.ensures.value in
    let names : length c.close.new.cursors ≡ c.self.inside.cursors.len = c.close.ensures.names ∙ c.deref_mut.ensures.len in
    rw (front_is_room c.self.inside.cursors.len c.close.new.cursors (drop (length c.close.new.cursors) c.self.inside.cursors.items) names)
    (subst (λ (cursors : List (Option Cursor)). Closes c.args.name lent cursors c.close.new.cursors c.close.result) (before ∙ ap (λ (work : Workspace). work.cursors) c.self.view_is) (c.close.ensures.closes lent))
