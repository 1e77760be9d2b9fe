use Rattle.std.proofs.Common.{◌≤◌, ◌∙◌, List, ap, arith, length, subst, sym, ℕ}
use Rattle.std.proofs.lemmas.List.{length-take-le}
use Rattle.va_lang.specs.Command.{get}
use Rattle.va_lang.specs.Reply.{vector}
use Rattle.va_lang.specs.declared.reply.Why.TheVariants.{Unknown}
use Rattle.va_serve.specs.Promises.{Carries, asked_by, of_command}
use Rattle.va_serve.specs.Session.{over_store, with_store}
use Rattle.va_serve.proofs.Commands.{front_is_room}
use Rattle.va_serve.proofs.Outcomes.{carries_refused, reads_none, survives_reading}
use Rattle.va_serve.proofs.Refusing.{get_refused, not_true}
use Rattle.va_serve.proofs.Bounds.{no_more_unread}
use Rattle.va_serve.proofs.Stored.{get_carries, get_no_more}
use Rattle.va_serve.proofs.reading.get.Goals as goal

pub returns-in-Ok-clause-obeys : goal.returns-in-Ok-clause-obeys
returns-in-Ok-clause-obeys g c = λ marks cursors.
    let D = g.D.Storage in
    let e = c.in-Ok.ensures in
    let dims = c.from-dims.ensures ∙ c.dims.ensures.dims ∙ ap (λ shape. shape.dims) c.shape.ensures ∙ ap (λ store. store.shape.dims) (sym c.get.ensures.store) in
    let fits : c.from-dims.result ≤ length c.args.room.now = omega (arith, c.from-dims.ensures, c.dims.ensures.dims, c.dims.ensures.shape.most_dims, c.requires.room) in
    subst (λ (bytes : List ℕ). Carries D (of_command (get c.args.id)) (with_store cursors c.args.store.now) (with_store cursors c.get.new.self) c.args.disk.now c.get.new.disk (vector bytes))
    (sym (front_is_room _ _ _ (c.get.auto.out ∙ length-take-le _ _ fits ∙ dims)))
    (rw c.get.ensures.store (get_carries cursors c.args.store.now c.args.id c.get.new.out e.ok c.get.ensures.frame e.vector e.reads.ok))

pub returns-in-Err-Unknown-clause-obeys : goal.returns-in-Err-Unknown-clause-obeys
returns-in-Err-Unknown-clause-obeys g c = λ marks cursors.
    let e = c.in-Err-Unknown.ensures in
    rw c.get.ensures.store (carries_refused (get c.args.id) Unknown (get_refused cursors c.args.store.now c.args.id (not_true _ (λ lives. let r = e.err lives in cc))) c.get.ensures.frame e.reads.err)

pub returns-in-Err-Disk-clause-obeys : goal.returns-in-Err-Disk-clause-obeys
returns-in-Err-Disk-clause-obeys g c = λ marks cursors. record {
  read = reads_none g.D.Storage c.args.disk.now c.get.new.disk (of_command (get c.args.id)) (with_store cursors c.args.store.now) c.in-Err-Disk.ensures.reads.err;
  stays = λ told start at same_state. c.get.ensures.frame.image;
  moments = survives_reading (of_command (get c.args.id)) (with_store cursors c.args.store.now) c.get.ensures.frame;
}

pub returns-in-Ok-clause-others : goal.returns-in-Ok-clause-others
returns-in-Ok-clause-others g c = get_no_more g.D.Storage c.args.disk.now c.get.new.disk c.args.store.now c.args.id c.in-Ok.ensures.ok c.in-Ok.ensures.reads.ok

pub returns-in-Err-Unknown-clause-others : goal.returns-in-Err-Unknown-clause-others
returns-in-Err-Unknown-clause-others g c = no_more_unread g.D.Storage (asked_by (get c.args.id)) (over_store c.args.store.now) c.args.disk.now c.get.new.disk c.in-Err-Unknown.ensures.reads.err

pub returns-in-Err-Disk-clause-others : goal.returns-in-Err-Disk-clause-others
returns-in-Err-Disk-clause-others g c = no_more_unread g.D.Storage (asked_by (get c.args.id)) (over_store c.args.store.now) c.args.disk.now c.get.new.disk c.in-Err-Disk.ensures.reads.err
