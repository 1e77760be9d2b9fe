use Rattle.std.proofs.Common.{ap, refl, subst, sym, ◌∙◌}
use Rattle.va_core.specs.Shape.{Shape}
use Rattle.va_lang.specs.Command.{«open»}
use Rattle.va_lang.specs.SaidCommand.{query_in}
use Rattle.va_serve.specs.Held.{HaveShape}
use Rattle.va_serve.specs.Promises.{asked_by}
use Rattle.va_serve.specs.Session.{with_store}
use Rattle.va_serve.proofs.Asking.{weights_asked}
use Rattle.va_serve.proofs.Bounds.{no_more_unread}
use Rattle.va_serve.proofs.Ranks.{open_asked, open_carries, open_fails, open_unasked, opened_unread}
use Rattle.va_store.specs.Known.{Known}
use Rattle.va_serve.proofs.ranking.open.Goals as goal

pub open_cursor-requires-clause-dims : goal.open_cursor-requires-clause-dims
open_cursor-requires-clause-dims g c = weights_asked c.in-Ok.ensures.asked

pub returns-in-Ok-open_cursor-clause-obeys : goal.returns-in-Ok-open_cursor-clause-obeys
returns-in-Ok-open_cursor-clause-obeys g c = λ lent.
    rw c.keep.ensures.kept (open_carries c.args.cursors.now c.args.store.now c.args.name (query_in c.args.room.now) c.name_refusal.ensures c.in-Ok.ensures.asked c.in-Ok-open_cursor.ensures c.live.ensures)

pub returns-in-Err-open_cursor-clause-obeys : goal.returns-in-Err-open_cursor-clause-obeys
returns-in-Err-open_cursor-clause-obeys g c = λ lent.
    rw c.unanswered.ensures (open_fails c.args.cursors.now c.args.store.now c.args.name (query_in c.args.room.now) c.name_refusal.ensures c.in-Ok.ensures.asked c.in-Err-open_cursor.ensures lent)

pub returns-in-Err-clause-obeys : goal.returns-in-Err-clause-obeys
returns-in-Err-clause-obeys g c = λ lent. open_unasked c.args.cursors.now c.args.store.now c.args.name (query_in c.args.room.now) c.name_refusal.ensures c.in-Err.why c.in-Err.ensures.why

pub returns-in-Ok-open_cursor-clause-others : goal.returns-in-Ok-open_cursor-clause-others
returns-in-Ok-open_cursor-clause-others g c = opened_unread (asked_by («open» c.args.name (query_in c.args.room.now))) c.args.cursors.now c.args.store.now c.in-Ok-open_cursor.ensures.reads

pub returns-in-Err-open_cursor-clause-others : goal.returns-in-Err-open_cursor-clause-others
returns-in-Err-open_cursor-clause-others g c = opened_unread (asked_by («open» c.args.name (query_in c.args.room.now))) c.args.cursors.now c.args.store.now c.in-Err-open_cursor.ensures.reads

pub returns-in-Err-clause-others : goal.returns-in-Err-clause-others
returns-in-Err-clause-others g c = no_more_unread g.D.Storage (asked_by («open» c.args.name (query_in c.args.room.now))) (with_store c.args.cursors.now c.args.store.now) c.args.disk.now c.args.disk.now refl

pub keep-requires : goal.keep-requires
keep-requires g c = record {
  counts = c.requires.counts;
  free = open_asked c.args.cursors.now c.args.store.now c.args.name (query_in c.args.room.now) c.name_refusal.ensures c.in-Ok.ensures.asked;
  shapes = subst (λ (shape : Shape). HaveShape shape c.args.cursors.now) (sym c.in-Ok-open_cursor.ensures.begins.shape) c.requires.shapes;
  names = c.requires.names;
}

pub returns-in-Ok-open_cursor-clause-shapes : goal.returns-in-Ok-open_cursor-clause-shapes
returns-in-Ok-open_cursor-clause-shapes g c =
    let e = c.in-Ok-open_cursor.ensures in
    subst (λ (shape : Shape). HaveShape shape c.keep.new.cursors) (e.begins.shape ∙ sym (ap (λ (k : Known). k.shape) e.same)) c.keep.ensures.shapes

pub returns-in-Err-open_cursor-clause-shapes : goal.returns-in-Err-open_cursor-clause-shapes
returns-in-Err-open_cursor-clause-shapes g c = subst (λ (shape : Shape). HaveShape shape c.args.cursors.now) (sym (ap (λ (k : Known). k.shape) c.in-Err-open_cursor.ensures.same)) c.requires.shapes

pub returns-in-Ok-open_cursor-clause-frame : goal.returns-in-Ok-open_cursor-clause-frame
returns-in-Ok-open_cursor-clause-frame g c = c.in-Ok-open_cursor.ensures.reads.frame

pub returns-in-Err-open_cursor-clause-frame : goal.returns-in-Err-open_cursor-clause-frame
returns-in-Err-open_cursor-clause-frame g c = c.in-Err-open_cursor.ensures.reads.frame
