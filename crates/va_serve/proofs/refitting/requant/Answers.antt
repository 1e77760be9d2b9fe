use Rattle.std.proofs.Common.{◌≡◌, ◌∙◌, Err, None, ap, sym, refl}
use Rattle.va_lang.specs.Command.{requant}
use Rattle.va_lang.specs.Reply as replies
use Rattle.va_lang.specs.declared.reply.Why.TheVariants.{Busy}
use Rattle.va_disk.proofs.Frames.{reads_nothing}
use Rattle.va_requant.proofs.Ending.{frame_same}
use Rattle.va_serve.specs.Promises.{asked_by}
use Rattle.va_serve.specs.Session.{over_store}
use Rattle.va_serve.proofs.Bounds.{no_more_unread}
use Rattle.va_serve.proofs.Converting.{count_all, first_of_these, marks_stay, no_building, refit_carries, refit_lacks, refit_loses, refit_no_more, requant_busy, requant_now, requant_refits}
use Rattle.va_serve.proofs.Outcomes.{carries_refused}
use Rattle.va_store.specs.Refits.{same_kept}
use Rattle.va_serve.proofs.refitting.requant.Goals as goal

pub returns-then-is_some-clause-obeys : goal.returns-then-is_some-clause-obeys
returns-then-is_some-clause-obeys g c = λ lent cursors shapes.
    carries_refused requant Busy (requant_busy cursors c.args.store.now (sym c.building.ensures.runs ∙ sym c.is_some.ensures ∙ c.if-is_some.true)) reads_nothing refl

pub returns-in-Ok-clause-obeys : goal.returns-in-Ok-clause-obeys
returns-in-Ok-clause-obeys g c = λ lent cursors shapes.
    let D = g.D.Storage in
    let e = c.in-Ok.ensures in
    let held = c.args.store.now in
    let held' = c.begin.new.store in
    let idle : held.building ≡ None = no_building held.building (sym c.building.ensures.runs ∙ sym c.is_some.ensures ∙ c.if-is_some.false) in
    refit_carries (requant_refits held idle) D c.args.disk.now c.begin.new.disk cursors held' (replies.begun c.in-Ok.live) refl
    (requant_now D cursors held held' c.args.disk.now e.ok e.marks)
    (λ store of. ap replies.begun (e.live ∙ count_all held store of.kept))
    e.stands (marks_stay D cursors held c.args.disk.now c.begin.new.disk shapes e.rest) e.reads.ok (frame_same same_kept e.frame).moments
    (λ keeps told store of each image left.
    (let stays = e.outcomes keeps image left store.kept of each in
    (stays.0, stays.1 ∙ sym (ap (λ known. known.region) e.ok))))

pub returns-in-Err-Memory-clause-obeys : goal.returns-in-Err-Memory-clause-obeys
returns-in-Err-Memory-clause-obeys g c = λ lent cursors shapes.
    let e = c.in-Err-Memory.ensures in
    let held = c.args.store.now in
    let idle : held.building ≡ None = no_building held.building (sym c.building.ensures.runs ∙ sym c.is_some.ensures ∙ c.if-is_some.false) in
    let same = c.begin.ensures.memory (rw c.in-Err-Memory.is (ap Err c.in-Err-Memory.field-0-is)) in
    rw same.0 (refit_lacks (requant_refits held idle) g.D.Storage c.args.disk.now c.begin.new.disk cursors (λ store. refl) e.reads.err same.1)

pub returns-in-Err-Disk-clause-obeys : goal.returns-in-Err-Disk-clause-obeys
returns-in-Err-Disk-clause-obeys g c = λ lent cursors shapes.
    let e = c.in-Err-Disk.ensures in
    let held = c.args.store.now in
    let idle : held.building ≡ None = no_building held.building (sym c.building.ensures.runs ∙ sym c.is_some.ensures ∙ c.if-is_some.false) in
    refit_loses (requant_refits held idle) g.D.Storage c.args.disk.now c.begin.new.disk cursors e.reads.err (frame_same same_kept e.frame).moments

pub returns-then-is_some-clause-others : goal.returns-then-is_some-clause-others
returns-then-is_some-clause-others g c = no_more_unread g.D.Storage (asked_by requant) (over_store c.args.store.now) c.args.disk.now c.args.disk.now refl

pub returns-in-Ok-clause-others : goal.returns-in-Ok-clause-others
returns-in-Ok-clause-others g c =
    refit_no_more (requant_refits c.args.store.now (no_building c.args.store.now.building (sym c.building.ensures.runs ∙ sym c.is_some.ensures ∙ c.if-is_some.false))) g.D.Storage c.args.disk.now c.begin.new.disk (first_of_these _ c.begin.ensures.reads)

pub returns-in-Err-Memory-clause-others : goal.returns-in-Err-Memory-clause-others
returns-in-Err-Memory-clause-others g c =
    refit_no_more (requant_refits c.args.store.now (no_building c.args.store.now.building (sym c.building.ensures.runs ∙ sym c.is_some.ensures ∙ c.if-is_some.false))) g.D.Storage c.args.disk.now c.begin.new.disk (first_of_these _ c.begin.ensures.reads)

pub returns-in-Err-Disk-clause-others : goal.returns-in-Err-Disk-clause-others
returns-in-Err-Disk-clause-others g c =
    refit_no_more (requant_refits c.args.store.now (no_building c.args.store.now.building (sym c.building.ensures.runs ∙ sym c.is_some.ensures ∙ c.if-is_some.false))) g.D.Storage c.args.disk.now c.begin.new.disk (first_of_these _ c.begin.ensures.reads)
