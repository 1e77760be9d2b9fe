use Rattle.std.proofs.Common.{◌≡◌, ◌∙◌, not, true, ap, refl, sym, is_some, []}
use Rattle.va_lang.specs.Command.{convert}
use Rattle.va_lang.specs.declared.reply.Why.TheVariants.{Idle}
use Rattle.va_disk.proofs.Frames.{reads_nothing}
use Rattle.va_requant.specs.declared.progress.Progress.TheVariants.{More, Switched}
use Rattle.va_serve.specs.Promises.{asked_by}
use Rattle.va_serve.specs.Session.{over_store}
use Rattle.va_serve.proofs.Bounds.{no_more_unread}
use Rattle.va_serve.proofs.Converting.{advanced_whole, codes_stay, convert_after, convert_carries, convert_idle, convert_loses, convert_no_more, first_of_these}
use Rattle.va_serve.proofs.Outcomes.{carries_refused}
use Rattle.va_serve.proofs.refitting.convert.Goals as goal

pub returns-then-is_none-clause-obeys : goal.returns-then-is_none-clause-obeys
returns-then-is_none-clause-obeys g c = λ lent cursors shapes.
    carries_refused (convert c.args.n) Idle (convert_idle cursors c.args.store.now c.args.n (sym c.building.ensures.runs ∙ c.is_none.ensures ∙ ap not c.if-is_none.true)) reads_nothing refl

pub returns-in-Ok-More-clause-obeys : goal.returns-in-Ok-More-clause-obeys
returns-in-Ok-More-clause-obeys g c = λ lent cursors shapes.
    let D = g.D.Storage in
    let e = c.in-Ok-More.ensures in
    let held = c.args.store.now in
    let runs : is_some held.building ≡ true = sym c.building.ensures.runs ∙ c.is_none.ensures ∙ ap not c.if-is_none.false in
    convert_carries D cursors held c.args.n c.args.disk.now c.convert.new.disk runs c.requires.some c.convert.new.store (More c.in-Ok-More.done c.in-Ok-More.left) (sym c.in-Ok-More.field-0-is ∙ e.progress) e.ok e.stands
    (codes_stay D cursors held c.args.disk.now c.convert.new.disk shapes e.rest) e.reads.ok e.frame.moments
    (convert_after D held c.convert.new.store c.args.n c.args.disk.now c.convert.new.disk e.ok e.durable e.outcomes (λ told. (e.fits.known_in told (advanced_whole c.args.n held c.convert.new.store e.ok c.requires.fits.1)).selected) e.stands (g.met.D.Disk.is_outcome c.args.disk.now))

pub returns-in-Ok-Switched-clause-obeys : goal.returns-in-Ok-Switched-clause-obeys
returns-in-Ok-Switched-clause-obeys g c = λ lent cursors shapes.
    let D = g.D.Storage in
    let e = c.in-Ok-Switched.ensures in
    let held = c.args.store.now in
    let runs : is_some held.building ≡ true = sym c.building.ensures.runs ∙ c.is_none.ensures ∙ ap not c.if-is_none.false in
    convert_carries D cursors held c.args.n c.args.disk.now c.convert.new.disk runs c.requires.some c.convert.new.store (Switched c.in-Ok-Switched.done) (sym c.in-Ok-Switched.field-0-is ∙ e.progress) e.ok e.stands
    (codes_stay D cursors held c.args.disk.now c.convert.new.disk shapes e.rest) e.reads.ok e.frame.moments
    (convert_after D held c.convert.new.store c.args.n c.args.disk.now c.convert.new.disk e.ok e.durable e.outcomes (λ told. (e.fits.known_in told (advanced_whole c.args.n held c.convert.new.store e.ok c.requires.fits.1)).selected) e.stands (g.met.D.Disk.is_outcome c.args.disk.now))

pub returns-in-Err-clause-obeys : goal.returns-in-Err-clause-obeys
returns-in-Err-clause-obeys g c = λ lent cursors shapes.
    let held = c.args.store.now in
    let runs : is_some held.building ≡ true = sym c.building.ensures.runs ∙ c.is_none.ensures ∙ ap not c.if-is_none.false in
    convert_loses g.D.Storage cursors held c.args.n c.args.disk.now c.convert.new.disk runs c.requires.some (first_of_these _ c.convert.ensures.reads) c.convert.ensures.frame.moments

pub returns-then-is_none-clause-others : goal.returns-then-is_none-clause-others
returns-then-is_none-clause-others g c = no_more_unread g.D.Storage (asked_by (convert c.args.n)) (over_store c.args.store.now) c.args.disk.now c.args.disk.now refl

pub returns-in-Ok-More-clause-others : goal.returns-in-Ok-More-clause-others
returns-in-Ok-More-clause-others g c =
    convert_no_more g.D.Storage [] c.args.store.now c.args.n c.args.disk.now c.convert.new.disk (sym c.building.ensures.runs ∙ c.is_none.ensures ∙ ap not c.if-is_none.false) c.requires.some (first_of_these _ c.convert.ensures.reads)

pub returns-in-Ok-Switched-clause-others : goal.returns-in-Ok-Switched-clause-others
returns-in-Ok-Switched-clause-others g c =
    convert_no_more g.D.Storage [] c.args.store.now c.args.n c.args.disk.now c.convert.new.disk (sym c.building.ensures.runs ∙ c.is_none.ensures ∙ ap not c.if-is_none.false) c.requires.some (first_of_these _ c.convert.ensures.reads)

pub returns-in-Err-clause-others : goal.returns-in-Err-clause-others
returns-in-Err-clause-others g c =
    convert_no_more g.D.Storage [] c.args.store.now c.args.n c.args.disk.now c.convert.new.disk (sym c.building.ensures.runs ∙ c.is_none.ensures ∙ ap not c.if-is_none.false) c.requires.some (first_of_these _ c.convert.ensures.reads)
