use Rattle.std.proofs.Common.{◌≡◌, List, ℕ, sym, ◌∙◌, subst}
use Rattle.va_disk.specs.Crashes.{Only}
use Rattle.va_serve.proofs.Begun.{blank_at, only_blank, start_fails, start_stands, store_at, told_blank}
use Rattle.va_serve.proofs.opening.open.Goals as goal

pub returns-in-Ok-new-clause-started : goal.returns-in-Ok-new-clause-started
returns-in-Ok-new-clause-started g c =
    let e = c.in-Ok.ensures in
    λ told state begins. rw c.over.ensures (store_at state _ _ _ _ (e.read told).head (λ kept stands. e.stands told kept stands.opens) e.whole e.idle c.open.ensures.frame.image begins)

pub returns-in-Ok-new-clause-durable : goal.returns-in-Ok-new-clause-durable
returns-in-Ok-new-clause-durable g c =
    λ keeps told. subst (λ (image : List ℕ). Only image (g.D.Storage.may_leave c.open.new.disk)) c.open.ensures.frame.image (c.open.ensures.durable (λ e. let both = sym c.in-Ok.is ∙ e in cc) keeps told)

pub returns-in-Ok-new-clause-opens : goal.returns-in-Ok-new-clause-opens
returns-in-Ok-new-clause-opens g c = λ told why fault. absurd (c.in-Ok.ensures.opens told why fault)

pub returns-then-is_blank-clause-opens : goal.returns-then-is_blank-clause-opens
returns-then-is_blank-clause-opens g c =
    λ told. only_blank (g.D.Storage.image c.args.desk.now) c.in-Err.fault (sym c.is_blank.ensures ∙ c.if-is_blank.true) (c.in-Err.ensures.refused told)

pub returns-then-is_blank-clause-started : goal.returns-then-is_blank-clause-started
returns-then-is_blank-clause-started g c = λ told state begins.
    let blank = told_blank (g.D.Storage.image c.args.desk.now) c.in-Err.fault (sym c.is_blank.ensures ∙ c.if-is_blank.true) (c.in-Err.ensures.refused told) in
    blank_at state _ _ (c.in-Err.ensures.blank told blank) c.open.ensures.frame.image begins

pub returns-then-is_blank-clause-fits : goal.returns-then-is_blank-clause-fits
returns-then-is_blank-clause-fits g c = λ told.
    let blank = told_blank (g.D.Storage.image c.args.desk.now) c.in-Err.fault (sym c.is_blank.ensures ∙ c.if-is_blank.true) (c.in-Err.ensures.refused told) in
    let same : g.D.Storage.image c.open.new.disk ≡ g.D.Storage.image c.args.desk.now = c.open.ensures.frame.image in
    rw same (c.in-Err.ensures.blank told blank)

pub returns-else-is_blank-clause-stands : goal.returns-else-is_blank-clause-stands
returns-else-is_blank-clause-stands g c = λ told state begins.
    start_stands (g.D.Storage.image c.args.desk.now) state c.status_of.result begins (c.open.ensures.faultless told)
    (rw c.status_of.ensures (start_fails (g.D.Storage.image c.args.desk.now) c.in-Err.fault (sym c.is_blank.ensures ∙ c.if-is_blank.false) (c.in-Err.ensures.refused told)))
