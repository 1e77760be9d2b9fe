use Rattle.std.proofs.Common.{◌∙◌, refl, sym}
use Rattle.va_model.specs.Ends.{at_newlines}
use Rattle.va_serve.proofs.Progressing.{stay_reading}
use Rattle.va_serve.proofs.StoreRuns.{not_started, ran_started, unstarted}
use Rattle.va_serve.proofs.Whole.{caused_start, of_lines_memory}
use Rattle.va_serve.proofs.running.run_store.Goals as goal

pub returns-in_default-clause-ran : goal.returns-in_default-clause-ran
returns-in_default-clause-ran g c = unstarted g.D.Storage g.S.Source at_newlines c.args.limit _ _ refl

pub returns-clause-ran : goal.returns-clause-ran
returns-clause-ran g c =
    let e = c.in-Err.ensures in
    not_started g.D.Storage g.S.Source at_newlines c.args.limit _ _
    (record { frame = e.frame; reads = e.reads; kinds = e.kinds; refused = e.refused; stands = e.stands }) refl
    (caused_start g.D.Storage g.S.Source _ _ _ e.kinds e.frame _ c.in-Err.is c.start.ensures.cause)

pub returns-in-Ok-start-clause-ran : goal.returns-in-Ok-start-clause-ran
returns-in-Ok-start-clause-ran g c =
    let e = c.in-Ok-start.ensures in
    ran_started g.D.Storage g.S.Source at_newlines c.args.limit _ _ _
    (record {
      frame = e.frame;
      reads = e.reads;
      started = e.started;
      secure = e.secure;
      opens = e.opens;
      stays = stay_reading e.frame (c.start.ensures.cause.stayed (λ wrong. let both = sym c.in-Ok-start.is ∙ wrong in cc));
    }) _ c.run_lines.ensures

pub returns-clause-sparing : goal.returns-clause-sparing
returns-clause-sparing g c = λ is. refl

pub returns-in-Ok-start-clause-sparing : goal.returns-in-Ok-start-clause-sparing
returns-in-Ok-start-clause-sparing g c = λ is. absurd (of_lines_memory _ c.run_lines.ensures.kinds is)
