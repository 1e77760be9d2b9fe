use Rattle.std.proofs.Common.{◌∙◌, refl, sym, subst}
use Rattle.va_csv.specs.Lines.{lines_of}
use Rattle.va_disk.specs.Frames.{OnlyReads}
use Rattle.va_model.specs.Ends.{once_taken}
use Rattle.va_serve.proofs.Progressing.{stay_reading}
use Rattle.va_serve.proofs.StoreRuns.{not_started, whole_started}
use Rattle.va_serve.proofs.Whole.{caused_start}
use Rattle.va_serve.proofs.running.run_csv.Goals as goal

pub returns-in-Ok-clause-ran : goal.returns-in-Ok-clause-ran
returns-in-Ok-clause-ran g c =
    let e = c.in-Ok.ensures in
    whole_started g.D.Storage g.S.Source (once_taken lines_of) c.args.limit _ _ _
    (record {
      frame = e.frame;
      reads = e.reads;
      started = e.started;
      secure = e.secure;
      opens = e.opens;
      stays = stay_reading e.frame (c.start.ensures.cause.stayed (λ wrong. let both = sym c.in-Ok.is ∙ wrong in cc));
    }) (λ bytes. refl) _ c.run_records.ensures.ran c.run_records.ensures.idle

pub returns-in-Ok-clause-unrun : goal.returns-in-Ok-clause-unrun
returns-in-Ok-clause-unrun g c = λ short. subst (λ desk. OnlyReads g.D.Storage c.args.desk.now desk) (sym (c.run_records.ensures.unrun short)) c.start.ensures.frame

pub returns-in-Err-clause-ran : goal.returns-in-Err-clause-ran
returns-in-Err-clause-ran g c =
    let e = c.in-Err.ensures in
    not_started g.D.Storage g.S.Source (once_taken lines_of) c.args.limit _ _
    (record { frame = e.frame; reads = e.reads; kinds = e.kinds; refused = e.refused; stands = e.stands }) refl
    (caused_start g.D.Storage g.S.Source _ _ _ e.kinds e.frame _ c.in-Err.is c.start.ensures.cause)
