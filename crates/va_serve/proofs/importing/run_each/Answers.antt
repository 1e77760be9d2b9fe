use Rattle.std.proofs.Common.{arith, ◌∙◌}
use Rattle.va_serve.proofs.RecordLines.{ran_all, ran_lasts, ran_more, ran_none, ran_stops}
use Rattle.va_serve.proofs.Progressing.{later_both, later_nothing, rises_behind, stay_both, stay_nothing}
use Rattle.va_serve.proofs.importing.run_each.Goals as goal
use Rattle.va_store.proofs.Handing.{handed_on}

pub loop-record-init : goal.loop-record-init
loop-record-init g c = record { ran = ran_none; going = c.requires.going; fits = c.requires.fits; later = later_nothing; stays = stay_nothing }

pub loop-record-preserved : goal.loop-record-preserved
loop-record-preserved g c =
    let now = c.in_ok-run_record.ensures in
    record {
      ran = ran_more c.loop-record.invariant.ran (omega arith) _ _ (c.as_slice.ensures ∙ c.record-item.is) now.done now.moments;
      going = now.going;
      fits = now.fits;
      later = later_both c.loop-record.invariant.later now.later;
      stays = stay_both c.loop-record.invariant.stays now.stayed;
    }

pub returns-in_err-run_record-clause-stopped : goal.returns-in_err-run_record-clause-stopped
returns-in_err-run_record-clause-stopped g c =
    handed_on c.from_residual.result _ _ c.from_residual.ensures.1 (ran_stops c.loop-record.invariant.ran (omega arith) _ _ (c.as_slice.ensures ∙ c.record-item.is) c.in_err-run_record.ensures.stopped)

pub returns-in_err-run_record-clause-cause : goal.returns-in_err-run_record-clause-cause
returns-in_err-run_record-clause-cause g c =
    handed_on c.from_residual.result _ _ c.from_residual.ensures.1 (rises_behind _ _ c.loop-record.invariant.stays c.in_err-run_record.ensures.cause)

pub returns-in_err-run_record-clause-moments : goal.returns-in_err-run_record-clause-moments
returns-in_err-run_record-clause-moments g c = ran_lasts c.loop-record.invariant.ran (omega arith) _ _ (c.as_slice.ensures ∙ c.record-item.is) c.in_err-run_record.ensures.moments

pub returns-clause-done : goal.returns-clause-done
returns-clause-done g c = (ran_all c.loop-record.invariant.ran (omega arith)).serves

pub returns-clause-moments : goal.returns-clause-moments
returns-clause-moments g c = (ran_all c.loop-record.invariant.ran (omega arith)).lasts
