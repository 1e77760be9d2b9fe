use Rattle.std.proofs.Common.{◌∙◌, arith, map, refl, subst, sym}
use Rattle.va_model.specs.Lines.{line_of}
use Rattle.va_model.specs.Silent.{Sums}
use Rattle.va_serve.proofs.Progressing.{stay_both, stay_nothing}
use Rattle.va_serve.proofs.ScriptRuns.{SoFar, far_ends, far_more, far_none, far_stops, next_text, text_rests, text_starves}
use Rattle.va_serve.proofs.working.run_script.Goals as goal
use Rattle.va_store.proofs.Handing.{handed_on}

pub loop-line-init : goal.loop-line-init
loop-line-init g c = record {
  far = subst (λ (sums : Sums). SoFar g.D.Storage (map line_of c.args.script) (map line_of c.args.script) c.args.session.now.sitting c.args.session.now.sitting c.args.desk.now c.args.desk.now sums) (sym c.new-totals.ensures) far_none;
  fits = c.requires.fits;
  frame = record { given = refl; sink = refl; later = omega arith };
  stays = stay_nothing;
}

pub returns-in-Err-clause-stopped : goal.returns-in-Err-clause-stopped
returns-in-Err-clause-stopped g c = text_starves c.loop-line.script c.in-Err.ensures.wants c.loop-line.invariant.far

pub returns-in-Err-clause-moments : goal.returns-in-Err-clause-moments
returns-in-Err-clause-moments g c = text_rests c.loop-line.script c.in-Err.ensures.wants c.loop-line.invariant.far

pub returns-in_err-totals-in-Ok-Some-clause-stopped :
    goal.returns-in_err-totals-in-Ok-Some-clause-stopped
returns-in_err-totals-in-Ok-Some-clause-stopped g c =
    let next = next_text c.loop-line.script c.next_line.new.self c.in-Ok-Some.field-0 _ c.as_slice.result.now c.in-Ok-Some.ensures.given c.in-Ok-Some.field-0-is c.as_slice.ensures in
    handed_on c.from_residual.result _ _ c.from_residual.ensures.1 (far_stops c.loop-line.invariant.far next c.in_err-totals-in-Ok-Some.ensures.stopped)

pub returns-in_err-totals-in-Ok-Some-clause-moments :
    goal.returns-in_err-totals-in-Ok-Some-clause-moments
returns-in_err-totals-in-Ok-Some-clause-moments g c =
    let next = next_text c.loop-line.script c.next_line.new.self c.in-Ok-Some.field-0 _ c.as_slice.result.now c.in-Ok-Some.ensures.given c.in-Ok-Some.field-0-is c.as_slice.ensures in
    far_ends c.loop-line.invariant.far next c.hear.ensures.moments

pub loop-line-preserved : goal.loop-line-preserved
loop-line-preserved g c =
    let next = next_text c.loop-line.script c.next_line.new.self c.in-Ok-Some.field-0 _ c.as_slice.result.now c.in-Ok-Some.ensures.given c.in-Ok-Some.field-0-is c.as_slice.ensures in
    let so_far = c.loop-line.invariant in
    let now = c.in_ok-totals-in-Ok-Some.ensures in
    record {
      far = far_more so_far.far next now.ran now.adds c.hear.ensures.moments;
      fits = now.fits;
      frame = record {
        given = c.hear.ensures.frame.given ∙ so_far.frame.given;
        sink = c.hear.ensures.frame.sink ∙ so_far.frame.sink;
        later = omega (arith, c.hear.ensures.frame.later, so_far.frame.later);
      };
      stays = stay_both so_far.stays now.stayed;
    }
