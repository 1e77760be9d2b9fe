use Rattle.std.proofs.Common.{◌≡◌, ◌∙◌, refl, arith}
use Rattle.std.proofs.lemmas.Grind.{common_steps}
use Rattle.std.proofs.lemmas.Bool.Decides.{nat_tests}
use Rattle.va_serve.proofs.Progressing.{later_both, later_nothing, rose_since, stay_both, stay_nothing}
use Rattle.va_serve.proofs.Taking.{caused_line, ran_broken, ran_cut, ran_end, ran_exceeded, rises_done, running_more, running_start}
use Rattle.va_serve.proofs.serving.run_lines.Goals as goal

pub loop-left-init : goal.loop-left-init
loop-left-init g c = record {
  running = running_start c.requires.buffer;
  going = c.requires.going;
  fits = c.requires.fits;
  source = refl;
  later = later_nothing;
  stays = stay_nothing;
}

pub loop-left-preserved : goal.loop-left-preserved
loop-left-preserved g c =
    let now = c.in-Ok-take_piece.ensures in
    record {
      running = running_more c.loop-left.invariant.running _ _ c.in-Ok.ensures.taken c.in-Ok.ensures.front (grind (arith, common_steps, c.in-Ok.ensures.bound)) (g.met.D.Disk.is_outcome c.args.desk.now) now.moments now.open_line now.done;
      going = now.going;
      fits = now.fits;
      source = c.in-Ok.ensures.cause.stayed ∙ c.loop-left.invariant.source;
      later = later_both c.loop-left.invariant.later now.later;
      stays = stay_both c.loop-left.invariant.stays now.stayed;
    }

pub returns-in-Err : goal.returns-in-Err
returns-in-Err g c = ran_cut c.loop-left.invariant.running _ c.in-Err.ensures.nothing (record {
  cause = (rose_since c.loop-left.invariant.source c.in-Err.ensures.cause.rose, c.loop-left.invariant.stays);
  source_later = omega (arith, c.loop-left.invariant.source, c.in-Err.ensures.later);
  later = c.loop-left.invariant.later;
})

pub returns-in-Ok-eq0 : goal.returns-in-Ok-eq0
returns-in-Ok-eq0 g c =
    let none : c.in-Ok-eq0.field-0 ≡ 0 = grind (arith, nat_tests) in
    let last = c.finish.ensures in
    ran_end c.loop-left.invariant.running _ _ c.in-Ok-eq0.ensures.taken (c.in-Ok-eq0.ensures.front ∙ none) (c.in-Ok-eq0.ensures.end none) (g.met.D.Disk.is_outcome c.args.desk.now) c.finish.result
    last.done last.stopped last.moments last.cause (record {
      cause = caused_line g.D.Storage g.S.Source _ _ c.finish.result (c.in-Ok-eq0.ensures.cause.stayed ∙ c.loop-left.invariant.source) c.loop-left.invariant.stays last.stayed last.cause;
      source_later = omega (arith, c.loop-left.invariant.source, c.in-Ok-eq0.ensures.later);
      later = later_both c.loop-left.invariant.later last.later;
    })

pub returns-in-Err-take_piece : goal.returns-in-Err-take_piece
returns-in-Err-take_piece g c =
    let now = c.in-Err-take_piece.ensures in
    ran_broken c.loop-left.invariant.running _ _ c.in-Ok.ensures.taken c.in-Ok.ensures.front (grind (arith, common_steps, c.in-Ok.ensures.bound)) (g.met.D.Disk.is_outcome c.args.desk.now) now.moments
    now.stopped now.cause (record {
      cause = caused_line g.D.Storage g.S.Source _ _ c.in-Err-take_piece.status (c.in-Ok.ensures.cause.stayed ∙ c.loop-left.invariant.source) c.loop-left.invariant.stays
          (λ is. absurd (rises_done g.D.Storage _ _ _ now.cause is)) (λ going. now.cause);
      source_later = omega (arith, c.loop-left.invariant.source, c.in-Ok.ensures.later);
      later = later_both c.loop-left.invariant.later now.later;
    })

pub returns-in-Err-take_front : goal.returns-in-Err-take_front
returns-in-Err-take_front g c = ran_cut c.loop-left.invariant.running _ c.in-Err-take_front.ensures.nothing (record {
  cause = (rose_since c.loop-left.invariant.source c.in-Err-take_front.ensures.cause.rose, c.loop-left.invariant.stays);
  source_later = omega (arith, c.loop-left.invariant.source, c.in-Err-take_front.ensures.later);
  later = c.loop-left.invariant.later;
})

pub returns-in-Ok-eq0-take_front : goal.returns-in-Ok-eq0-take_front
returns-in-Ok-eq0-take_front g c =
    let none : c.in-Ok-eq0-take_front.field-0 ≡ 0 = grind (arith, nat_tests) in
    let last = c.finish-in-Ok-eq0-take_front.ensures in
    ran_end c.loop-left.invariant.running _ _ c.in-Ok-eq0-take_front.ensures.taken (c.in-Ok-eq0-take_front.ensures.front ∙ none) (c.in-Ok-eq0-take_front.ensures.end none) (g.met.D.Disk.is_outcome c.args.desk.now)
    c.finish-in-Ok-eq0-take_front.result last.done last.stopped last.moments last.cause (record {
      cause = caused_line g.D.Storage g.S.Source _ _ c.finish-in-Ok-eq0-take_front.result (c.in-Ok-eq0-take_front.ensures.cause.stayed ∙ c.loop-left.invariant.source) c.loop-left.invariant.stays last.stayed last.cause;
      source_later = omega (arith, c.loop-left.invariant.source, c.in-Ok-eq0-take_front.ensures.later);
      later = later_both c.loop-left.invariant.later last.later;
    })

pub returns-in-Ok-take_front : goal.returns-in-Ok-take_front
returns-in-Ok-take_front g c =
    let one : c.in-Ok-take_front.field-0 ≡ 1 = grind (arith, c.in-Ok-take_front.ensures.bound, c.in-Ok-take_front.field-0-test.1) in
    ran_exceeded c.loop-left.invariant.running _ _ c.in-Ok-take_front.ensures.taken (omega arith) (c.in-Ok-take_front.ensures.front ∙ one) (record {
      cause = record { input = c.in-Ok-take_front.ensures.cause.stayed ∙ c.loop-left.invariant.source; output = c.loop-left.invariant.stays };
      source_later = omega (arith, c.loop-left.invariant.source, c.in-Ok-take_front.ensures.later);
      later = c.loop-left.invariant.later;
    })
