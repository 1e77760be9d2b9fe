use Rattle.std.proofs.Common.{ap, arith, rules, sym}
use Rattle.va_serve.specs.Progress.{line_left}
use Rattle.va_serve.proofs.Progressing.{lasts_one, serves_none, serves_one, stops_one}
use Rattle.va_serve.proofs.Taking.{last_of_handed}
use Rattle.va_serve.proofs.Showing.{step_ends, step_shows}
use Rattle.va_serve.proofs.serving.take_end.Goals as goal

pub returns-then-is_empty-clause-done : goal.returns-then-is_empty-clause-done
returns-then-is_empty-clause-done g c = serves_none (ap line_left (sym (c.is_empty.ensures.0 (search rules))))

pub returns-clause-done : goal.returns-clause-done
returns-clause-done g c =
    let are = last_of_handed c.args.buffer.now _ c.line.ensures (λ none. grind (arith, c.is_empty.ensures.1 none)) in
    serves_one g.D.Storage c.step.result _ _ _ _ _ are c.step.ensures.stepped c.step.ensures.read c.step.ensures.settled
    (step_shows g.D.Storage _ _ _ _ c.requires.fits (g.met.D.Disk.length_told c.args.desk.now) c.step.ensures.unwritten c.step.ensures.others c.step.result c.step.ensures.bounds c.step.ensures.held c.step.ensures.replied)

pub returns-clause-stopped : goal.returns-clause-stopped
returns-clause-stopped g c =
    let are = last_of_handed c.args.buffer.now _ c.line.ensures (λ none. grind (arith, c.is_empty.ensures.1 none)) in
    stops_one g.D.Storage c.step.result _ _ _ _ are c.step.ensures.failed c.step.ensures.read_first
    (step_ends g.D.Storage _ _ _ _ c.requires.fits (g.met.D.Disk.length_told c.args.desk.now) c.step.ensures.unwritten c.step.ensures.others c.step.result _ c.step.ensures.bounds c.step.ensures.held c.step.ensures.shown c.step.ensures.unreplied)

pub returns-clause-moments : goal.returns-clause-moments
returns-clause-moments g c =
    let are = last_of_handed c.args.buffer.now _ c.line.ensures (λ none. grind (arith, c.is_empty.ensures.1 none)) in
    lasts_one are c.step.ensures.moments
