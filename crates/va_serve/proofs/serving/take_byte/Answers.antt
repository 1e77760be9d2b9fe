use Rattle.std.proofs.Common.{◌≡◌, arith}
use Rattle.std.proofs.lemmas.Bool.Decides.{nat_tests}
use Rattle.va_serve.proofs.Progressing.{ended_line, ended_none, lasts_one, serves_none, serves_one, stops_one}
use Rattle.va_serve.proofs.Showing.{step_ends, step_shows}
use Rattle.va_serve.proofs.serving.take_byte.Goals as goal

pub returns-then-byte-ne10-clause-done : goal.returns-then-byte-ne10-clause-done
returns-then-byte-ne10-clause-done g c = serves_none (ended_none c.args.byte c.args.buffer.now (grind (arith, nat_tests)))

pub returns-clause-done : goal.returns-clause-done
returns-clause-done g c =
    let is : c.args.byte ≡ 10 = grind (arith, nat_tests) in
    serves_one g.D.Storage c.step-done.result _ _ _ _ _ (ended_line c.args.byte c.args.buffer.now _ c.line.ensures is) c.step-done.ensures.stepped c.step-done.ensures.read c.step-done.ensures.settled
    (step_shows g.D.Storage _ _ _ _ c.requires.fits (g.met.D.Disk.length_told c.args.desk.now) c.step-done.ensures.unwritten c.step-done.ensures.others c.step-done.result c.step-done.ensures.bounds c.step-done.ensures.held c.step-done.ensures.replied)

pub returns-clause-stopped : goal.returns-clause-stopped
returns-clause-stopped g c =
    let is : c.args.byte ≡ 10 = grind (arith, nat_tests) in
    stops_one g.D.Storage c.step-done.result _ _ _ _ (ended_line c.args.byte c.args.buffer.now _ c.line.ensures is) c.step-done.ensures.failed c.step-done.ensures.read_first
    (step_ends g.D.Storage _ _ _ _ c.requires.fits (g.met.D.Disk.length_told c.args.desk.now) c.step-done.ensures.unwritten c.step-done.ensures.others c.step-done.result _ c.step-done.ensures.bounds c.step-done.ensures.held c.step-done.ensures.shown c.step-done.ensures.unreplied)

pub returns-clause-moments : goal.returns-clause-moments
returns-clause-moments g c =
    let is : c.args.byte ≡ 10 = grind (arith, nat_tests) in
    lasts_one (ended_line c.args.byte c.args.buffer.now _ c.line.ensures is) c.step-done.ensures.moments
