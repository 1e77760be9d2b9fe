use Rattle.std.proofs.Common.{refl}
use Rattle.va_serve.proofs.Progressing.{lasts_one, serves_one, stops_one}
use Rattle.va_serve.proofs.Showing.{step_ends, step_shows}
use Rattle.va_serve.proofs.importing.run_record.Goals as goal

pub returns-clause-done : goal.returns-clause-done
returns-clause-done g c =
    serves_one g.D.Storage c.step.result _ _ _ _ _ refl c.step.ensures.stepped c.step.ensures.read c.step.ensures.settled
    (step_shows g.D.Storage _ _ _ _ c.requires.fits (g.met.D.Disk.length_told c.args.desk.now) c.step.ensures.unwritten c.step.ensures.others c.step.result c.step.ensures.bounds c.step.ensures.held c.step.ensures.replied)

pub returns-clause-stopped : goal.returns-clause-stopped
returns-clause-stopped g c =
    stops_one g.D.Storage c.step.result _ _ _ _ refl c.step.ensures.failed c.step.ensures.read_first
    (step_ends g.D.Storage _ _ _ _ c.requires.fits (g.met.D.Disk.length_told c.args.desk.now) c.step.ensures.unwritten c.step.ensures.others c.step.result _ c.step.ensures.bounds c.step.ensures.held c.step.ensures.shown c.step.ensures.unreplied)

pub returns-clause-moments : goal.returns-clause-moments
returns-clause-moments g c = lasts_one refl c.step.ensures.moments
