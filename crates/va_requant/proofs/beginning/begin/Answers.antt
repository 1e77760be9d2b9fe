use Rattle.std.proofs.Common.{map, ◌∙◌}
use Rattle.va_requant.specs.Refitting.{all_live}
use Rattle.va_requant.proofs.Tallying.{frame_behind, stays_behind}
use Rattle.va_store.proofs.Quiet.{reads_all}
use Rattle.va_requant.proofs.beginning.begin.Goals as goal
use Rattle.va_store.specs.ShelfReads.{read_of_id}

pub returns-in-Ok-begin-clause-outcomes : goal.returns-in-Ok-begin-clause-outcomes
returns-in-Ok-begin-clause-outcomes g c = λ honest x left. stays_behind c.tally_live.ensures.store c.tally_live.ensures.frame honest x (c.begin.ensures.outcomes honest x left)

pub returns-in-Ok-begin-clause-frame : goal.returns-in-Ok-begin-clause-frame
returns-in-Ok-begin-clause-frame g c = frame_behind c.tally_live.ensures.store c.tally_live.ensures.frame c.begin.ensures.frame

pub returns-clause-outcomes : goal.returns-clause-outcomes
returns-clause-outcomes g c = λ honest x left. stays_behind c.tally_live.ensures.store c.tally_live.ensures.frame honest x (c.begin.ensures.outcomes honest x left)

pub returns-clause-frame : goal.returns-clause-frame
returns-clause-frame g c = frame_behind c.tally_live.ensures.store c.tally_live.ensures.frame c.begin.ensures.frame

pub returns-clause-reads : goal.returns-clause-reads
returns-clause-reads g c = record {
  ok = tt;
  err = reads_all (map (read_of_id c.args.store.now) (all_live c.args.store.now)) (λ told. c.begin.ensures.frame.reads ∙ c.in_ok-tally.ensures.reads.ok told);
}
