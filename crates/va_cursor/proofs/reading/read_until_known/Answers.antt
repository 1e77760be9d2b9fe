use Rattle.std.proofs.Common.{◌∙◌, sym}
use Rattle.va_bounded.proofs.Giving.{err_is}
use Rattle.va_cursor.specs.Cursors.{in_order}
use Rattle.va_cursor.specs.Fetches.{Halts}
use Rattle.va_cursor.proofs.Visiting.{halts_both, visits_both}
use Rattle.va_cursor.proofs.reading.read_until_known.Goals as goal

pub returns-in_err-read_first-clause-halts : goal.returns-in_err-read_first-clause-halts
returns-in_err-read_first-clause-halts g c =
    err_is c.from_residual.result c.in_err-read_first.field-0.0 (Halts g.S.Shelf c.args.query.now (in_order c.args.queue.now.entries) (in_order c.read_first.new.queue.entries) c.args.shelf.now c.read_first.new.shelf c.args.count.now c.read_first.new.count)
    c.from_residual.ensures.1 (halts_both g.S.Shelf c.args.query.now g.met.S.Shelf.passes_both c.loop.invariant.stay c.loop.invariant.visits c.in_err-read_first.ensures.halts)

pub loop-preserved : goal.loop-preserved
loop-preserved g c = record {
  stay = c.in_ok-read_first.ensures.contents ∙ c.loop.invariant.stay;
  vector_length = c.in_ok-read_first.ensures.length ∙ c.loop.invariant.vector_length;
  visits = visits_both g.S.Shelf c.args.query.now g.met.S.Shelf.passes_both c.loop.invariant.stay c.loop.invariant.visits c.in_ok-read_first.ensures.visits;
  waiting = rw (sym c.loop.invariant.stay) c.in_ok-read_first.ensures.waiting;
  small = c.in_ok-read_first.ensures.small;
  as_many = c.in_ok-read_first.ensures.as_many ∙ c.loop.invariant.as_many;
  left = c.in_ok-read_first.ensures.left ∙ c.loop.invariant.left;
  faults = c.in_ok-read_first.ensures.cause.stayed ∙ c.loop.invariant.faults;
}

pub returns-clause-visits : goal.returns-clause-visits
returns-clause-visits g c = visits_both g.S.Shelf c.args.query.now g.met.S.Shelf.passes_both c.loop.invariant.stay c.loop.invariant.visits c.in_ok-read_first.ensures.visits
