use Rattle.std.proofs.Common.{refl}
use Rattle.va_lang.specs.Command.{range}
use Rattle.va_lang.specs.SaidCommand.{query_in}
use Rattle.va_model.specs.Step.{query_asked}
use Rattle.va_serve.specs.Session.{over_store}
use Rattle.va_serve.proofs.Asking.{range_searches, within_says, weights_asked}
use Rattle.va_serve.proofs.Bounds.{bounds_failed, bounds_found, bounds_nothing}
use Rattle.va_serve.proofs.Seeking.{search_carries, search_fails, search_unasked}
use Rattle.va_serve.proofs.searching.range.Goals as goal

pub find_within-requires-clause-dims : goal.find_within-requires-clause-dims
find_within-requires-clause-dims g c = weights_asked c.in-Ok.ensures.asked

pub returns-in-Ok-find_within-clause-obeys : goal.returns-in-Ok-find_within-clause-obeys
returns-in-Ok-find_within-clause-obeys g c = λ lent cursors.
    let search = range_searches c.args.store.now (query_in c.args.room.now) c.in-Ok.ensures.asked.same c.args.radius refl in
    let e = c.in-Ok-find_within.ensures in
    search_carries cursors search c.in-Ok.ensures.asked.free e _ refl (within_says c.args.radius e c.live.ensures)

pub returns-clause-obeys : goal.returns-clause-obeys
returns-clause-obeys g c = λ lent cursors.
    let search = range_searches c.args.store.now (query_in c.args.room.now) c.in-Ok.ensures.asked.same c.args.radius refl in
    rw c.unanswered.ensures (search_fails cursors search c.in-Ok.ensures.asked.free c.in-Err-find_within.ensures lent)

pub returns-in-Err-clause-obeys : goal.returns-in-Err-clause-obeys
returns-in-Err-clause-obeys g c = λ lent cursors.
    search_unasked cursors (range_searches c.args.store.now (query_in c.args.room.now) refl c.args.radius refl) c.in-Err.why c.in-Err.ensures.why

pub returns-in-Ok-find_within-clause-bounds : goal.returns-in-Ok-find_within-clause-bounds
returns-in-Ok-find_within-clause-bounds g c =
    let search = range_searches c.args.store.now (query_in c.args.room.now) c.in-Ok.ensures.asked.same c.args.radius refl in
    bounds_found g.D.Storage search.asks c.in-Ok-find_within.ensures

pub returns-clause-bounds : goal.returns-clause-bounds
returns-clause-bounds g c =
    let search = range_searches c.args.store.now (query_in c.args.room.now) c.in-Ok.ensures.asked.same c.args.radius refl in
    rw c.unanswered.ensures (bounds_failed g.D.Storage search.asks c.in-Err-find_within.ensures)

pub returns-in-Err-clause-bounds : goal.returns-in-Err-clause-bounds
returns-in-Err-clause-bounds g c = bounds_nothing g.D.Storage (query_asked (range c.args.radius (query_in c.args.room.now))) (over_store c.args.store.now) c.args.disk.now
