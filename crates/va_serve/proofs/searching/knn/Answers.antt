use Rattle.std.proofs.Common.{arith, refl}
use Rattle.va_lang.specs.Command.{knn}
use Rattle.va_lang.specs.SaidCommand.{query_in}
use Rattle.va_model.specs.Step.{query_asked}
use Rattle.va_serve.specs.Session.{over_store}
use Rattle.va_serve.proofs.Asking.{knn_searches, near_says, number_asked, weights_asked}
use Rattle.va_serve.proofs.Bounds.{bounds_failed, bounds_found, bounds_nothing}
use Rattle.va_serve.proofs.Seeking.{search_carries, search_fails, search_unasked}
use Rattle.va_serve.proofs.searching.knn.Goals as goal

pub find_nearest-requires-clause-some : goal.find_nearest-requires-clause-some
find_nearest-requires-clause-some g c = number_asked c.in-Ok.ensures.asked c.args.k c.number_refusal.ensures

pub find_nearest-requires-clause-dims : goal.find_nearest-requires-clause-dims
find_nearest-requires-clause-dims g c = weights_asked c.in-Ok.ensures.asked

pub returns-in-Ok-find_nearest-clause-obeys : goal.returns-in-Ok-find_nearest-clause-obeys
returns-in-Ok-find_nearest-clause-obeys g c = λ lent cursors.
    let search = knn_searches c.args.store.now (query_in c.args.room.now) c.in-Ok.ensures.asked.same c.args.k c.number_refusal.ensures in
    let e = c.in-Ok-find_nearest.ensures in
    search_carries cursors search c.in-Ok.ensures.asked.free e _ refl (near_says c.args.k e c.count_of-fetched.ensures c.live.ensures (omega (arith, c.live.type_inv)))

pub returns-clause-obeys : goal.returns-clause-obeys
returns-clause-obeys g c = λ lent cursors.
    let search = knn_searches c.args.store.now (query_in c.args.room.now) c.in-Ok.ensures.asked.same c.args.k c.number_refusal.ensures in
    rw c.unanswered.ensures (search_fails cursors search c.in-Ok.ensures.asked.free c.in-Err-find_nearest.ensures lent)

pub returns-in-Err-clause-obeys : goal.returns-in-Err-clause-obeys
returns-in-Err-clause-obeys g c = λ lent cursors.
    search_unasked cursors (knn_searches c.args.store.now (query_in c.args.room.now) refl c.args.k c.number_refusal.ensures) c.in-Err.why c.in-Err.ensures.why

pub returns-in-Ok-find_nearest-clause-bounds : goal.returns-in-Ok-find_nearest-clause-bounds
returns-in-Ok-find_nearest-clause-bounds g c =
    let search = knn_searches c.args.store.now (query_in c.args.room.now) c.in-Ok.ensures.asked.same c.args.k c.number_refusal.ensures in
    bounds_found g.D.Storage search.asks c.in-Ok-find_nearest.ensures

pub returns-clause-bounds : goal.returns-clause-bounds
returns-clause-bounds g c =
    let search = knn_searches c.args.store.now (query_in c.args.room.now) c.in-Ok.ensures.asked.same c.args.k c.number_refusal.ensures in
    rw c.unanswered.ensures (bounds_failed g.D.Storage search.asks c.in-Err-find_nearest.ensures)

pub returns-in-Err-clause-bounds : goal.returns-in-Err-clause-bounds
returns-in-Err-clause-bounds g c = bounds_nothing g.D.Storage (query_asked (knn c.args.k (query_in c.args.room.now))) (over_store c.args.store.now) c.args.disk.now
