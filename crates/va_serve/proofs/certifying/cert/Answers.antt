use Rattle.std.proofs.Common.{arith, refl}
use Rattle.va_lang.specs.Command.{cert}
use Rattle.va_lang.specs.SaidCommand.{query_in}
use Rattle.va_model.specs.Step.{query_asked}
use Rattle.va_serve.specs.Session.{over_store}
use Rattle.va_serve.proofs.Asking.{cert_searches, certificate_asked, weights_asked}
use Rattle.va_serve.proofs.Bounds.{bounds_failed, bounds_found, bounds_nothing}
use Rattle.va_serve.proofs.Certified.{certificate_carries}
use Rattle.va_serve.proofs.Seeking.{search_fails, search_unasked}
use Rattle.va_serve.proofs.certifying.cert.Goals as goal

pub certify-requires-clause-some : goal.certify-requires-clause-some
certify-requires-clause-some g c = (certificate_asked c.in-Ok.ensures.asked c.args.k c.live.result c.certificate_refusal.ensures).0

pub certify-requires-clause-few : goal.certify-requires-clause-few
certify-requires-clause-few g c =
    let few = (certificate_asked c.in-Ok.ensures.asked c.args.k c.live.result c.certificate_refusal.ensures).1 in
    omega (arith, few, c.live.ensures)

pub certify-requires-clause-dims : goal.certify-requires-clause-dims
certify-requires-clause-dims g c = weights_asked c.in-Ok.ensures.asked

pub returns-in-Ok-certify-clause-obeys : goal.returns-in-Ok-certify-clause-obeys
returns-in-Ok-certify-clause-obeys g c = λ lent cursors.
    let search = cert_searches c.args.store.now (query_in c.args.room.now) c.in-Ok.ensures.asked.same c.args.k c.live.ensures c.certificate_refusal.ensures in
    certificate_carries cursors search c.in-Ok.ensures.asked.free c.in-Ok-certify.ensures lent c.written.result c.written.ensures

pub returns-clause-obeys : goal.returns-clause-obeys
returns-clause-obeys g c = λ lent cursors.
    let search = cert_searches c.args.store.now (query_in c.args.room.now) c.in-Ok.ensures.asked.same c.args.k c.live.ensures c.certificate_refusal.ensures in
    rw c.unanswered.ensures (search_fails cursors search c.in-Ok.ensures.asked.free c.in-Err-certify.ensures lent)

pub returns-in-Err-clause-obeys : goal.returns-in-Err-clause-obeys
returns-in-Err-clause-obeys g c = λ lent cursors.
    search_unasked cursors (cert_searches c.args.store.now (query_in c.args.room.now) refl c.args.k c.live.ensures c.certificate_refusal.ensures) c.in-Err.why c.in-Err.ensures.why

pub returns-in-Ok-certify-clause-bounds : goal.returns-in-Ok-certify-clause-bounds
returns-in-Ok-certify-clause-bounds g c =
    let search = cert_searches c.args.store.now (query_in c.args.room.now) c.in-Ok.ensures.asked.same c.args.k c.live.ensures c.certificate_refusal.ensures in
    bounds_found g.D.Storage search.asks c.in-Ok-certify.ensures

pub returns-clause-bounds : goal.returns-clause-bounds
returns-clause-bounds g c =
    let search = cert_searches c.args.store.now (query_in c.args.room.now) c.in-Ok.ensures.asked.same c.args.k c.live.ensures c.certificate_refusal.ensures in
    rw c.unanswered.ensures (bounds_failed g.D.Storage search.asks c.in-Err-certify.ensures)

pub returns-in-Err-clause-bounds : goal.returns-in-Err-clause-bounds
returns-in-Err-clause-bounds g c = bounds_nothing g.D.Storage (query_asked (cert c.args.k (query_in c.args.room.now))) (over_store c.args.store.now) c.args.disk.now
