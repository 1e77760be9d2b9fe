use Rattle.std.proofs.Common.{refl, rules}
use Rattle.va_search.proofs.Lending.{scan_told}
use Rattle.va_search.proofs.Seeking.{scan_serves}
use Rattle.va_search.proofs.searching.scan_nearest.Goals as goal

pub returns : goal.returns
returns g c =
    let says = c.scan_nearest-found.ensures in
    scan_told c.scan_nearest-found.result
    (record { pairs = says.pairs; took = says.took; stopped = says.stopped; on = says.goes_on; counts = says.cause }) says.candidates
    (λ sound. scan_serves sound c.args.query.now c.args.k) refl (search rules) c.told_of.ensures
