use Rattle.std.proofs.Common.{refl, rules}
use Rattle.va_search.proofs.Lending.{scan_told}
use Rattle.va_search.proofs.Seeking.{within_serves}
use Rattle.va_search.proofs.searching.find_within.Goals as goal

pub returns : goal.returns
returns g c =
    let says = c.within-found.ensures in
    scan_told c.within-found.result
    (record { pairs = says.pairs; took = says.took; stopped = says.stopped; on = says.goes_on; counts = says.cause }) says.candidates
    (λ sound. within_serves sound c.args.query.now c.args.radius) refl (search rules) c.told_of.ensures
