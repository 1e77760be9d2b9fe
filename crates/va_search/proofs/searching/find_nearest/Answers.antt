use Rattle.std.proofs.Common.{rules}
use Rattle.va_search.proofs.Lending.{pairs_told}
use Rattle.va_search.proofs.Seeking.{nearest_serves}
use Rattle.va_search.proofs.searching.find_nearest.Goals as goal

pub returns : goal.returns
returns g c =
    let says = c.nearest-found.ensures in
    pairs_told c.nearest-found.result
    (record { pairs = says.pairs; took = says.took; stopped = says.stopped; on = says.goes_on; counts = says.cause }) says.candidates
    (λ sound. nearest_serves sound c.args.query.now c.args.k) (search rules) c.told_of.ensures
