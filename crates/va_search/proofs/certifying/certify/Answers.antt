use Rattle.std.proofs.Common.{ap, arith, length, rules}
use Rattle.va_ports.specs.Shelves.{Contents}
use Rattle.va_search.proofs.Lending.{certificate_told}
use Rattle.va_store.proofs.Shelving.{count_from}
use Rattle.va_search.proofs.certifying.certify.Goals as goal

pub build-made-requires-clause-few : goal.build-made-requires-clause-few
build-made-requires-clause-few g c =
    let same = ap (λ (held : Contents). length held.cells) c.shelf.ensures.contents in
    omega (arith, same, count_from 0 c.args.store.now.ids, c.requires.few)

pub returns : goal.returns
returns g c =
    let says = c.build-made.ensures in
    certificate_told c.build-made.result
    (record { made = says.made; took = says.read; stopped = says.stopped; on = says.goes_on; counts = says.cause }) (search rules) c.told_of.ensures
