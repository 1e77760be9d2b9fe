use Rattle.std.proofs.Common.{◌≡◌, ap}
use Rattle.va_layout.proofs.Writes.{on_ok}
use Rattle.va_store.specs.Known.{Known}
use Rattle.va_store.proofs.Emptying.{vector_of}
use Rattle.va_store.proofs.store.Store.fetch_live.Goals as goal

pub returns-clause-vector : goal.returns-clause-vector
returns-clause-vector g c = on_ok c.fetch.result c.fetch.ensures.vector (λ read id lives told kept is opens.
    let D = g.D.Storage in
    let same : c.self.inside.layout ≡ c.args.self.now.shape = ap (λ (k : Known). k.shape) c.self.view_is in
    vector_of c.args.self.now kept c.args.place id (D.image c.args.disk.now) _ is opens c.requires.place lives (rw same at (read told)))
