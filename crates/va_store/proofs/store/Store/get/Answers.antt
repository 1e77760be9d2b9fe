use Rattle.std.proofs.Common.{refl}
use Rattle.va_store.proofs.store.Store.get.Goals as goal

pub returns-in-Ok-clause-vector : goal.returns-in-Ok-clause-vector
returns-in-Ok-clause-vector g c =
    let at = c.in-Some.ensures.place.0 in
    rw at at (c.in-Ok.ensures.vector c.args.id ((c.in-Some.ensures.lives c.in-Some.place).0 refl))
