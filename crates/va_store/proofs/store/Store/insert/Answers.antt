use Rattle.va_store.proofs.Filling.{held_stay}
use Rattle.va_store.proofs.store.Store.insert.Goals as goal

pub returns-in-Ok-clause-held : goal.returns-in-Ok-clause-held
returns-in-Ok-clause-held g c = λ told.
    let found = c.in-Some-first_free.ensures in
    held_stay c.args.self.now.shape c.args.held.now found.some.1 found.some.3 (rw found.store at (c.fill_place.ensures.rest told))

pub returns-in-Err-clause-held : goal.returns-in-Err-clause-held
returns-in-Err-clause-held g c = λ told.
    let found = c.in-Some-first_free.ensures in
    held_stay c.args.self.now.shape c.args.held.now found.some.1 found.some.3 (rw found.store at (c.fill_place.ensures.rest told))
