use Rattle.std.proofs.Common.{◌≡◌, ◌<◌, IfSome, is_some, subst}
use Rattle.va_store.specs.Known.{Known, is_live_id, place_of_id}
use Rattle.va_store.proofs.Finding.{found_live, found_place}
use Rattle.va_store.proofs.store.Store.place_of.Goals as goal

pub returns-clause-live : goal.returns-clause-live
returns-clause-live c = subst (λ (k : Known). is_some c.place_of.result ≡ is_live_id c.args.id k.ids) c.self.view_is (found_live c.args.id c.self.inside.index c.place_of.result c.place_of.ensures)

pub returns-clause-place : goal.returns-clause-place
returns-clause-place c = subst (λ (k : Known). IfSome c.place_of.result (λ p. (p ≡ place_of_id c.args.id k.ids) × (p < k.shape.capacity))) c.self.view_is
    (found_place c.args.id c.self.inside.index c.self.inside.layout.capacity c.place_of.result c.self.invariant.all c.place_of.ensures)
