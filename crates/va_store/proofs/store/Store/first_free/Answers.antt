use Rattle.std.proofs.Common.{◌≡◌, ◌<◌, None, IfSome, get_or, length, subst}
use Rattle.va_store.specs.Known.{Known, first_free}
use Rattle.va_store.proofs.Finding.{found_free, found_full}
use Rattle.va_store.proofs.store.Store.first_free.Goals as goal

pub returns-clause-some : goal.returns-clause-some
returns-clause-some c = subst (λ (k : Known). IfSome c.first_free.result (λ p. (p ≡ first_free k.ids c.args.held.now) × (p < k.shape.capacity) × (get_or k.ids p None ≡ None) × (get_or c.args.held.now p 0 ≡ 0))) c.self.view_is
    (found_free c.self.inside.index c.args.held.now c.self.inside.layout.capacity c.first_free.result c.self.invariant.all c.first_free.ensures.first)

pub returns-clause-none : goal.returns-clause-none
returns-clause-none c = subst (λ (k : Known). c.first_free.result ≡ None → first_free k.ids c.args.held.now ≡ length k.ids) c.self.view_is
    (found_full c.self.inside.index c.args.held.now c.first_free.result c.first_free.ensures.first)
