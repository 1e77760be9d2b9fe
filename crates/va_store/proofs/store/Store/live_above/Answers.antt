use Rattle.std.proofs.Common.{◌≡◌, ◌∷◌, ℕ, Option, Some, subst}
use Rattle.va_core.specs.Above.{live_above}
use Rattle.va_store.specs.Ids.{IsNextLive}
use Rattle.va_store.specs.Known.{Known}
use Rattle.va_store.proofs.AboveLive.{next_above}
use Rattle.va_store.proofs.store.Store.live_above.Goals as goal

pub returns-clause-next : goal.returns-clause-next
returns-clause-next c = subst (λ (k : Known). (other : Option ℕ) (next : ℕ) → IsNextLive other k.ids (Some next) → live_above other k.ids ≡ next ∷ live_above (Some next) k.ids) c.self.view_is
    (λ other next is. next_above other next c.self.inside.index is (c.lists_once.ensures next))
