use Rattle.std.proofs.Common.{◌≡◌, ℕ, List, length, set, Option, None, ap, sym, subst, arith, rules}
use Rattle.std.specs.List.{remove}
use Rattle.std.proofs.lemmas.List.{length-set}
use Rattle.va_store.specs.Ids.{LivesAt}
use Rattle.va_store.specs.Index.{IsIndex}
use Rattle.va_store.specs.declared.index.LiveId.{LiveId}
use Rattle.va_store.proofs.Indexing.{IsPosition, position_at, found}
use Rattle.va_store.proofs.Changing.{cleared}
use Rattle.va_store.proofs.FilledTo.{filled_less}
use Rattle.va_store.proofs.index.Index.clear.Goals as goal

pub remove-requires : goal.remove-requires
remove-requires c =
    let ids = c.self.inside.ids.items in
    let entries = c.self.inside.entries.items in
    let lives : LivesAt c.args.id c.args.place ids = subst (λ (l : List (Option ℕ)). LivesAt c.args.id c.args.place l) (sym c.self.view_is) c.requires in
    let here : IsPosition entries c.args.id c.position-at.result = position_at _ _ _ _ _ c.deref.ensures.value c.from.ensures c.position-at.ensures.bound c.position-at.ensures.below c.position-at.ensures.above in
    let there = found ids entries c.args.id c.args.place c.position-at.result c.self.invariant.0 here lives in
    omega (arith, there.1.0, ap length c.deref.ensures.value, c.deref.ensures.len)

pub invariant_of-self : goal.invariant_of-self
invariant_of-self c =
    let ids = c.self.inside.ids.items in
    let entries = c.self.inside.entries.items in
    let at = c.position-at.result in
    let lives : LivesAt c.args.id c.args.place ids = subst (λ (l : List (Option ℕ)). LivesAt c.args.id c.args.place l) (sym c.self.view_is) c.requires in
    let here : IsPosition entries c.args.id at = position_at _ _ _ _ _ c.deref.ensures.value c.from.ensures c.position-at.ensures.bound c.position-at.ensures.below c.position-at.ensures.above in
    let there = found ids entries c.args.id c.args.place at c.self.invariant.0 here lives in
    let after : IsIndex (set ids c.args.place None) (remove entries at) = cleared ids entries c.args.place c.args.id at c.self.invariant.0 there.1.0 there.1.1 lives in
    let same : length (set ids c.args.place None) ≡ length ids = length-set ids c.args.place None in (
      subst (λ (l : List LiveId). IsIndex (set ids c.args.place None) l) (sym c.remove.ensures.items) after,
      omega (arith, same, c.self.invariant.1, c.remove.ensures.capacity),
      omega (arith, same, c.self.invariant.2),
      filled_less c.self.inside.filled ids c.args.place _ c.self.invariant.3 (search rules),
    )
