use Rattle.std.proofs.Common.{◌≡◌, ◌<◌, ◌≤◌, ℕ, List, length, get_or, set, Option, None, Some, vec_len, ap, sym, subst, arith}
use Rattle.std.specs.List.{insert}
use Rattle.std.specs.Vec.{vec_capacity}
use Rattle.std.proofs.lemmas.List.{length-set}
use Rattle.va_store.specs.Ids.{LivesNowhere, live_count}
use Rattle.va_store.specs.Index.{IsIndex}
use Rattle.va_store.specs.declared.index.LiveId.{LiveId}
use Rattle.va_store.proofs.Indexing.{IsPosition, position_at, count_room, ok_items}
use Rattle.va_store.proofs.Changing.{filled}
use Rattle.va_store.proofs.FilledTo.{filled_more}
use Rattle.va_store.proofs.index.Index.fill.Goals as goal

pub invariant_of-self : goal.invariant_of-self
invariant_of-self c =
    let ids = c.self.inside.ids.items in
    let entries = c.self.inside.entries.items in
    let at = c.position-at.result in
    let place = c.args.place in
    let id = c.args.id in
    let view : ids ≡ c.args.self.now = c.self.view_is in
    let inside : place < length ids = subst (λ (l : List (Option ℕ)). place < length l) (sym view) c.requires.place in
    let empty : get_or ids place None ≡ None = subst (λ (l : List (Option ℕ)). get_or l place None ≡ None) (sym view) c.requires.empty in
    let absent : LivesNowhere id ids = subst (λ (l : List (Option ℕ)). LivesNowhere id l) (sym view) c.requires.absent in
    let here : IsPosition entries id at = position_at _ _ _ _ _ c.deref.ensures.value c.from.ensures c.position-at.ensures.bound c.position-at.ensures.below c.position-at.ensures.above in
    let after : IsIndex (set ids place (Some id)) (insert entries at (record { id = id; place = place })) = filled ids entries place id at c.self.invariant.0 inside empty absent here in
    let room : live_count ids < length ids = count_room ids place inside empty in
    let some : vec_capacity c.self.inside.entries ≤ vec_len c.self.inside.entries → ⊥ = λ full. omega (arith, full, room, c.self.invariant.0.count, c.self.invariant.1, ap length c.deref.ensures.value, c.deref.ensures.len) in
    let items = ok_items c.insert.result _ _ _ (vec_capacity c.self.inside.entries ≤ vec_len c.self.inside.entries) some c.insert.ensures.full c.insert.ensures.items in
    let same : length (set ids place (Some id)) ≡ length ids = length-set ids place (Some id) in (
      subst (λ (l : List LiveId). IsIndex (set ids place (Some id)) l) (sym items) after,
      omega (arith, same, c.self.invariant.1, c.insert.ensures.capacity),
      omega (arith, same, c.self.invariant.2),
      filled_more c.self.inside.filled ids place id c.self.invariant.3,
    )
