use Rattle.std.proofs.Common.{◌≡◌, ◌<◌, ℕ, List, length, Option, None, Some, ap, subst, arith}
use Rattle.va_store.specs.Ids.{LivesAt}
use Rattle.va_store.specs.declared.index.LiveId.{LiveId}
use Rattle.va_store.proofs.Indexing.{IsPosition, position_at, missing_at_end, missing_there, place_is, lives_there}
use Rattle.va_store.proofs.index.Index.place_of.Goals as goal

pub returns-then-at-len : goal.returns-then-at-len
returns-then-at-len c = λ place.
    let ids = c.self.inside.ids.items in
    let entries = c.self.inside.entries.items in
    let here : IsPosition entries c.args.id c.position-at.result = position_at _ _ _ _ _ c.deref.ensures.value c.from.ensures c.position-at.ensures.bound c.position-at.ensures.below c.position-at.ensures.above in
    let end : c.position-at.result ≡ length entries = omega (arith, c.if-at-len.true, c.len.ensures, ap length c.deref.ensures.value, c.deref.ensures.len) in
    subst (λ (l : List (Option ℕ)). (None ≡ Some place → LivesAt c.args.id place l) × (LivesAt c.args.id place l → None ≡ Some place)) c.self.view_is
    (λ e. cc, λ lives. absurd (missing_at_end ids entries c.args.id c.position-at.result c.self.invariant.0 here place end lives))

pub returns-then-entry-id : goal.returns-then-entry-id
returns-then-entry-id c = λ place.
    let ids = c.self.inside.ids.items in
    let entries = c.self.inside.entries.items in
    let entry : LiveId = c.index-entry.result.now in
    let here : IsPosition entries c.args.id c.position-at.result = position_at _ _ _ _ _ c.deref.ensures.value c.from.ensures c.position-at.ensures.bound c.position-at.ensures.below c.position-at.ensures.above in
    let less : c.position-at.result < length entries = omega (arith, c.if-at-len.false, c.position-at.ensures.bound, c.len.ensures, ap length c.deref.ensures.value, c.deref.ensures.len) in
    subst (λ (l : List (Option ℕ)). (Some entry.place ≡ Some place → LivesAt c.args.id place l) × (LivesAt c.args.id place l → Some entry.place ≡ Some place)) c.self.view_is (
      λ e. lives_there ids entries c.args.id c.position-at.result c.self.invariant.0 here entry c.index-entry.ensures place less c.if-entry-id.true e,
      λ lives. place_is ids entries c.args.id c.position-at.result c.self.invariant.0 here entry c.index-entry.ensures place lives,
    )

pub returns-else-entry-id : goal.returns-else-entry-id
returns-else-entry-id c = λ place.
    let ids = c.self.inside.ids.items in
    let entries = c.self.inside.entries.items in
    let entry : LiveId = c.index-entry.result.now in
    let here : IsPosition entries c.args.id c.position-at.result = position_at _ _ _ _ _ c.deref.ensures.value c.from.ensures c.position-at.ensures.bound c.position-at.ensures.below c.position-at.ensures.above in
    subst (λ (l : List (Option ℕ)). (None ≡ Some place → LivesAt c.args.id place l) × (LivesAt c.args.id place l → None ≡ Some place)) c.self.view_is
    (λ e. cc, λ lives. absurd (missing_there ids entries c.args.id c.position-at.result c.self.invariant.0 here entry c.index-entry.ensures place c.if-entry-id.false lives))
