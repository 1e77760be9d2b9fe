use Rattle.std.proofs.Common.{◌≡◌, ◌<◌, ◌≤◌, ℕ, List, length, get_or, Option, refl, ap, sym, subst, arith}
use Rattle.va_store.specs.Ids.{LivesAt}
use Rattle.va_store.specs.declared.index.LiveId.{LiveId}
use Rattle.va_store.proofs.Indexing.{IsPosition, position_at, entry_behind, next_least}
use Rattle.va_store.proofs.index.Index.next_live.Goals as goal

pub returns-then-at-len : goal.returns-then-at-len
returns-then-at-len c = λ id place lives above.
    let ids = c.self.inside.ids.items in
    let entries = c.self.inside.entries.items in
    let least = c.least_above-least.result in
    let here : IsPosition entries least c.position-at.result = position_at _ _ _ _ _ c.deref.ensures.value refl c.position-at.ensures.bound c.position-at.ensures.below c.position-at.ensures.above in
    let there : LivesAt id place ids = subst (λ (l : List (Option ℕ)). LivesAt id place l) (sym c.self.view_is) lives in
    let behind = entry_behind ids entries least c.position-at.result id place c.self.invariant.0 here there ((c.least_above-least.ensures id).0 above) in
    omega (arith, behind.1, behind.2, c.if-at-len.true, c.len.ensures, ap length c.deref.ensures.value, c.deref.ensures.len)

pub returns-else-at-len : goal.returns-else-at-len
returns-else-at-len c =
    let ids = c.self.inside.ids.items in
    let entries = c.self.inside.entries.items in
    let least = c.least_above-least.result in
    let at = c.position-at.result in
    let entry : LiveId = c.index.result.now in
    let is : entry ≡ get_or entries at entry = c.index.ensures in
    let here : IsPosition entries least at = position_at _ _ _ _ _ c.deref.ensures.value refl c.position-at.ensures.bound c.position-at.ensures.below c.position-at.ensures.above in
    let less : at < length entries = omega (arith, c.if-at-len.false, c.position-at.ensures.bound, c.len.ensures, ap length c.deref.ensures.value, c.deref.ensures.len) in
    let lives : LivesAt entry.id entry.place ids = subst (λ (x : LiveId). LivesAt x.id x.place ids) (sym is) (c.self.invariant.0.live at entry less) in
    let from : least ≤ entry.id = subst (λ (x : LiveId). least ≤ x.id) (sym is) (here.above at entry (omega arith) less) in (
      (entry.place, subst (λ (l : List (Option ℕ)). LivesAt entry.id entry.place l) c.self.view_is lives),
      (c.least_above-least.ensures entry.id).1 from,
      λ id place other above. next_least ids entries least at id place c.self.invariant.0 here (subst (λ (l : List (Option ℕ)). LivesAt id place l) (sym c.self.view_is) other) ((c.least_above-least.ensures id).0 above) entry is,
    )
