use Rattle.std.proofs.Common.{◌≡◌, ◌-◌, ◌≤◌, ℕ, List, length, get_or, Option, refl, ap, sym, arith}
use Rattle.va_core.specs.Above.{live_above}
use Rattle.va_store.specs.Ids.{live_count}
use Rattle.va_store.proofs.AboveLive.{BeginsAt, count_above}
use Rattle.va_store.proofs.Indexing.{IsPosition, count_most, position_at}
use Rattle.va_store.proofs.Shelving.{once_of}
use Rattle.va_store.proofs.index.Index.live_above.Goals as goal

pub overflow_cast-result : goal.overflow_cast-result
overflow_cast-result c =
    let index = c.self.invariant in
    let most : live_count c.self.inside.ids.items ≤ length c.self.inside.ids.items = count_most c.self.inside.ids.items in
    omega (arith, most, index.0.count, index.2, c.len.ensures, c.self.inside.entries.ok)

pub returns : goal.returns
returns c =
    let ids = c.self.inside.ids.items in
    let entries = c.self.inside.entries.items in
    let least = c.least_above.result in
    let at = c.position-at.result in
    let here : IsPosition entries least at = position_at _ _ _ _ _ c.deref.ensures.value refl c.position-at.ensures.bound c.position-at.ensures.below c.position-at.ensures.above in
    let within : at ≤ length entries = omega (arith, c.position-at.ensures.bound, ap length c.deref.ensures.value, c.deref.ensures.len) in
    let begins : BeginsAt c.args.after at entries = record {
      within = within;
      below = λ i other less over. (let low = here.below i other less in let high = (c.least_above.ensures (get_or entries i other).id).0 over in omega (arith, low, high));
      above = λ i other from inside. (c.least_above.ensures (get_or entries i other).id).1 (here.above i other from inside);
    } in
    let count : length (live_above c.args.after ids) ≡ length entries - at =
    count_above c.self.invariant.0 (λ id p q. once_of ids entries c.self.invariant.0 id p q) (length entries - at) at c.args.after begins (omega (arith, within)) in
    let all : length (live_above c.args.after c.args.self.now) ≡ length (live_above c.args.after ids) = ap (λ (l : List (Option ℕ)). length (live_above c.args.after l)) (sym c.self.view_is) in
    omega (arith, all, count, within, c.len.ensures, c.self.inside.entries.ok)
