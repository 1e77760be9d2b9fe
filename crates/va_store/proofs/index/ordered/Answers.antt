use Rattle.std.proofs.Common.{rules, of_calls}
use Rattle.std.proofs.lemmas.Fn.{always_returns_same}
use Rattle.std.proofs.lemmas.List.Sorted.{IsNonDecreasingBy-from_sort_by_key}
use Rattle.va_store.specs.declared.index.LiveId.{LiveId}
use Rattle.va_store.proofs.index.ordered.Goals as goal

pub returns-clause-ordered : goal.returns-clause-ordered
returns-clause-ordered c =
    let items = c.in_ok-entries.ensures.items in
    record {
      moved = rw items at c.sort_by_key.ensures.permutation;
      ascends = IsNonDecreasingBy-from_sort_by_key (λ (e : LiveId). e.id) _ c.in-Ok.ensures.sorted (λ a r q k. search (rules, of_calls));
      stable = rw items at (c.sort_by_key.ensures.stable (λ (e : LiveId). e.id) (always_returns_same _ _ _ (λ a r f k. search (rules, of_calls))));
    }
