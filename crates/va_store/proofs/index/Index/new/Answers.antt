use Rattle.std.proofs.Common.{◌≡◌, ℕ, [], List, length, replicate, Option, None, ap, sym, subst, ◌∙◌, arith, rules}
use Rattle.std.proofs.lemmas.List.{length-replicate}
use Rattle.va_store.specs.Index.{IsIndex}
use Rattle.va_store.specs.declared.index.LiveId.{LiveId}
use Rattle.va_store.proofs.Indexing.{index_empty}
use Rattle.va_store.proofs.FilledTo.{filled_none}
use Rattle.va_store.proofs.index.Index.new.Goals as goal

pub invariant_of-result : goal.invariant_of-result
invariant_of-result c =
    let ids = c.in-Ok.ids.items in
    let entries = c.in-Ok-with_capacity.entries.items in
    let empty : ids ≡ replicate c.args.capacity None = search rules in
    let none : entries ≡ [] = search rules in
    let long : length ids ≡ c.args.capacity = ap length empty ∙ length-replicate c.args.capacity None in (
      subst (λ (l : List (Option ℕ)). IsIndex l entries) (sym empty) (subst (λ (l : List LiveId). IsIndex (replicate c.args.capacity None) l) (sym none) (index_empty c.args.capacity)),
      omega (arith, long, c.in-Ok-with_capacity.ensures.exact),
      omega (arith, long, c.ranges.capacity.fits),
      filled_none ids,
    )
