use Rattle.std.proofs.Common.{ltb, rules, of_calls}
use Rattle.std.proofs.lemmas.Fn.{always_returns_same}
use Rattle.va_store.specs.declared.index.LiveId.{LiveId}
use Rattle.va_store.proofs.Indexing.{IsPosition, partitioned, position_of}
use Rattle.va_store.proofs.index.position.Goals as goal

pub returns-clause-below : goal.returns-clause-below
returns-clause-below c =
    let point = c.partition_point.ensures.partitioned (λ (e : LiveId). ltb e.id c.args.least) (always_returns_same _ _ _ (λ a r f k. search (rules, of_calls))) (partitioned c.args.entries.now c.args.least c.requires) in
    let here : IsPosition c.args.entries.now c.args.least c.partition_point.result = position_of _ _ _ c.partition_point.ensures.bound point.0 point.1 in
    here.below

pub returns-clause-above : goal.returns-clause-above
returns-clause-above c =
    let point = c.partition_point.ensures.partitioned (λ (e : LiveId). ltb e.id c.args.least) (always_returns_same _ _ _ (λ a r f k. search (rules, of_calls))) (partitioned c.args.entries.now c.args.least c.requires) in
    let here : IsPosition c.args.entries.now c.args.least c.partition_point.result = position_of _ _ _ c.partition_point.ensures.bound point.0 point.1 in
    here.above
