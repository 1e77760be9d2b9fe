use Rattle.std.proofs.Common.{ltb, sym, rules, arith, of_calls}
use Rattle.std.proofs.lemmas.Fn.{always_returns_same}
use Rattle.va_check.proofs.Looking.{IsParted, found_nowhere, is_found, is_missing, parted}
use Rattle.va_check.proofs.lookups.row_of.Goals as goal

pub returns-then-at-rows : goal.returns-then-at-rows
returns-then-at-rows g c =
    let id = g.R.Row.key in
    let point = c.partition_point-at.ensures.partitioned (λ row. ltb (id row) c.args.id) (always_returns_same _ _ _ (λ a r f k. search (rules, of_calls))) (parted id c.args.rows.now c.args.id c.requires) in
    let part : IsParted id c.args.rows.now c.args.id c.partition_point-at.result = record { within = c.partition_point-at.ensures.bound; below = point.0; others = point.1 } in
    sym (found_nowhere id c.args.rows.now c.args.id c.partition_point-at.result part (omega (arith, c.if-at-rows.true)))

pub returns-then-id : goal.returns-then-id
returns-then-id g c =
    let id = g.R.Row.key in
    let point = c.partition_point-at.ensures.partitioned (λ row. ltb (id row) c.args.id) (always_returns_same _ _ _ (λ a r f k. search (rules, of_calls))) (parted id c.args.rows.now c.args.id c.requires) in
    let part : IsParted id c.args.rows.now c.args.id c.partition_point-at.result = record { within = c.partition_point-at.ensures.bound; below = point.0; others = point.1 } in
    is_found id c.args.rows.now c.args.id c.partition_point-at.result c.index-rows-at.result c.requires part (omega (arith, c.if-at-rows.false, c.partition_point-at.ensures.bound)) (search rules) (search rules)

pub returns-else-id : goal.returns-else-id
returns-else-id g c =
    let id = g.R.Row.key in
    let point = c.partition_point-at.ensures.partitioned (λ row. ltb (id row) c.args.id) (always_returns_same _ _ _ (λ a r f k. search (rules, of_calls))) (parted id c.args.rows.now c.args.id c.requires) in
    let part : IsParted id c.args.rows.now c.args.id c.partition_point-at.result = record { within = c.partition_point-at.ensures.bound; below = point.0; others = point.1 } in
    is_missing id c.args.rows.now c.args.id c.partition_point-at.result c.index-rows-at.result c.requires part (omega (arith, c.if-at-rows.false, c.partition_point-at.ensures.bound)) (search rules) (search rules)
