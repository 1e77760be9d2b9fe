use Rattle.std.proofs.Common.{◌≤◌, length, arith}
use Rattle.va_store.specs.Ids.{live_count}
use Rattle.va_store.proofs.Indexing.{count_most}
use Rattle.va_store.proofs.index.Index.live.Goals as goal

pub overflow_cast-result : goal.overflow_cast-result
overflow_cast-result c =
    let index = c.self.invariant in
    let most : live_count c.self.inside.ids.items ≤ length c.self.inside.ids.items = count_most c.self.inside.ids.items in
    omega (arith, most, index.0.count, index.2, c.len.ensures, c.self.inside.entries.ok)
