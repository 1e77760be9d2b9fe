use Rattle.va_cursor.proofs.Ordering.{popped_room, pushed_count, settled_in_order}
use Rattle.va_cursor.proofs.reading.settle_first.Goals as goal

pub push-requires : goal.push-requires
push-requires c = popped_room c.pop.new.self.room c.in-Some.ensures.rest (rw c.in-Some.ensures.room c.requires.room)

pub returns-in-Some-clause-settled : goal.returns-in-Some-clause-settled
returns-in-Some-clause-settled c entry rest first =
    settled_in_order c.args.dist c.requires.differ c.in-Some.ensures.rest c.in-Some.ensures.least c.push.ensures.more first

pub returns-in-Some-clause-count : goal.returns-in-Some-clause-count
returns-in-Some-clause-count c = pushed_count c.push.new.self.entries c.in-Some.ensures.rest c.push.ensures.count
