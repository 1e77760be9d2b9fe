use Rattle.std.proofs.Common.{◌≡◌, ◌+◌, ◌<◌, ◌^◌, length}
use Rattle.va_cursor.specs.Cursors.{IsWaiting, in_order}
use Rattle.va_cursor.specs.Fetches.{Visits, wide_count}
use Rattle.va_cursor.proofs.reading.read_until_known.Given as goal

abbrev pub invariant-loop : goal.invariant-loop
invariant-loop g l =
    let cs = g.S.Shelf.contents l.fn.shelf in
    record {
      stay : g.S.Shelf.contents l.shelf ≡ cs;
      vector_length : length l.vector ≡ cs.shape.dims;
      visits : Visits g.S.Shelf l.query (in_order l.fn.queue.entries) (in_order l.queue.entries) l.fn.shelf l.shelf l.fn.count l.count;
      waiting : IsWaiting cs.shape.capacity l.queue;
      small : l.count + wide_count (in_order l.queue.entries) < 2 ^ 32;
      as_many : length (in_order l.queue.entries) ≡ length (in_order l.fn.queue.entries);
      left : g.S.Shelf.left l.shelf ≡ g.S.Shelf.left l.fn.shelf;
      faults : g.S.Shelf.faults l.shelf ≡ g.S.Shelf.faults l.fn.shelf;
    }

abbrev pub decreases-loop : goal.decreases-loop
decreases-loop g l = wide_count (in_order l.queue.entries)
