use Rattle.std.proofs.Common.{◌≡◌, ◌+◌, ◌≤◌, length, vec_capacity}
use Rattle.va_noa.specs.Entries.{AreEntries}
use Rattle.va_noa.proofs.VisitSteps.{Visits}
use Rattle.va_noa.proofs.visiting.visit.Given as goal

abbrev pub invariant-loop-entry : goal.invariant-loop-entry
invariant-loop-entry g l =
    let cs = g.S.Shelf.contents l.fn.shelf in
    record {
      stay : g.S.Shelf.contents l.shelf ≡ cs;
      entries : AreEntries cs.shape.capacity l.queue.entries;
      visits : Visits g.S.Shelf cs l.query l.fn.keep.most l.queue.entries l.keep l.fn.shelf l.shelf l.fetched.items;
      room : length l.fetched.items + length l.queue.entries ≤ vec_capacity l.fetched;
      faults : g.S.Shelf.faults l.shelf ≡ g.S.Shelf.faults l.fn.shelf;
    }

abbrev pub decreases-loop-entry : goal.decreases-loop-entry
decreases-loop-entry g l = length l.queue.entries
