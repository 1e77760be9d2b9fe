use Rattle.std.proofs.Common.{◌≡◌, ◌+◌, ◌≤◌, [], length}
use Rattle.va_ports.specs.Shelves.{AreInside}
use Rattle.va_noa.specs.Entries.{AreEntries}
use Rattle.va_noa.proofs.FillSteps.{FillsTo}
use Rattle.va_noa.proofs.filling.fill.Given as goal

abbrev pub invariant-loop-cell : goal.invariant-loop-cell
invariant-loop-cell g l =
    let cs = g.S.Shelf.contents l.fn.shelf in
    record {
      stay : g.S.Shelf.contents l.shelf ≡ cs;
      to : FillsTo g.S.Shelf.told cs l.query l.fn.highs.most (g.S.Shelf.left l.shelf) l.highs l.queue.entries;
      entries : AreEntries cs.shape.capacity l.queue.entries;
      passed : g.S.Shelf.passes l.fn.shelf [] l.shelf;
      places : AreInside cs.shape.capacity (g.S.Shelf.left l.shelf);
      room : length l.queue.entries + length (g.S.Shelf.left l.shelf) ≤ l.queue.room;
      faults : g.S.Shelf.faults l.shelf ≡ g.S.Shelf.faults l.fn.shelf;
    }

abbrev pub decreases-loop-cell : goal.decreases-loop-cell
decreases-loop-cell g l = length (g.S.Shelf.left l.shelf)
