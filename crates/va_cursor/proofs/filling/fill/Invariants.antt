use Rattle.std.proofs.Common.{◌≡◌, ◌+◌, ◌≤◌, [], length, vec_capacity}
use Rattle.va_cursor.specs.Filling.{Fills}
use Rattle.va_cursor.proofs.filling.fill.Given as goal

abbrev pub invariant-loop-cell : goal.invariant-loop-cell
invariant-loop-cell g l =
    let cs = g.S.Shelf.contents l.fn.shelf in
    record {
      stay : g.S.Shelf.contents l.shelf ≡ cs;
      fills : Fills g.S.Shelf.told cs l.query (g.S.Shelf.left l.shelf) l.queue.entries l.places.items;
      passed : g.S.Shelf.passes l.fn.shelf [] l.shelf;
      room : length l.queue.entries + length (g.S.Shelf.left l.shelf) ≤ l.queue.room;
      capacity : length l.places.items + length (g.S.Shelf.left l.shelf) ≤ vec_capacity l.places;
      faults : g.S.Shelf.faults l.shelf ≡ g.S.Shelf.faults l.fn.shelf;
    }

abbrev pub decreases-loop-cell : goal.decreases-loop-cell
decreases-loop-cell g l = length (g.S.Shelf.left l.shelf)
