use Rattle.std.proofs.Common.{◌≡◌, [], length}
use Rattle.va_maker.proofs.Scanned.{HasGiven}
use Rattle.va_maker.proofs.coded.scan.Given as goal

abbrev pub invariant-loop-cells : goal.invariant-loop-cells
invariant-loop-cells g l = record {
  stay : g.S.Shelf.contents l.shelf ≡ g.S.Shelf.contents l.fn.shelf;
  given : HasGiven g.S.Shelf.told (g.S.Shelf.contents l.fn.shelf) (g.S.Shelf.left l.shelf) l.cells.items;
  passed : g.S.Shelf.passes l.fn.shelf [] l.shelf;
  faults : g.S.Shelf.faults l.shelf ≡ g.S.Shelf.faults l.fn.shelf;
}

abbrev pub decreases-loop-cells : goal.decreases-loop-cells
decreases-loop-cells g l = length (g.S.Shelf.left l.shelf)
