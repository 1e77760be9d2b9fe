use Rattle.std.proofs.Common.{◌≡◌, ◌+◌, ◌≤◌, ℕ, List, length, vec_capacity}
use Rattle.va_ports.specs.Shelves.{AreInside}
use Rattle.va_ssa.specs.Within.{found_within}
use Rattle.va_bounded.proofs.Scanned.{Scanned}
use Rattle.va_ssa.proofs.Finding.{within_after}
use Rattle.va_ssa.proofs.radius.scan.Given as goal

abbrev pub invariant-loop-cell : goal.invariant-loop-cell
invariant-loop-cell g l =
    let cs = g.S.Shelf.contents l.fn.shelf in
    record {
      stay : g.S.Shelf.contents l.shelf ≡ cs;
      scanned : Scanned g.S.Shelf cs l.query (within_after cs l.query l.radius) (λ (taken : List (ℕ × ℕ)). g.S.Shelf.told → l.pairs.items ≡ found_within cs l.query l.radius taken) (g.S.Shelf.left l.shelf) l.fn.shelf l.shelf l.fetched.items;
      places : AreInside cs.shape.capacity (g.S.Shelf.left l.shelf);
      pairs_room : length l.pairs.items + length (g.S.Shelf.left l.shelf) ≤ vec_capacity l.pairs;
      room : length l.fetched.items + length (g.S.Shelf.left l.shelf) ≤ vec_capacity l.fetched;
      few : length l.fetched.items + length (g.S.Shelf.left l.shelf) ≤ length cs.cells;
      faults : g.S.Shelf.faults l.shelf ≡ g.S.Shelf.faults l.fn.shelf;
    }

abbrev pub decreases-loop-cell : goal.decreases-loop-cell
decreases-loop-cell g l = length (g.S.Shelf.left l.shelf)
