use Rattle.std.proofs.Common.{◌≡◌, ◌≤◌, suc, ◌∷◌, [], length, ap, ◌∙◌, subst, arith}
use Rattle.va_core.specs.Distance as distances
use Rattle.va_bound.specs.Tables.{AreBounds}
use Rattle.va_ports.specs.Shelves.{Contents}
use Rattle.va_bounded.specs.BoundedCells.{HasBounds, cell_of}
use Rattle.va_bounded.proofs.Giving.{gave_some}
use Rattle.va_noa.proofs.FillSteps.{some_is}
use Rattle.va_cursor.proofs.Queueing.{fills_more}
use Rattle.va_cursor.proofs.filling.fill.Goals as goal

pub returns-in_err-cell-clause-passes : goal.returns-in_err-cell-clause-passes
returns-in_err-cell-clause-passes g c = g.met.S.Shelf.passes_both c.args.shelf.now c.loop-cell.shelf c.next_bounded.new.shelf [] [] c.loop-cell.invariant.passed c.in_err-cell.ensures.passes

pub loop-cell-preserved : goal.loop-cell-preserved
loop-cell-preserved g c =
    let cs = g.S.Shelf.contents c.args.shelf.now in
    let query = c.args.query.now in
    let cell = c.in-Some.cell in
    let left = g.S.Shelf.left c.loop-cell.shelf in
    let left' = g.S.Shelf.left c.next_bounded.new.shelf in
    let gave : left ≡ cell_of cell ∷ left' = gave_some c.in_ok-cell.field-0 cell left left' c.in-Some.is c.in_ok-cell.ensures.gave in
    let fewer : length left ≡ suc (length left') = ap length gave in
    let order : cell.low ≤ cell.high = some_is c.in_ok-cell.field-0 cell (λ x. x.low ≤ x.high) c.in-Some.is c.in_ok-cell.ensures.order in
    let bounds : g.S.Shelf.told → HasBounds cs query cell =
    subst (λ (x : Contents). AreBounds x.marks query c.args.bounds.now → g.S.Shelf.told → HasBounds x query cell) c.loop-cell.invariant.stay (λ are t. some_is c.in_ok-cell.field-0 cell (λ x. g.S.Shelf.told → (q : distances.Query) → AreBounds (g.S.Shelf.contents c.loop-cell.shelf).marks q c.args.bounds.now → HasBounds (g.S.Shelf.contents c.loop-cell.shelf) q x) c.in-Some.is c.in_ok-cell.ensures.bounds t query are) c.requires.bounds in
    record {
      stay = c.in_ok-cell.ensures.contents ∙ c.loop-cell.invariant.stay;
      fills = fills_more bounds order gave c.loop-cell.invariant.fills c.push.ensures.more c.push_reserved.ensures.items;
      passed = g.met.S.Shelf.passes_both c.args.shelf.now c.loop-cell.shelf c.next_bounded.new.shelf [] [] c.loop-cell.invariant.passed c.in_ok-cell.ensures.passes;
      room = omega (arith, fewer, c.loop-cell.invariant.room, c.push.ensures.count, c.push.ensures.room);
      capacity = omega (arith, fewer, c.loop-cell.invariant.capacity, c.push_reserved.ensures.len, c.push_reserved.ensures.capacity);
      faults = c.in_ok-cell.ensures.stayed ∙ c.loop-cell.invariant.faults;
    }

pub returns-clause-passes : goal.returns-clause-passes
returns-clause-passes g c = g.met.S.Shelf.passes_both c.args.shelf.now c.loop-cell.shelf c.next_bounded.new.shelf [] [] c.loop-cell.invariant.passed c.in_ok-cell.ensures.passes
