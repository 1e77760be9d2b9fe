use Rattle.std.proofs.Common.{◌≡◌, ◌≤◌, suc, ◌∷◌, [], length, ap, ◌∙◌, sym, subst, arith}
use Rattle.va_core.specs.Distance as distances
use Rattle.va_bound.specs.Tables.{AreBounds}
use Rattle.va_ports.proofs.Places.{inside_cells}
use Rattle.va_ports.specs.Shelves.{AreInside, Contents}
use Rattle.va_bounded.specs.BoundedCells.{HasBounds, cell_of}
use Rattle.va_bounded.proofs.Giving.{gave_none, gave_some}
use Rattle.va_noa.proofs.FillSteps.{TakesIn, some_is, entries_more, entries_none, fills_none, to_end, to_more}
use Rattle.va_noa.proofs.filling.fill.Goals as goal

pub loop-cell-init : goal.loop-cell-init
loop-cell-init g c =
    let cs = g.S.Shelf.contents c.args.shelf.now in
    let none : length c.args.queue.now.entries ≡ 0 = ap length c.requires.none_queued in
    let all : length (g.S.Shelf.left c.rewind.new.self) ≡ length cs.cells = ap length c.rewind.ensures.left in
    record {
      stay = c.rewind.ensures.contents;
      to = record {
        taken = [];
        split = sym c.rewind.ensures.left;
        fills = fills_none g.S.Shelf.told cs c.args.query.now c.args.highs.now c.args.queue.now.entries c.requires.none_kept c.requires.none_queued;
      };
      entries = entries_none cs.shape.capacity c.args.queue.now.entries c.requires.none_queued;
      passed = c.rewind.ensures.passes;
      places = subst (AreInside cs.shape.capacity) (sym c.rewind.ensures.left) (inside_cells 0 cs.shape.capacity cs.cells (g.met.S.Shelf.sound c.args.shelf.now).places);
      room = omega (arith, all, none, c.requires.room);
      faults = c.rewind.ensures.faults;
    }

pub loop-cell-preserved : goal.loop-cell-preserved
loop-cell-preserved g c =
    let cs = g.S.Shelf.contents c.args.shelf.now in
    let query = c.args.query.now in
    let cell = c.in-Some.cell in
    let left = g.S.Shelf.left c.loop-cell.shelf in
    let left' = g.S.Shelf.left c.next_bounded.new.shelf in
    let gave : left ≡ cell_of cell ∷ left' = gave_some c.in_ok-cell.field-0 cell left left' c.in-Some.is c.in_ok-cell.ensures.gave in
    let fewer : length left ≡ suc (length left') = ap length gave in
    let takes : TakesIn cell c.loop-cell.highs c.take_in.new.highs c.loop-cell.queue.entries c.take_in.new.queue.entries = record { highs = c.take_in.ensures.highs; near = c.take_in.ensures.near; far = c.take_in.ensures.far } in
    let inside : AreInside cs.shape.capacity (cell_of cell ∷ left') = subst (AreInside cs.shape.capacity) gave c.loop-cell.invariant.places in
    let order : cell.low ≤ cell.high = some_is c.in_ok-cell.field-0 cell (λ x. x.low ≤ x.high) c.in-Some.is c.in_ok-cell.ensures.order in
    let bounds : g.S.Shelf.told → HasBounds cs query cell =
    subst (λ (x : Contents). AreBounds x.marks query c.args.bounds.now → g.S.Shelf.told → HasBounds x query cell) c.loop-cell.invariant.stay (λ are t. some_is c.in_ok-cell.field-0 cell (λ x. g.S.Shelf.told → (q : distances.Query) → AreBounds (g.S.Shelf.contents c.loop-cell.shelf).marks q c.args.bounds.now → HasBounds (g.S.Shelf.contents c.loop-cell.shelf) q x) c.in-Some.is c.in_ok-cell.ensures.bounds t query are) c.requires.bounds in
    record {
      stay = c.in_ok-cell.ensures.contents ∙ c.loop-cell.invariant.stay;
      to = to_more bounds order gave c.loop-cell.invariant.to takes;
      entries = entries_more cs.shape.capacity takes inside.0 order c.loop-cell.invariant.entries;
      passed = g.met.S.Shelf.passes_both c.args.shelf.now c.loop-cell.shelf c.next_bounded.new.shelf [] [] c.loop-cell.invariant.passed c.in_ok-cell.ensures.passes;
      places = inside.1;
      room = omega (arith, fewer, c.loop-cell.invariant.room, c.take_in.ensures.few, c.take_in.ensures.room);
      faults = c.in_ok-cell.ensures.stayed ∙ c.loop-cell.invariant.faults;
    }

pub returns-clause-fills : goal.returns-clause-fills
returns-clause-fills g c =
    let cs = g.S.Shelf.contents c.args.shelf.now in
    let left = g.S.Shelf.left c.loop-cell.shelf in
    let none : left ≡ [] = gave_none c.in_ok-cell.field-0 left (g.S.Shelf.left c.next_bounded.new.shelf) c.in_default.not-Some c.in_ok-cell.ensures.gave in
    to_end none c.loop-cell.invariant.to

pub returns-clause-passes : goal.returns-clause-passes
returns-clause-passes g c = g.met.S.Shelf.passes_both c.args.shelf.now c.loop-cell.shelf c.next_bounded.new.shelf [] [] c.loop-cell.invariant.passed c.in_ok-cell.ensures.passes

pub returns-in_err-cell-clause-passes : goal.returns-in_err-cell-clause-passes
returns-in_err-cell-clause-passes g c = g.met.S.Shelf.passes_both c.args.shelf.now c.loop-cell.shelf c.next_bounded.new.shelf [] [] c.loop-cell.invariant.passed c.in_err-cell.ensures.passes
