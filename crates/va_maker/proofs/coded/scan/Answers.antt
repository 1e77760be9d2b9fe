use Rattle.std.proofs.Common.{◌≡◌, [], ◌∷◌, subst, ◌∙◌}
use Rattle.va_core.specs.Cells.{NamesSlices}
use Rattle.va_maker.proofs.Scanned.{gave_some, given_more, some_is}
use Rattle.va_maker.specs.Coded.{cell_of, coded_at}
use Rattle.va_maker.specs.declared.coded.CodedCell.{CodedCell}
use Rattle.va_ports.specs.Shelves.{Contents}
use Rattle.va_maker.proofs.coded.scan.Goals as goal

pub returns-in_err-cell-clause-passes : goal.returns-in_err-cell-clause-passes
returns-in_err-cell-clause-passes g c = g.met.S.Shelf.passes_both c.args.shelf.now c.loop-cells.shelf c.next_coded.new.shelf [] [] c.loop-cells.invariant.passed c.in_err-cell.ensures.passes

pub loop-cells-preserved : goal.loop-cells-preserved
loop-cells-preserved g c =
    let told = g.S.Shelf.told in
    let cs = g.S.Shelf.contents c.args.shelf.now in
    let here = g.S.Shelf.contents c.loop-cells.shelf in
    let cell : CodedCell = c.in-Some.cell in
    let next = c.in_ok-cell.field-0 in
    let gave : g.S.Shelf.left c.loop-cells.shelf ≡ cell_of cell ∷ g.S.Shelf.left c.next_coded.new.shelf =
    gave_some next cell (g.S.Shelf.left c.loop-cells.shelf) (g.S.Shelf.left c.next_coded.new.shelf) c.in-Some.is c.in_ok-cell.ensures.gave in
    let names : NamesSlices cs.marks cell.code = subst (λ (x : Contents). NamesSlices x.marks cell.code) c.loop-cells.invariant.stay
    (some_is next cell (λ x. NamesSlices here.marks x.code) c.in-Some.is c.in_ok-cell.ensures.names) in
    let code : told → cell ≡ coded_at cs (cell_of cell) = subst (λ (x : Contents). told → cell ≡ coded_at x (cell_of cell)) c.loop-cells.invariant.stay
    (some_is next cell (λ x. told → x ≡ coded_at here (cell_of x)) c.in-Some.is c.in_ok-cell.ensures.code) in
    record {
      stay = c.in_ok-cell.ensures.contents ∙ c.loop-cells.invariant.stay;
      given = given_more cell gave c.in-Ok.ensures.items names code c.loop-cells.invariant.given;
      passed = g.met.S.Shelf.passes_both c.args.shelf.now c.loop-cells.shelf c.next_coded.new.shelf [] [] c.loop-cells.invariant.passed c.in_ok-cell.ensures.passes;
      faults = c.in_ok-cell.ensures.cause.stayed ∙ c.loop-cells.invariant.faults;
    }

pub returns-in_default-push-clause-passes : goal.returns-in_default-push-clause-passes
returns-in_default-push-clause-passes g c = g.met.S.Shelf.passes_both c.args.shelf.now c.loop-cells.shelf c.next_coded.new.shelf [] [] c.loop-cells.invariant.passed c.in_ok-cell.ensures.passes

pub returns-clause-passes : goal.returns-clause-passes
returns-clause-passes g c = g.met.S.Shelf.passes_both c.args.shelf.now c.loop-cells.shelf c.next_coded.new.shelf [] [] c.loop-cells.invariant.passed c.in_ok-cell.ensures.passes
