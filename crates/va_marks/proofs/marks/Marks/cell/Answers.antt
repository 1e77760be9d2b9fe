use Rattle.std.proofs.Common.{◌≡◌, [], ◌∙◌, length, get_or, set, below_more, arith, ap, sym, subst}
use Rattle.std.proofs.lemmas.List.{get_or_read, get_or-set_other, get_or-set_same}
use Rattle.va_core.specs.Codes.{AreSlices}
use Rattle.va_core.specs.Marks.{AreValid, cell, row_at, slice_of}
use Rattle.va_marks.proofs.Cells.{cell_fits, cell_is}
use Rattle.va_marks.proofs.marks.Marks.cell.Goals as goal

pub loop-dim-preserved : goal.loop-dim-preserved
loop-dim-preserved c =
    let same : length c.self.inside.rows.items ≡ length c.args.self.now = ap length c.self.view_is in
    let row : c.index.result.now ≡ row_at c.self.inside.rows.items c.loop-dim.dim = get_or_read c.self.inside.rows.items c.loop-dim.dim c.index.result.now (omega arith) c.index.ensures [] in
    below_more (λ dim. get_or (set c.loop-dim.out c.loop-dim.dim c.slice_of.result) dim 0 ≡ slice_of (row_at c.self.inside.rows.items dim) (get_or c.args.vector.now dim 0)) c.loop-dim.dim
    (λ dim l. get_or-set_other c.loop-dim.out c.loop-dim.dim dim c.slice_of.result 0 (λ e. omega arith) ∙ c.loop-dim.invariant dim l)
    (get_or-set_same c.loop-dim.out c.loop-dim.dim c.slice_of.result 0 (omega arith) ∙ c.slice_of.ensures.slice ∙ ap (λ marks. slice_of marks (get_or c.args.vector.now c.loop-dim.dim 0)) row)

pub returns-clause-cell : goal.returns-clause-cell
returns-clause-cell c =
    let same : length c.self.inside.rows.items ≡ length c.args.self.now = ap length c.self.view_is in
    cell_is c.self.inside.rows.items c.args.vector.now c.loop-dim.out (omega arith) (omega arith) (λ dim b. c.loop-dim.invariant dim (omega arith))
    ∙ ap (λ marks. cell marks c.args.vector.now) c.self.view_is

pub returns-clause-fits : goal.returns-clause-fits
returns-clause-fits c shape has = subst (AreSlices shape) (sym (returns-clause-cell c))
    (cell_fits shape c.args.self.now c.args.vector.now has (subst AreValid c.self.view_is c.self.invariant.valid) (c.requires.vector ∙ has.one_each) (λ i. omega (arith, c.type_inv.vector i)))
