use Rattle.std.proofs.Common.{◌≡◌, ◌++◌, drop}
use Rattle.va_maker.specs.Rows.{UnderMarks, coded_takens}
use Rattle.va_maker.proofs.rows.takens_of.Given as goal

abbrev pub invariant-loop-cell : goal.invariant-loop-cell
invariant-loop-cell l = UnderMarks l.query l.bounds l.cells (λ marks.
    l.takens.items ++ coded_takens marks l.query l.kept.vectors (drop l.cell-index l.cells) ≡ coded_takens marks l.query l.kept.vectors l.cells)
