use Rattle.std.proofs.Common.{◌∙◌, ℕ, length, ap, sym, subst}
use Rattle.std.proofs.lemmas.List.{take-replicate}
use Rattle.va_core.specs.Cells.{NamesSlices}
use Rattle.va_core.specs.Marks.{cell}
use Rattle.va_cells.proofs.Named.{zeros_named}
use Rattle.va_cells.proofs.naming.write_zeros.Goals as goal

pub returns-clause-zeros : goal.returns-clause-zeros
returns-clause-zeros c =
    c.cell.ensures.cell ∙ ap (cell c.args.marks.now) (take-replicate {X = ℕ} (length c.args.slices.now) 256 0 c.requires.few)

pub returns-clause-names : goal.returns-clause-names
returns-clause-names c =
    subst (NamesSlices c.args.marks.now) (sym c.cell.ensures.cell) (zeros_named c.args.marks.now (length c.args.slices.now) c.rise_strictly-rise.ensures.valid c.requires.all c.requires.few)
