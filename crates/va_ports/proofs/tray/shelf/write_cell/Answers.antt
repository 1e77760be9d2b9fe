use Rattle.std.proofs.Common.{ℕ, List, sym, subst, arith}
use Rattle.va_core.specs.Cells.{NamesSlices}
use Rattle.va_core.proofs.Cells.{names_own}
use Rattle.va_core.proofs.Members.{all_below}
use Rattle.va_ports.proofs.tray.shelf.write_cell.Goals as goal

pub returns-clause-names : goal.returns-clause-names
returns-clause-names c = subst (λ (l : List ℕ). NamesSlices c.args.marks.now l) (sym c.cell.ensures.cell)
    (names_own c.args.marks.now c.args.vector.now c.requires.valid (record { one_each = c.requires.vector; bytes = all_below 256 c.args.vector.now (λ i. omega (arith, c.type_inv.vector i)) }))
