use Rattle.std.proofs.Common.{arith}
use Rattle.va_bound.proofs.Tables.{entries_of_cell}
use Rattle.va_bound.proofs.tests.by_table.Goals as goal

pub low-requires : goal.low-requires
low-requires c = entries_of_cell c.args.marks.now c.args.query.now c.in_ok-bounds.bounds c.args.vector.now c.cell.new.out c.in_ok-bounds.ensures (omega (arith, c.requires.marks, c.requires.vector)) (λ i. omega (arith, c.type_inv.vector i)) c.cell.ensures.cell

pub high-requires : goal.high-requires
high-requires c = entries_of_cell c.args.marks.now c.args.query.now c.in_ok-bounds.bounds c.args.vector.now c.cell.new.out c.in_ok-bounds.ensures (omega (arith, c.requires.marks, c.requires.vector)) (λ i. omega (arith, c.type_inv.vector i)) c.cell.ensures.cell

pub least_in-requires-clause-entries : goal.least_in-requires-clause-entries
least_in-requires-clause-entries c = entries_of_cell c.args.marks.now c.args.query.now c.in_ok-bounds.bounds c.args.vector.now c.cell.new.out c.in_ok-bounds.ensures (omega (arith, c.requires.marks, c.requires.vector)) (λ i. omega (arith, c.type_inv.vector i)) c.cell.ensures.cell

pub greatest_in-requires-clause-entries : goal.greatest_in-requires-clause-entries
greatest_in-requires-clause-entries c = entries_of_cell c.args.marks.now c.args.query.now c.in_ok-bounds.bounds c.args.vector.now c.cell.new.out c.in_ok-bounds.ensures (omega (arith, c.requires.marks, c.requires.vector)) (λ i. omega (arith, c.type_inv.vector i)) c.cell.ensures.cell
