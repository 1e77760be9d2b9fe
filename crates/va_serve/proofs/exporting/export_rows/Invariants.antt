use Rattle.va_serve.proofs.RowsOut.{GivesUpTo}
use Rattle.va_serve.proofs.exporting.export_rows.Given as goal

abbrev pub invariant-loop : goal.invariant-loop
invariant-loop g l = GivesUpTo g.D.Storage l.fn.store l.fn.desk l.counter l.after l.store l.desk l.vector
