use Rattle.va_maker.proofs.CodedRows.{entries_all}
use Rattle.va_maker.proofs.making.certificate.Goals as goal

pub takens_of-requires-clause-entries : goal.takens_of-requires-clause-entries
takens_of-requires-clause-entries c = entries_all c.args.marks.now c.args.query.now c.args.bounds.now c.args.cells.now c.requires.bounds c.requires.names
