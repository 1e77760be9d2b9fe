use Rattle.va_store.proofs.laying.put_cell.Goals as goal

pub put_code-requires-clause-slices : goal.put_code-requires-clause-slices
put_code-requires-clause-slices g c = c.cell.ensures.fits c.args.layout.now c.requires.marks
