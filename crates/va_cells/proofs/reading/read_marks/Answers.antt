use Rattle.std.proofs.Common.{refl, arith}
use Rattle.va_cells.proofs.Inside.{marks_inside}
use Rattle.va_cells.proofs.Pieces.{range_none}
use Rattle.va_cells.proofs.reading.read_marks.Goals as goal

pub returns-in_err-bytes-clause-reads : goal.returns-in_err-bytes-clause-reads
returns-in_err-bytes-clause-reads g c = (_, range_none (λ told. refl))

pub read_range-requires : goal.read_range-requires
read_range-requires g c = omega (arith, marks_inside c.args.layout.now c.args.region, c.marks_at.ensures.at, c.deref_mut.ensures.len, c.in_ok-bytes.ensures.len, c.marks_len.ensures.len, c.requires.fits)
