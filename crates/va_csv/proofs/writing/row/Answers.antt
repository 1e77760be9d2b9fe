use Rattle.std.proofs.Common.{◌∙◌, arith}
use Rattle.va_csv.proofs.Numbers.{bytes_small, row_plain}
use Rattle.va_csv.proofs.writing.row.Goals as goal

pub returns-in-Ok-written : goal.returns-in-Ok-written
returns-in-Ok-written c =
    rw c.in-Ok.ensures at c.in-Ok-written.ensures
    ∙ row_plain c.args.id c.args.vector.now (omega (arith, c.ranges.id.fits)) (bytes_small c.args.vector.now c.type_inv.vector)
