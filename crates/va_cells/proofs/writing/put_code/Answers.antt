use Rattle.std.proofs.Common.{◌≡◌, length, ap, ◌∙◌, arith}
use Rattle.va_core.specs.Shape.{code_bytes}
use Rattle.va_cells.proofs.Inside.{code_inside}
use Rattle.va_pack.proofs.Codes.{length-packed}
use Rattle.va_cells.proofs.writing.put_code.Goals as goal

pub write_part-requires : goal.write_part-requires
write_part-requires g c =
    let len : length c.pack.new.out ≡ code_bytes c.args.layout.now = ap length c.pack.ensures ∙ length-packed c.shape-shape.result c.args.codes.now ∙ ap code_bytes c.shape-shape.ensures in
    omega (arith, len, c.code_at.ensures, code_inside c.args.layout.now c.args.region c.args.place c.requires.place, c.requires.fits)
