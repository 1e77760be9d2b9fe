use Rattle.std.proofs.Common.{rules, ◌≡◌, ◌-◌, ◌%◌, ◌^◌, length, get_or, refl, ap, sym, ◌∙◌}
use Rattle.va_core.specs.Shape.{IsShape, code_bytes}
use Rattle.va_core.specs.Codes.{packed, padding}
use Rattle.va_pack.proofs.Codes.{one_cell, packed_has_no_padding}
use Rattle.va_pack.proofs.Unpacked.{unpacked_is}
use Rattle.va_pack.proofs.packing.unpack.Goals as goal

pub returns-clause-named : goal.returns-clause-named
returns-clause-named c = unpacked_is c.args.shape c.read_slices.new.out c.args.bytes.now (search rules) c.read_slices.ensures.slices c.read_slices.ensures.packed

pub returns-clause-only : goal.returns-clause-only
returns-clause-only c slices are same =
    let is : IsShape c.args.shape = search rules in
    (refl, one_cell c.args.shape c.read_slices.new.out slices is c.read_slices.ensures.slices are (c.read_slices.ensures.packed ∙ sym same))

pub returns-then-has_padding-clause-only : goal.returns-then-has_padding-clause-only
returns-then-has_padding-clause-only c slices are same =
    let is : IsShape c.args.shape = search rules in
    let counts : length (packed c.args.shape slices) ≡ code_bytes c.args.shape = ap length same ∙ c.requires.whole in
    let zero : get_or c.args.bytes.now (code_bytes c.args.shape - 1) 0 % 2 ^ padding c.args.shape ≡ 0 =
    rw same at (packed_has_no_padding c.args.shape slices is are counts) in
    absurd (c.has_padding.ensures.0 c.if-has_padding.true zero)
