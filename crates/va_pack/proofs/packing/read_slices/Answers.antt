use Rattle.std.proofs.Common.{rules, ◌≡◌, arith, ap, sym, subst, ◌∙◌}
use Rattle.va_core.specs.Codes.{AreSlices, packed}
use Rattle.va_core.specs.Shape.{IsShape}
use Rattle.va_pack.proofs.Halves.{bytes_are_slices, bytes_packed, halves_are_slices, halves_packed}
use Rattle.va_pack.proofs.packing.read_slices.Goals as goal

pub returns-then-bits-dims-clause-slices : goal.returns-then-bits-dims-clause-slices
returns-then-bits-dims-clause-slices c =
    let is : IsShape c.args.shape = search rules in
    halves_are_slices c.args.shape c.args.bytes.now c.read_halves.new.out is (omega arith) (omega arith) (λ at. omega (arith, c.type_inv.bytes at)) c.read_halves.ensures.halves

pub returns-then-bits-dims-clause-packed : goal.returns-then-bits-dims-clause-packed
returns-then-bits-dims-clause-packed c =
    let is : IsShape c.args.shape = search rules in
    halves_packed c.args.shape c.args.bytes.now c.read_halves.new.out is (omega arith) (omega arith) c.requires.whole (λ at. omega (arith, c.type_inv.bytes at)) c.requires.clear c.read_halves.ensures.halves

pub returns-then-bits-dims-2-clause-slices : goal.returns-then-bits-dims-2-clause-slices
returns-then-bits-dims-2-clause-slices c =
    let is : IsShape c.args.shape = search rules in
    let same : c.copy_from_slice.new.self ≡ c.args.bytes.now = search rules in
    subst (AreSlices c.args.shape) (sym same) (bytes_are_slices c.args.shape c.args.bytes.now is (omega arith) (omega arith) (λ at. omega (arith, c.type_inv.bytes at)))

pub returns-then-bits-dims-2-clause-packed : goal.returns-then-bits-dims-2-clause-packed
returns-then-bits-dims-2-clause-packed c =
    let is : IsShape c.args.shape = search rules in
    let same : c.copy_from_slice.new.self ≡ c.args.bytes.now = search rules in
    ap (packed c.args.shape) same ∙ bytes_packed c.args.shape c.args.bytes.now is (omega arith) (omega arith) (λ at. omega (arith, c.type_inv.bytes at))
