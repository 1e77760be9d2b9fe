use Rattle.std.proofs.Common.{rules, ◌≡◌, ◌+◌, ◌*◌, ◌^◌, ◌<◌, length, ap, sym, ◌∙◌, arith}
use Rattle.va_core.specs.Shape.{IsShape, bits_of}
use Rattle.va_pack.specs.Held.{HasRead}
use Rattle.va_pack.proofs.Codes.{read_is_packed}
use Rattle.va_pack.proofs.Padding.{no_padding}
use Rattle.va_pack.proofs.Strings.{bits_below, bits_below_all, bits_next, bits_end_within, slices_fit, string_below, string_set}
use Rattle.va_pack.proofs.packing.read_widths.Goals as goal

pub get-slice-requires-clause-room : goal.get-slice-requires-clause-room
get-slice-requires-clause-room c =
    let width : c.at.result ≡ bits_of c.args.shape c.loop-dim.dim = cc in
    omega (arith, width, c.loop-dim.invariant.place, bits_end_within c.args.shape c.loop-dim.dim (omega arith))

pub loop-dim-preserved : goal.loop-dim-preserved
loop-dim-preserved c =
    let width : c.at.result ≡ bits_of c.args.shape c.loop-dim.dim = cc in
    let inside : c.loop-dim.dim < length c.loop-dim.out = omega arith in
    let held = c.get-slice.result.0 in
    let slice = c.get-slice.result.1 in
    let string = string_below c.args.shape c.loop-dim.out c.loop-dim.dim in
    record {
      held = c.get-slice.ensures.held;
      place = omega (arith, width, c.loop-dim.invariant.place, c.get-slice.ensures.place, bits_next c.args.shape c.loop-dim.dim);
      fit = slices_fit (bits_of c.args.shape) c.loop-dim.out c.loop-dim.dim slice inside c.loop-dim.invariant.fit (rw width at c.get-slice.ensures.fits);
      read = c.get-slice.ensures.read string c.loop-dim.invariant.read
          ∙ ap (λ w. (string * 2 ^ w + slice) * 2 ^ held.count + held.value) width
          ∙ ap (λ n. n * 2 ^ held.count + held.value) (sym (string_set c.args.shape c.loop-dim.out c.loop-dim.dim slice inside));
    }

pub returns-clause-packed : goal.returns-clause-packed
returns-clause-packed c =
    let is : IsShape c.args.shape = search rules in
    let last : c.loop-dim.dim ≡ c.args.shape.dims = omega arith in
    let bits : bits_below c.args.shape c.loop-dim.dim ≡ c.args.shape.bits = bits_below_all c.args.shape c.loop-dim.dim (omega arith) last in
    let read : HasRead c.loop-dim.held c.args.bytes.now (string_below c.args.shape c.loop-dim.out c.args.shape.dims) = rw last at c.loop-dim.invariant.read in
    read_is_packed c.args.shape c.loop-dim.out c.args.bytes.now c.loop-dim.held is (omega arith) c.requires.whole (λ at. omega (arith, c.type_inv.bytes at))
    c.loop-dim.invariant.held (omega (arith, bits, c.loop-dim.invariant.place)) (no_padding c.args.shape c.args.bytes.now c.requires.clear) read

pub returns-clause-slices : goal.returns-clause-slices
returns-clause-slices c = record { one_each = omega arith; fit = λ dim p. c.loop-dim.invariant.fit dim (omega arith) }
