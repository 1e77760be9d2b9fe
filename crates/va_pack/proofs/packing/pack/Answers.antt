use Rattle.std.proofs.Common.{◌≡◌, ◌+◌, ◌*◌, ◌^◌, ◌<◌, length, get_or, refl, ap, sym, ◌∙◌, arith, add-zero}
use Rattle.va_core.specs.Shape.{bits_of}
use Rattle.va_pack.specs.Held.{written}
use Rattle.va_pack.proofs.Codes.{written_is_packed}
use Rattle.va_pack.proofs.Strings.{bits_below, bits_below_all, bits_next, bits_end_within, string_below, string_next}
use Rattle.va_pack.proofs.packing.pack.Goals as goal

pub put-held-requires-clause-room : goal.put-held-requires-clause-room
put-held-requires-clause-room c =
    let width : c.at.result ≡ bits_of c.args.shape c.loop-dim.dim = cc in
    omega (arith, width, c.loop-dim.invariant.place, bits_end_within c.args.shape c.loop-dim.dim (omega arith))

pub loop-dim-preserved : goal.loop-dim-preserved
loop-dim-preserved c =
    let width : c.at.result ≡ bits_of c.args.shape c.loop-dim.dim = cc in
    let slice = get_or c.args.codes.now c.loop-dim.dim 0 in
    let inside : c.loop-dim.dim < length c.args.codes.now = omega arith in
    record {
      held = c.put-held.ensures.held;
      place = c.put-held.ensures.place ∙ ap (λ n. n + c.at.result) c.loop-dim.invariant.place
          ∙ ap (λ w. bits_below c.args.shape c.loop-dim.dim + w) width ∙ sym (bits_next c.args.shape c.loop-dim.dim);
      written = c.put-held.ensures.written ∙ ap (λ n. n * 2 ^ c.at.result + slice) c.loop-dim.invariant.written
          ∙ ap (λ w. string_below c.args.shape c.args.codes.now c.loop-dim.dim * 2 ^ w + slice) width
          ∙ sym (string_next c.args.shape c.args.codes.now c.loop-dim.dim inside);
    }

pub put-requires-clause-room : goal.put-requires-clause-room
put-requires-clause-room c =
    omega (arith, c.loop-dim.invariant.place, bits_below_all c.args.shape c.loop-dim.dim (omega arith) (omega arith))

pub returns : goal.returns
returns c =
    let last : c.loop-dim.dim ≡ c.args.shape.dims = omega arith in
    let bits : bits_below c.args.shape c.loop-dim.dim ≡ c.args.shape.bits = bits_below_all c.args.shape c.loop-dim.dim (omega arith) last in
    let string : written c.loop-dim.held c.loop-dim.out ≡ string_below c.args.shape c.args.codes.now c.args.shape.dims = rw last at c.loop-dim.invariant.written in
    written_is_packed c.args.shape c.args.codes.now c.put.new.out c.put.result c.requires.slices.one_each (omega arith) (λ at. omega (arith, c.type_inv.out at))
    c.put.ensures.held (omega (arith, bits, c.loop-dim.invariant.place))
    (c.put.ensures.written ∙ rw (add-zero, string, c.padding_of.ensures) refl)
