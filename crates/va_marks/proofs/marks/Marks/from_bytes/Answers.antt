use Rattle.std.proofs.Common.{◌≡◌, ◌+◌, ◌^◌, ◌∙◌, length, arith, ap, sym, map, subst, rules}
use Rattle.std.specs.List.{range_with_len}
use Rattle.va_core.specs.Shape.{bits_of}
use Rattle.va_core.specs.Marks.{HasShape, IsRow}
use Rattle.va_core.specs.MarkBytes.{marks_bytes, marks_read, row_read}
use Rattle.va_marks.proofs.Offsets.{length-row_in, next_begins, row_in_is_read, row_inside}
use Rattle.va_marks.proofs.Pushes.{rows_are_valid, rows_pushed}
use Rattle.va_marks.proofs.RoundTrip.{marks_bytes-marks_read, marks_read-marks_bytes, marks_read_has_shape, valid_where_written}
use Rattle.va_marks.proofs.marks.Marks.from_bytes.Goals as goal

pub read_row-requires : goal.read_row-requires
read_row-requires c =
    row_inside c.args.shape c.loop-dim.dim c.loop-dim.at c.mark_count-count.result (length c.args.bytes.now) (omega arith) c.loop-dim.invariant.place
    (c.mark_count-count.ensures.count ∙ ap (λ b. 2 ^ b + 1) c.bits_of.ensures.bits) c.requires

pub is_row-requires : goal.is_row-requires
is_row-requires c =
    let len : length c.deref.result.now ≡ c.mark_count-count.result = ap length (c.deref.ensures.value ∙ c.in_ok-marks.ensures) ∙ length-row_in c.args.bytes.now c.loop-dim.at c.mark_count-count.result in
    omega (arith, len, c.mark_count-count.ensures.two)

pub new-requires-clause-most : goal.new-requires-clause-most
new-requires-clause-most c =
    let len : length c.in_ok-marks.marks.items ≡ c.mark_count-count.result = ap length c.in_ok-marks.ensures ∙ length-row_in c.args.bytes.now c.loop-dim.at c.mark_count-count.result in
    omega (arith, len, c.mark_count-count.ensures.most)

pub overflow_add-at : goal.overflow_add-at
overflow_add-at c =
    let inside = row_inside c.args.shape c.loop-dim.dim c.loop-dim.at c.mark_count-count.result (length c.args.bytes.now) (omega arith) c.loop-dim.invariant.place
    (c.mark_count-count.ensures.count ∙ ap (λ b. 2 ^ b + 1) c.bits_of.ensures.bits) c.requires in
    omega (arith, inside)

pub loop-dim-preserved : goal.loop-dim-preserved
loop-dim-preserved c =
    let counted : c.mark_count-count.result ≡ 2 ^ bits_of c.args.shape c.loop-dim.dim + 1 = c.mark_count-count.ensures.count ∙ ap (λ b. 2 ^ b + 1) c.bits_of.ensures.bits in
    record {
      place = next_begins c.args.shape c.loop-dim.dim c.loop-dim.at c.mark_count-count.result c.loop-dim.invariant.place counted;
      rows = rows_pushed (row_read c.args.shape c.args.bytes.now) c.loop-dim.rows.items c.push.new.self.items c.loop-dim.dim c.in_ok-row.row c.in_ok-push.ensures.items c.loop-dim.invariant.rows
          (c.in_ok-row.ensures.row ∙ c.in_ok-marks.ensures ∙ row_in_is_read c.args.shape c.args.bytes.now c.loop-dim.dim c.loop-dim.at c.mark_count-count.result c.loop-dim.invariant.place counted)
          c.in_ok-row.ensures.valid;
    }

pub returns-then-not-is_row-clause-first : goal.returns-then-not-is_row-clause-first
returns-then-not-is_row-clause-first c =
    let counted : c.mark_count-count.result ≡ 2 ^ bits_of c.args.shape c.loop-dim.dim + 1 = c.mark_count-count.ensures.count ∙ ap (λ b. 2 ^ b + 1) c.bits_of.ensures.bits in
    let invalid : IsRow c.deref.result.now → ⊥ = search rules in
    let is : c.deref.result.now ≡ row_read c.args.shape c.args.bytes.now c.loop-dim.dim =
    c.deref.ensures.value ∙ c.in_ok-marks.ensures ∙ row_in_is_read c.args.shape c.args.bytes.now c.loop-dim.dim c.loop-dim.at c.mark_count-count.result c.loop-dim.invariant.place counted in
    record {
      a_dimension = omega arith;
      invalid = λ valid. invalid (subst IsRow (sym is) valid);
      valid_before = rows_are_valid (row_read c.args.shape c.args.bytes.now) c.loop-dim.dim c.loop-dim.rows.items c.loop-dim.invariant.rows;
    }

pub returns-then-not-is_row-clause-only : goal.returns-then-not-is_row-clause-only
returns-then-not-is_row-clause-only c marks has valid e =
    let first = returns-then-not-is_row-clause-first c in
    (tt, first.invalid (valid_where_written c.args.shape marks c.args.bytes.now c.loop-dim.dim has valid e (λ i. omega (arith, c.type_inv.bytes i)) c.requires first.a_dimension))

pub returns-clause-read : goal.returns-clause-read
unfolding marks_read
returns-clause-read c = c.from_rows.ensures.marks ∙ (let all : c.loop-dim.dim ≡ c.args.shape.dims = omega arith in
    c.loop-dim.invariant.rows.so_far ∙ ap (λ n. map (row_read c.args.shape c.args.bytes.now) (range_with_len 0 n)) all)

pub returns-clause-shape : goal.returns-clause-shape
returns-clause-shape c = subst (HasShape c.args.shape) (sym (returns-clause-read c)) (marks_read_has_shape c.args.shape c.args.bytes.now)

pub returns-clause-written : goal.returns-clause-written
returns-clause-written c = ap marks_bytes (returns-clause-read c) ∙ marks_bytes-marks_read c.args.shape c.args.bytes.now (λ i. omega (arith, c.type_inv.bytes i)) c.requires

pub returns-clause-only : goal.returns-clause-only
returns-clause-only c marks has valid e =
    (returns-clause-read c ∙ marks_read-marks_bytes c.args.shape marks c.args.bytes.now has e (λ i. omega (arith, c.type_inv.bytes i)) c.requires, tt)
