use Rattle.std.proofs.Common.{◌≡◌, ◌<◌, ℕ, List, length, take, get_or, map, refl, ap, ◌∙◌, arith}
use Rattle.va_core.specs.Boxes.{Span}
use Rattle.va_core.specs.Cells.{box, span_of}
use Rattle.va_core.specs.Marks.{row_at}
use Rattle.va_maker.proofs.CodedRows.{box_all, box_more}
use Rattle.va_maker.proofs.rows.box_of.Goals as goal

pub loop-dim-preserved : goal.loop-dim-preserved
loop-dim-preserved c =
    let marks = c.args.marks.now in
    let code = c.args.cell.now.code in
    let one : length code ≡ length marks = c.requires.names.one_each in
    let all : length c.as_slice-code.result.now ≡ length code = ap (λ (l : List ℕ). length l) c.as_slice-code.ensures in
    let h : c.loop-dim.dim < length code = omega (arith, all, c.loop-dim-test.true) in
    record {
      low = box_more (λ (s : Span). s.low) marks code one c.loop-dim.dim c.ends_of-first.result.0 h (c.ends_of-first.ensures.low ∙ ap (λ (l : List ℕ). (span_of (row_at marks c.loop-dim.dim) (get_or l c.loop-dim.dim 0)).low) c.as_slice-code.ensures) c.loop-dim.invariant.low c.in_ok-push.ensures.items;
      high = box_more (λ (s : Span). s.high) marks code one c.loop-dim.dim c.ends_of-first.result.1 h (c.ends_of-first.ensures.high ∙ ap (λ (l : List ℕ). (span_of (row_at marks c.loop-dim.dim) (get_or l c.loop-dim.dim 0)).high) c.as_slice-code.ensures) c.loop-dim.invariant.high c.in_ok-push-2.ensures.items;
    }

pub returns : goal.returns
returns c =
    let marks = c.args.marks.now in
    let code = c.args.cell.now.code in
    let one : length code ≡ length marks = c.requires.names.one_each in
    let all : length c.as_slice-code.result.now ≡ length code = ap (λ (l : List ℕ). length l) c.as_slice-code.ensures in
    let end : c.loop-dim.dim ≡ length code = omega (arith, all, c.loop-dim-test.false, c.loop-dim.auto.dim-end) in
    let low : c.loop-dim.low.items ≡ map (λ (s : Span). s.low) (box marks code) = box_all (λ (s : Span). s.low) marks code one (c.loop-dim.invariant.low ∙ ap (λ (n : ℕ). take n (map (λ (s : Span). s.low) (box marks code))) end) in
    let high : c.loop-dim.high.items ≡ map (λ (s : Span). s.high) (box marks code) = box_all (λ (s : Span). s.high) marks code one (c.loop-dim.invariant.high ∙ ap (λ (n : ℕ). take n (map (λ (s : Span). s.high) (box marks code))) end) in
    rw (low, high) refl
