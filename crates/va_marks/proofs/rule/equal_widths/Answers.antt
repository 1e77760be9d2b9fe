use Rattle.std.proofs.Common.{◌≡◌, ◌+◌, ◌*◌, ◌-◌, ◌^◌, ◌≤◌, arith, [], ap, ◌∙◌, map}
use Rattle.std.specs.List.{range_with_len}
use Rattle.va_core.specs.Marks.{row_of, mark_of}
use Rattle.va_marks.proofs.Pushes.{pushed_by}
use Rattle.va_marks.proofs.Quantiles.{mark_equal, equal_at_most}
use Rattle.va_marks.proofs.rule.equal_widths.Goals as goal

pub loop-t-preserved : goal.loop-t-preserved
loop-t-preserved c =
    let inside : c.loop-t.t ≤ 2 ^ c.args.bits = omega arith in
    pushed_by (mark_of c.args.bits []) c.loop-t.marks.items c.push.new.self.items c.loop-t.t _ c.in_ok-push.ensures.items c.loop-t.invariant
    (ap (λ n. c.loop-t.t * n) c.slice_count-width.ensures.slices ∙ mark_equal c.args.bits [] c.loop-t.t c.requires inside)

pub overflow_mul-t : goal.overflow_mul-t
overflow_mul-t c =
    let inside : c.loop-t.t ≤ 2 ^ c.args.bits = omega arith in
    let most : c.loop-t.t * 2 ^ (8 - c.args.bits) ≤ 256 = equal_at_most c.args.bits c.loop-t.t c.requires inside in
    rw c.slice_count-width.ensures.slices (omega arith)

pub returns : goal.returns
unfolding row_of
returns c = let e : c.loop-t.t ≡ 2 ^ c.args.bits + 1 = omega arith in c.loop-t.invariant ∙ ap (λ n. map (mark_of c.args.bits []) (range_with_len 0 n)) e
