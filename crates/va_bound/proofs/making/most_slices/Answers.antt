use Rattle.std.proofs.Common.{◌≡◌, ◌+◌, ◌≤◌, length, below_more, arith}
use Rattle.va_core.specs.Marks.{row_at}
use Rattle.va_bound.proofs.making.most_slices.Goals as goal
use Rattle.va_bound.proofs.making.most_slices.Goals.{then-slices-most, else-slices-most}

pub loop-dim-init : goal.loop-dim-init
loop-dim-init c = record {
  fits = λ dim h. let first : dim ≡ 0 = omega (arith, h) in rw first (omega (arith, c.from-most.ensures, c.count.ensures.count));
  most = omega (arith, c.from-most.ensures, c.count.ensures.most);
}

pub loop-dim-preserved : goal.loop-dim-preserved
loop-dim-preserved c = elim c.if-slices-most.branch [
  | then-slices-most w ↦ record {
    fits = below_more (λ dim. length (row_at c.args.marks.now dim) ≤ c.if-slices-most.most + 1) c.loop-dim.dim
        (λ dim h. let before : length (row_at c.args.marks.now dim) ≤ c.loop-dim.most + 1 = c.loop-dim.invariant.fits dim h in omega (arith, before, w.most-is, w.if-slices-most.true))
        (omega (arith, w.most-is, c.from-slices.ensures, c.count-in-loop-dim.ensures.count));
    most = omega (arith, w.most-is, c.from-slices.ensures, c.count-in-loop-dim.ensures.most);
  }
  | else-slices-most w ↦ record {
    fits = below_more (λ dim. length (row_at c.args.marks.now dim) ≤ c.if-slices-most.most + 1) c.loop-dim.dim
        (λ dim h. let before : length (row_at c.args.marks.now dim) ≤ c.loop-dim.most + 1 = c.loop-dim.invariant.fits dim h in omega (arith, before, w.most-is))
        (omega (arith, w.most-is, w.if-slices-most.false, c.from-slices.ensures, c.count-in-loop-dim.ensures.count));
    most = omega (arith, w.most-is, c.loop-dim.invariant.most);
  }
]
