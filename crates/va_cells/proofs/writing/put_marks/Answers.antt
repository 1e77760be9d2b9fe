use Rattle.std.proofs.Common.{◌<◌, ℕ, List, ap, ◌∙◌, arith}
use Rattle.va_core.specs.Shape.{Shape}
use Rattle.va_disk.specs.Crashes.{Follows}
use Rattle.va_disk.proofs.Frames.{writes_both}
use Rattle.va_layout.proofs.Parts.{rest_twice}
use Rattle.va_layout.proofs.Writes.{follows_twice}
use Rattle.va_layout.specs.Parts.{KeepsRest}
use Rattle.va_layout.specs.Fields.{marks_range}
use Rattle.va_cells.proofs.Inside.{marks_inside}
use Rattle.va_cells.proofs.MarkRows.{all_rows, next_row, one_more, row_ends, row_within}
use Rattle.va_cells.proofs.writing.put_marks.Goals as goal

pub put_row-requires-clause-inside : goal.put_row-requires-clause-inside
put_row-requires-clause-inside g c =
    let shape = c.args.layout.now in
    let inside : c.loop-dim.dim < shape.dims = omega (arith, c.loop-dim-test.true, c.loop-dim.auto.dim-end, c.dims-dims.ensures.dims, ap (λ (s : Shape). s.dims) c.shape.ensures) in
    omega (arith, c.loop-dim.invariant.place, c.loop-dim.invariant.size, row_ends shape c.args.marks.now c.loop-dim.dim c.requires.shape inside, marks_inside shape c.args.region, c.requires.fits)

pub returns-in_err-at-clause-rest : goal.returns-in_err-at-clause-rest
returns-in_err-at-clause-rest g c = λ told.
    let shape = c.args.layout.now in
    let inside : c.loop-dim.dim < shape.dims = omega (arith, c.loop-dim-test.true, c.loop-dim.auto.dim-end, c.dims-dims.ensures.dims, ap (λ (s : Shape). s.dims) c.shape.ensures) in
    rest_twice (marks_range shape c.args.region) _ _ _ (c.loop-dim.invariant.rest told)
    (row_within shape c.args.region c.args.marks.now c.requires.shape c.loop-dim.dim c.loop-dim.at _ _ inside c.loop-dim.invariant.place (c.put_row.ensures.rest told))

pub returns-in_err-at-clause-crash : goal.returns-in_err-at-clause-crash
returns-in_err-at-clause-crash g c = λ honest.
    let shape = c.args.layout.now in
    let inside : c.loop-dim.dim < shape.dims = omega (arith, c.loop-dim-test.true, c.loop-dim.auto.dim-end, c.dims-dims.ensures.dims, ap (λ (s : Shape). s.dims) c.shape.ensures) in
    follows_twice (marks_range shape c.args.region) _ _ _ _
    (λ x y keeps. row_within shape c.args.region c.args.marks.now c.requires.shape c.loop-dim.dim c.loop-dim.at x y inside c.loop-dim.invariant.place keeps)
    (c.loop-dim.invariant.crash honest) (c.put_row.ensures.crash honest)

pub returns-in_err-at-clause-frame : goal.returns-in_err-at-clause-frame
returns-in_err-at-clause-frame g c = writes_both c.loop-dim.invariant.frame c.put_row.ensures.frame (λ honest x has. has) (λ honest x left. returns-in_err-at-clause-crash g c honest x left)

pub loop-dim-preserved : goal.loop-dim-preserved
loop-dim-preserved g c =
    let D = g.D.Storage in
    let shape = c.args.layout.now in
    let before = c.loop-dim.invariant in
    let now = c.put_row.ensures in
    let inside : c.loop-dim.dim < shape.dims = omega (arith, c.loop-dim-test.true, c.loop-dim.auto.dim-end, c.dims-dims.ensures.dims, ap (λ (s : Shape). s.dims) c.shape.ensures) in
    let within : (x y : List ℕ) → _ → KeepsRest (marks_range shape c.args.region) x y = λ x y keeps. row_within shape c.args.region c.args.marks.now c.requires.shape c.loop-dim.dim c.loop-dim.at x y inside before.place keeps in
    let crash : D.honest → Follows (KeepsRest (marks_range shape c.args.region)) (D.may_leave c.args.disk.now) (D.may_leave c.put_row.new.disk) = λ honest.
    follows_twice (marks_range shape c.args.region) _ _ _ _ within (before.crash honest) (now.crash honest) in
    record {
      place = omega (arith, c.in_ok-at.ensures.end, before.place, next_row shape c.args.marks.now c.loop-dim.dim c.requires.shape inside);
      written = λ told. one_more shape c.args.region c.args.marks.now c.requires.shape c.loop-dim.dim c.loop-dim.at (D.image c.loop-dim.disk) (D.image c.put_row.new.disk) inside before.place
          (before.written told) (now.rest told) (c.in_ok-at.ensures.written told);
      rest = λ told. rest_twice (marks_range shape c.args.region) _ _ _ (before.rest told) (within _ _ (now.rest told));
      crash = crash;
      frame = writes_both before.frame now.frame (λ honest x has. has) (λ honest x left. crash honest x left);
      size = now.size ∙ before.size;
      stayed = c.in_ok-at.ensures.cause.stayed ∙ before.stayed;
    }

pub returns-clause-marks : goal.returns-clause-marks
returns-clause-marks g c = λ told. all_rows c.args.layout.now c.args.region c.args.marks.now c.requires.shape c.loop-dim.dim (g.D.Storage.image c.loop-dim.disk) c.count-count.ensures.valid
    (omega (arith, c.loop-dim-test.false, c.loop-dim.auto.dim-end, c.dims-dims.ensures.dims, ap (λ (s : Shape). s.dims) c.shape.ensures)) (c.loop-dim.invariant.written told)
