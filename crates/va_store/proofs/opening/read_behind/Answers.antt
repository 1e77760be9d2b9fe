use Rattle.std.proofs.Common.{inr, List, ℕ, subst}
use Rattle.va_core.specs.Marks.{AreValid}
use Rattle.va_layout.specs.Layout.{vector_at}
use Rattle.va_store.specs.Image.{IsPlaceFault, IsRegionFault, ids_in}
use Rattle.va_store.specs.declared.faults.OpenFault.{OpenFault}
use Rattle.va_store.proofs.Answering.{refuses_more}
use Rattle.va_store.proofs.Fronts.{marks_before, reads_range, reads_then}
use Rattle.va_store.proofs.Handing.{if_err}
use Rattle.va_store.proofs.opening.read_behind.Goals as goal

pub returns-in_err-marks-clause-reads : goal.returns-in_err-marks-clause-reads
returns-in_err-marks-clause-reads g c = reads_range (vector_at c.args.head.layout 0) _ _ _ _ (marks_before c.args.head.layout c.args.head.region) c.read_marks.ensures.reads.1

pub returns-clause-reads : goal.returns-clause-reads
returns-clause-reads g c = λ told. reads_then (vector_at c.args.head.layout 0) _ _ _
    (reads_range (vector_at c.args.head.layout 0) _ _ _ _ (marks_before c.args.head.layout c.args.head.region) c.read_marks.ensures.reads.1 told) (c.read_places.ensures.reads told)

pub returns-clause-refused : goal.returns-clause-refused
returns-clause-refused g c =
    let D = g.D.Storage in
    let shape = c.args.head.layout in
    let region = c.args.head.region in
    let image : List ℕ = D.image c.args.disk.now in
    let mid : List ℕ = D.image c.read_marks.new.disk in
    if_err c.read_places.result c.read_places.ensures.refused (λ why has.
    refuses_more (λ (other : OpenFault). D.told → IsPlaceFault shape region c.in_ok-marks.marks (ids_in shape.capacity mid) mid other) (λ (other : OpenFault). D.told → IsRegionFault shape region image other) why
    (λ fault told. inr (
      subst AreValid (c.in_ok-marks.ensures.marks told) c.in_ok-marks.ensures.valid,
      subst (λ (m : List (List ℕ)). IsPlaceFault shape region m (ids_in shape.capacity image) image why) (c.in_ok-marks.ensures.marks told)
          (subst (λ (im : List ℕ). IsPlaceFault shape region c.in_ok-marks.marks (ids_in shape.capacity im) im why) c.read_marks.ensures.frame.image (fault told)),
    )) has)
