use Rattle.std.proofs.Common.{◌≡◌, inl, inr, List, ℕ, Option, Some, subst}
use Rattle.va_layout.specs.Layout.{vector_at}
use Rattle.va_store.specs.Image.{IsCodeFault, IsPlaceFault, ids_in, repeat_fault}
use Rattle.va_store.specs.Known.{AreNamed}
use Rattle.va_store.specs.declared.faults.OpenFault.{OpenFault}
use Rattle.va_store.specs.declared.faults.OpenFault.TheVariants.{Disk}
use Rattle.va_store.proofs.Answering.{refuses_more}
use Rattle.va_store.proofs.Fronts.{reads_then, slots_read}
use Rattle.va_store.proofs.Handing.{cause_on, handed_on}
use Rattle.va_store.proofs.opening.read_places.Goals as goal

pub returns-in_err-index-clause-reads : goal.returns-in_err-index-clause-reads
returns-in_err-index-clause-reads g c = λ told. slots_read c.args.head.layout _ _ (c.read_index.ensures.reads told)

pub returns-in_err-pages-clause-reads : goal.returns-in_err-pages-clause-reads
returns-in_err-pages-clause-reads g c = λ told. reads_then (vector_at c.args.head.layout 0) _ _ _ (slots_read c.args.head.layout _ _ (c.read_index.ensures.reads told)) (c.read_codes.ensures.reads told)

pub returns-in_err-other_pages-clause-reads : goal.returns-in_err-other_pages-clause-reads
returns-in_err-other_pages-clause-reads g c = λ told. reads_then (vector_at c.args.head.layout 0) _ _ _ (slots_read c.args.head.layout _ _ (c.read_index.ensures.reads told)) (c.read_codes.ensures.reads told)

pub returns-clause-reads : goal.returns-clause-reads
returns-clause-reads g c = λ told. reads_then (vector_at c.args.head.layout 0) _ _ _ (slots_read c.args.head.layout _ _ (c.read_index.ensures.reads told)) (c.read_codes.ensures.reads told)

pub returns-clause-places : goal.returns-clause-places
returns-clause-places g c = λ told.
    let ids = c.in_ok-index.ensures.ids told in
    record {
      ids = ids.1;
      differ = ids.0;
      named = subst (λ (l : List (Option ℕ)). AreNamed c.args.head.layout c.args.head.region c.args.marks l (g.D.Storage.image c.args.disk.now)) ids.1
          (subst (λ (image : List ℕ). AreNamed c.args.head.layout c.args.head.region c.args.marks c.in_ok-index.index image) c.read_index.ensures.frame.image (c.in_ok-pages.ensures.named told));
    }

pub returns-in_err-index-clause-refused : goal.returns-in_err-index-clause-refused
returns-in_err-index-clause-refused g c =
    let shape = c.args.head.layout in
    let image = g.D.Storage.image c.args.disk.now in
    handed_on c.from_residual.result _ _ c.from_residual.ensures.1
    (refuses_more (λ (why : OpenFault). g.D.Storage.told → repeat_fault (ids_in shape.capacity image) ≡ Some why) (λ (why : OpenFault). g.D.Storage.told → IsPlaceFault shape c.args.head.region c.args.marks (ids_in shape.capacity image) image why) _
    (λ fault told. inl (fault told)) c.in_err-index.ensures.refused)

pub returns-in_err-pages-clause-refused : goal.returns-in_err-pages-clause-refused
returns-in_err-pages-clause-refused g c =
    let shape = c.args.head.layout in
    let image = g.D.Storage.image c.args.disk.now in
    handed_on c.from_residual-in_err-pages.result _ _ c.from_residual-in_err-pages.ensures.1
    (refuses_more (λ (why : OpenFault). g.D.Storage.told → IsCodeFault shape c.args.head.region c.args.marks c.in_ok-index.index (g.D.Storage.image c.read_index.new.disk) why)
    (λ (why : OpenFault). g.D.Storage.told → IsPlaceFault shape c.args.head.region c.args.marks (ids_in shape.capacity image) image why) _
    (λ fault told. (let ids = c.in_ok-index.ensures.ids told in
    inr (
      ids.0,
      subst (λ (l : List (Option ℕ)). IsCodeFault shape c.args.head.region c.args.marks l image c.in_err-pages.field-0.0) ids.1
          (subst (λ (im : List ℕ). IsCodeFault shape c.args.head.region c.args.marks c.in_ok-index.index im c.in_err-pages.field-0.0) c.read_index.ensures.frame.image (fault told)),
    ))) c.in_err-pages.ensures.refused)

pub returns-in_err-pages-clause-cause : goal.returns-in_err-pages-clause-cause
returns-in_err-pages-clause-cause g c = cause_on g.D.Storage Disk c.from_residual-in_err-pages.result _ c.from_residual-in_err-pages.ensures.1 (c.in_ok-index.ensures.cause.stayed (λ e. cc)) c.in_err-pages.ensures.cause
