use Rattle.std.proofs.Common.{List, ℕ, ap, subst}
use Rattle.va_cells.specs.Scans.{Scan}
use Rattle.va_core.specs.Shape.{Shape}
use Rattle.va_layout.specs.declared.region.Region.{Region}
use Rattle.va_store.specs.Known.{AreNamed}
use Rattle.va_store.proofs.Fronts.{codes_read}
use Rattle.va_store.proofs.opening.read_codes.Goals as goal

pub returns-in_err-place-clause-reads : goal.returns-in_err-place-clause-reads
returns-in_err-place-clause-reads g c = codes_read g.D.Storage c.args.layout.now c.args.region c.in_ok-pages.pages c.first_unnamed.new.pages.end c.in_ok-pages.ensures c.first_unnamed.ensures.pieces

pub returns-in-Some-clause-reads : goal.returns-in-Some-clause-reads
returns-in-Some-clause-reads g c = codes_read g.D.Storage c.args.layout.now c.args.region c.in_ok-pages.pages c.first_unnamed.new.pages.end c.in_ok-pages.ensures c.first_unnamed.ensures.pieces

pub returns-in-None-clause-reads : goal.returns-in-None-clause-reads
returns-in-None-clause-reads g c = codes_read g.D.Storage c.args.layout.now c.args.region c.in_ok-pages.pages c.first_unnamed.new.pages.end c.in_ok-pages.ensures c.first_unnamed.ensures.pieces

pub returns-in-None-clause-named : goal.returns-in-None-clause-named
returns-in-None-clause-named g c = λ told.
    let image : List ℕ = g.D.Storage.image c.args.disk.now in
    subst (λ (r : Region). AreNamed c.args.layout.now r c.args.marks.now c.args.index.now image) (ap (λ (s : Scan). s.region) c.in_ok-pages.ensures)
    (subst (λ (s : Shape). AreNamed s c.in_ok-pages.pages.region c.args.marks.now c.args.index.now image) c.shape.ensures (c.in_ok-place.ensures.named c.in-None.is told))
