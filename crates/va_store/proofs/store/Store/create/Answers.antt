use Rattle.std.proofs.Common.{◌≡◌, ◌∙◌, ap, subst}
use Rattle.va_core.specs.Shape.{Shape}
use Rattle.va_disk.specs.Frames.{OnlyWrites}
use Rattle.va_store.specs.Empty.{IsMade}
use Rattle.va_store.specs.Known.{Known}
use Rattle.va_store.proofs.Fitting.{fits_created}
use Rattle.va_store.proofs.store.Store.create.Goals as goal

pub returns-in-Ok-write_empty-clause-fits : goal.returns-in-Ok-write_empty-clause-fits
returns-in-Ok-write_empty-clause-fits g c =
    let same : c.store.inside.layout ≡ c.args.shape = ap (λ (k : Known). k.shape) (c.store.view_is ∙ c.in-Ok.ensures) in
    fits_created g.D.Storage.told c.args.shape c.in-Ok.store _ _ c.in-Ok.ensures (rw same at c.in-Ok-write_empty.ensures.size) (λ told. rw same at (c.in-Ok-write_empty.ensures.stands told)) c.in-Ok-write_empty.ensures.selected

pub returns-in-Ok-write_empty-clause-frame : goal.returns-in-Ok-write_empty-clause-frame
returns-in-Ok-write_empty-clause-frame g c =
    let same : c.store.inside.layout ≡ c.args.shape = ap (λ (k : Known). k.shape) (c.store.view_is ∙ c.in-Ok.ensures) in
    subst (λ (shape : Shape). OnlyWrites g.D.Storage c.args.disk.now c.write_empty.new.disk (λ image. g.D.Storage.told → IsMade shape (g.D.Storage.image c.args.disk.now) image)) same c.in-Ok-write_empty.ensures.frame
