use Rattle.std.proofs.Common.{◌≡◌, sym, ◌∙◌, ap, subst}
use Rattle.va_core.specs.Shape.{Shape, shape_fault}
use Rattle.va_disk.specs.Frames.{OnlyWrites}
use Rattle.va_layout.specs.Stands.{Stands}
use Rattle.va_store.specs.Empty.{IsMade, empty_kept}
use Rattle.va_store.specs.Known.{empty}
use Rattle.va_serve.specs.Session.{no_store, sitting_in}
use Rattle.va_serve.proofs.Making.{made_carries, made_loses, made_survives, none_there, shape_of}
use Rattle.va_serve.proofs.creating.create.Goals as goal

pub returns-in-Ok-create-clause-obeys : goal.returns-in-Ok-create-clause-obeys
returns-in-Ok-create-clause-obeys g c =
    let D = g.D.Storage in
    let image = D.image c.create.new.disk in
    let shape : c.in-Ok.shape ≡ shape_of c.args.dims c.args.bits c.args.capacity = c.in-Ok.ensures.ok.0 in
    let right = ap shape_fault (sym shape) ∙ c.in-Ok.ensures.ok.1 in
    let empty_before : sitting_in c.args.work.now ≡ no_store = none_there c.args.work.now (sym c.is_some.ensures ∙ c.if-is_some.false) in
    rw (empty_before, c.over.ensures) (made_carries c.args.dims c.args.bits c.args.capacity right D c.args.disk.now c.create.new.disk c.in-Ok-create.store (c.in-Ok-create.ensures.ok ∙ ap empty shape)
    (λ told. subst (λ (s : Shape). Stands (empty_kept s) image) shape (c.in-Ok-create.ensures.stands told)) (λ told. (c.in-Ok-create.ensures.fits.known_in told (ap (λ known. known.broken) c.in-Ok-create.ensures.ok)).selected) c.create.ensures.frame.reads c.in-Ok-create.ensures.durable
    (made_survives c.args.dims c.args.bits c.args.capacity right D c.args.disk.now c.create.new.disk
    (subst (λ (s : Shape). OnlyWrites D c.args.disk.now c.create.new.disk (λ outcome. D.told → IsMade s (D.image c.args.disk.now) outcome)) shape c.create.ensures.frame)))

pub returns-clause-obeys : goal.returns-clause-obeys
returns-clause-obeys g c =
    let D = g.D.Storage in
    let shape : c.in-Ok.shape ≡ shape_of c.args.dims c.args.bits c.args.capacity = c.in-Ok.ensures.ok.0 in
    let right = ap shape_fault (sym shape) ∙ c.in-Ok.ensures.ok.1 in
    let empty_before : sitting_in c.args.work.now ≡ no_store = none_there c.args.work.now (sym c.is_some.ensures ∙ c.if-is_some.false) in
    rw empty_before (made_loses c.args.dims c.args.bits c.args.capacity right D c.args.disk.now c.create.new.disk
    (subst (λ (s : Shape). OnlyWrites D c.args.disk.now c.create.new.disk (λ outcome. D.told → IsMade s (D.image c.args.disk.now) outcome)) shape c.create.ensures.frame))
