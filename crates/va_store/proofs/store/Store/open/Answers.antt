use Rattle.std.proofs.Common.{List, ℕ, refl, sym, subst}
use Rattle.va_store.specs.Image.{kept_in}
use Rattle.va_store.specs.Known.{IsKnownIn}
use Rattle.va_store.specs.Openings.{known_of}
use Rattle.va_store.proofs.Answering.{read_is_of, read_kept, refuses_fault}
use Rattle.va_store.proofs.Fitting.{known_opened}
use Rattle.va_store.proofs.Found.{faultless}
use Rattle.va_store.proofs.Handing.{handed_and, handed_on}
use Rattle.va_store.proofs.Refused.{blank_answer}
use Rattle.va_store.proofs.store.Store.open.Goals as goal

pub returns-clause-fits : goal.returns-clause-fits
returns-clause-fits g c =
    let D = g.D.Storage in
    let opened = c.in_ok-layout.field-0 in
    record {
      long = c.in_ok-layout.ensures.fits;
      known_in = λ told whole. subst (λ (image : List ℕ). IsKnownIn (known_of opened) image) (sym c.read_store.ensures.frame.image)
          (let read = c.in_ok-layout.ensures.opened told in known_opened {kept = kept_in opened.layout (D.image c.args.disk.now)} (read_is_of read) refl (sym read.region) read.opens);
    }

pub returns-clause-opens : goal.returns-clause-opens
returns-clause-opens g c = λ told why fault. faultless _ (g.D.Storage.image c.args.disk.now) (c.in_ok-layout.ensures.opened told).opens why fault

pub returns-clause-refuses : goal.returns-clause-refuses
returns-clause-refuses g c = λ told why fault. absurd (faultless _ (g.D.Storage.image c.args.disk.now) (c.in_ok-layout.ensures.opened told).opens why fault)

pub returns-clause-stands : goal.returns-clause-stands
returns-clause-stands g c = λ told kept opens. read_kept kept (c.in_ok-layout.ensures.opened told) opens

pub returns-in_err-layout-clause-refuses : goal.returns-in_err-layout-clause-refuses
returns-in_err-layout-clause-refuses g c = λ told why fault.
    handed_and c.from_residual.result _ _ c.from_residual.ensures.1 (refuses_fault (g.D.Storage.image c.args.disk.now) fault (c.in_err-layout.ensures.refused told))

pub returns-in_err-layout-clause-blank : goal.returns-in_err-layout-clause-blank
returns-in_err-layout-clause-blank g c = λ told.
    handed_on c.from_residual.result _ _ c.from_residual.ensures.1 (blank_answer (g.D.Storage.image c.args.disk.now) _ (c.in_err-layout.ensures.refused told))

pub returns-clause-faultless : goal.returns-clause-faultless
returns-clause-faultless g c = λ told kept opens why fault. faultless kept (g.D.Storage.image c.args.disk.now) opens why fault

pub returns-in_err-layout-clause-faultless : goal.returns-in_err-layout-clause-faultless
returns-in_err-layout-clause-faultless g c = λ told kept opens why fault. faultless kept (g.D.Storage.image c.args.disk.now) opens why fault
