use Rattle.std.proofs.Common.{set, sym, ◌∙◌, ap, rules}
use Rattle.va_cells.specs.Selecting.{selection_of}
use Rattle.va_disk.proofs.Frames.{writes_weaker}
use Rattle.va_layout.specs.declared.region.Region.{Region}
use Rattle.va_layout.specs.Layout.{other_region}
use Rattle.va_store.specs.Known.{FitsDisk, Known}
use Rattle.va_store.specs.Refits.{switched}
use Rattle.va_store.proofs.Fitting.{fits_now}
use Rattle.va_store.proofs.Built.{back}
use Rattle.va_store.proofs.Refitted.{Runs, known_switched, runs_of, switched_after, switched_either}
use Rattle.va_store.proofs.store.Store.switch.Goals as goal

pub select-requires-clause-other : goal.select-requires-clause-other
select-requires-clause-other g c = λ told.
    (c.requires.fits.known_in told c.requires.whole).selected ∙ sym (ap other_region c.other.ensures ∙ back c.self.inside.region ∙ ap (λ (k : Known). k.region) c.self.view_is)

pub returns-in_err-select-clause-frame : goal.returns-in_err-select-clause-frame
returns-in_err-select-clause-frame g c = writes_weaker c.select.ensures.frame (λ honest x keeps told kept is each. (
    let runs : Runs c.args.self.now.building = runs_of c.args.self.now.building c.requires.runs in
    switched_either (c.requires.fits.known_in told c.requires.whole) runs.is c.requires.all (keeps told) is (each _ (g.met.D.Disk.is_outcome c.args.disk.now told honest))))

pub returns-clause-frame : goal.returns-clause-frame
returns-clause-frame g c = writes_weaker c.select.ensures.frame (λ honest x keeps told kept is each. (
    let runs : Runs c.args.self.now.building = runs_of c.args.self.now.building c.requires.runs in
    switched_either (c.requires.fits.known_in told c.requires.whole) runs.is c.requires.all (keeps told) is (each _ (g.met.D.Disk.is_outcome c.args.disk.now told honest))))

pub returns-clause-stands : goal.returns-clause-stands
returns-clause-stands g c = λ told kept is stood.
    let runs : Runs c.args.self.now.building = runs_of c.args.self.now.building c.requires.runs in
    switched_after (c.requires.fits.known_in told c.requires.whole) runs.is c.requires.all (c.select.ensures.rest told) is stood
    (c.in_ok-select.ensures.selected told ∙ c.other.ensures ∙ ap (λ (k : Known). other_region k.region) c.self.view_is)

pub returns-clause-fits : goal.returns-clause-fits
returns-clause-fits g c =
    let D = g.D.Storage in
    let known = c.args.self.now in
    let runs : Runs known.building = runs_of known.building c.requires.runs in
    let fits : FitsDisk D.told (switched known) (D.size c.args.disk.now) (D.image c.select.new.disk) = record {
      long = c.requires.fits.long;
      known_in = λ told whole. known_switched (c.requires.fits.known_in told c.requires.whole) runs.is c.requires.all (c.select.ensures.rest told)
          (c.in_ok-select.ensures.selected told ∙ c.other.ensures ∙ ap (λ (k : Known). other_region k.region) c.self.view_is);
    } in
    fits_now D.told _ _ _ _ _ (search rules) c.select.ensures.size fits

pub returns-clause-written : goal.returns-clause-written
returns-clause-written g c = λ told. c.in_ok-select.ensures.written told ∙ ap (λ (r : Region). set (g.D.Storage.image c.args.disk.now) 16 (selection_of r)) (c.other.ensures ∙ ap (λ (k : Known). other_region k.region) c.self.view_is)
