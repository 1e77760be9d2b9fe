use Rattle.std.proofs.Common.{None, arith, rules}
use Rattle.va_disk.proofs.Frames.{writes_weaker}
use Rattle.va_store.specs.Known.{FitsDisk, known_with}
use Rattle.va_store.proofs.Emptying.{shut_after, shut_either}
use Rattle.va_store.proofs.Fitting.{fits_now, known_emptied}
use Rattle.va_store.proofs.store.Store.empty_place.Goals as goal

pub returns-in_err-shut-clause-frame : goal.returns-in_err-shut-clause-frame
returns-in_err-shut-clause-frame g c = writes_weaker c.shut.ensures.frame (λ honest x keeps told kept is each.
    shut_either is c.requires.place (each _ (g.met.D.Disk.is_outcome c.args.disk.now told honest)) (keeps told) c.requires.lives)

pub returns-clause-frame : goal.returns-clause-frame
returns-clause-frame g c = writes_weaker c.shut.ensures.frame (λ honest x keeps told kept is each.
    shut_either is c.requires.place (each _ (g.met.D.Disk.is_outcome c.args.disk.now told honest)) (keeps told) c.requires.lives)

pub returns-clause-stands : goal.returns-clause-stands
returns-clause-stands g c = λ told kept is stood. shut_after is c.requires.place stood (c.shut.ensures.rest told) (c.in_ok-shut.ensures.gate told)

pub returns-clause-fits : goal.returns-clause-fits
returns-clause-fits g c =
    let D = g.D.Storage in
    let fits : FitsDisk D.told (known_with c.args.place None c.args.self.now) (D.size c.args.disk.now) (D.image c.shut.new.disk) = record {
      long = c.requires.fits.long;
      known_in = λ told whole. known_emptied (c.requires.fits.known_in told whole) c.requires.place (c.shut.ensures.rest told)
          (λ is_open. (let gate = c.in_ok-shut.ensures.gate told in omega (arith, gate, is_open)));
    } in
    fits_now D.told _ _ _ _ _ (search rules) c.shut.ensures.size fits
