use Rattle.va_layout.specs.Stands.{Building}
use Rattle.std.proofs.Common.{◌≡◌, inl, subst, None, Some, ◌∙◌, arith, rules}
use Rattle.va_disk.proofs.Frames.{writes_both, writes_weaker}
use Rattle.va_layout.specs.Fields.{HasCode, gated_ranges}
use Rattle.va_layout.specs.Layout.{other_region}
use Rattle.va_layout.specs.Parts.{KeepsRest}
use Rattle.va_store.specs.Known.{FitsDisk, Known, known_with}
use Rattle.va_store.specs.Builds.{KeepsOther}
use Rattle.va_store.proofs.Built.{code_gate}
use Rattle.va_store.proofs.Fitting.{HasBuilt, fits_now, known_filled}
use Rattle.va_store.proofs.Filling.{IsLaidFor, Room, laid_stands, opened_after, opened_either, room_for}
use Rattle.va_store.proofs.store.Store.fill_place.Goals as goal

pub returns-in_err-lay_place-clause-frame : goal.returns-in_err-lay_place-clause-frame
returns-in_err-lay_place-clause-frame g c =
    let room : Room c.args.self.now c.args.place (record { id = c.args.id; vector = c.args.vector.now }) =
    room_for c.requires.place c.requires.empty c.requires.new c.ranges.id.fits c.requires.length (λ i. omega (arith, c.type_inv.vector i)) in
    writes_weaker c.lay_place.ensures.frame (λ honest x has told kept is each. inl (laid_stands is room (each has.0 has.1) (subst (λ (k : Known). KeepsRest (gated_ranges k.shape c.args.place) has.0 x) c.self.view_is has.2)))

pub returns-in_err-open-clause-frame : goal.returns-in_err-open-clause-frame
returns-in_err-open-clause-frame g c =
    let room : Room c.args.self.now c.args.place (record { id = c.args.id; vector = c.args.vector.now }) =
    room_for c.requires.place c.requires.empty c.requires.new c.ranges.id.fits c.requires.length (λ i. omega (arith, c.type_inv.vector i)) in
    let laid = λ (told : g.D.Storage.told). subst (λ (k : Known). IsLaidFor k c.args.place (record { id = c.args.id; vector = c.args.vector.now }) (g.D.Storage.image c.args.disk.now) (g.D.Storage.image c.lay_place.new.disk)) c.self.view_is
    (record { rest = c.lay_place.ensures.rest told; there = c.in_ok-lay_place.ensures.laid told; code = c.in_ok-lay_place.ensures.code told }) in
    writes_both c.lay_place.ensures.frame c.open.ensures.frame
    (λ honest x has told kept is each. inl (laid_stands is room (each has.0 has.1) (subst (λ (k : Known). KeepsRest (gated_ranges k.shape c.args.place) has.0 x) c.self.view_is has.2)))
    (λ honest x keeps told kept is each. opened_either is room (each _ (g.met.D.Disk.is_outcome c.args.disk.now told honest)) (laid told).rest
    (c.requires.fits.known_in told c.requires.whole).selected (laid told).there (laid told).code (keeps told))

pub returns-clause-frame : goal.returns-clause-frame
returns-clause-frame g c =
    let room : Room c.args.self.now c.args.place (record { id = c.args.id; vector = c.args.vector.now }) =
    room_for c.requires.place c.requires.empty c.requires.new c.ranges.id.fits c.requires.length (λ i. omega (arith, c.type_inv.vector i)) in
    let laid = λ (told : g.D.Storage.told). subst (λ (k : Known). IsLaidFor k c.args.place (record { id = c.args.id; vector = c.args.vector.now }) (g.D.Storage.image c.args.disk.now) (g.D.Storage.image c.lay_place.new.disk)) c.self.view_is
    (record { rest = c.lay_place.ensures.rest told; there = c.in_ok-lay_place.ensures.laid told; code = c.in_ok-lay_place.ensures.code told }) in
    writes_both c.lay_place.ensures.frame c.open.ensures.frame
    (λ honest x has told kept is each. inl (laid_stands is room (each has.0 has.1) (subst (λ (k : Known). KeepsRest (gated_ranges k.shape c.args.place) has.0 x) c.self.view_is has.2)))
    (λ honest x keeps told kept is each. opened_either is room (each _ (g.met.D.Disk.is_outcome c.args.disk.now told honest)) (laid told).rest
    (c.requires.fits.known_in told c.requires.whole).selected (laid told).there (laid told).code (keeps told))

pub returns-clause-stands : goal.returns-clause-stands
returns-clause-stands g c = λ told kept is stood.
    let room : Room c.args.self.now c.args.place (record { id = c.args.id; vector = c.args.vector.now }) =
    room_for c.requires.place c.requires.empty c.requires.new c.ranges.id.fits c.requires.length (λ i. omega (arith, c.type_inv.vector i)) in
    let laid = λ (told : g.D.Storage.told). subst (λ (k : Known). IsLaidFor k c.args.place (record { id = c.args.id; vector = c.args.vector.now }) (g.D.Storage.image c.args.disk.now) (g.D.Storage.image c.lay_place.new.disk)) c.self.view_is
    (record { rest = c.lay_place.ensures.rest told; there = c.in_ok-lay_place.ensures.laid told; code = c.in_ok-lay_place.ensures.code told }) in
    opened_after is room stood (laid told).rest (c.requires.fits.known_in told c.requires.whole).selected (laid told).there (laid told).code
    (c.open.ensures.rest told) (c.in_ok-open.ensures.gate told)

pub returns-clause-fits : goal.returns-clause-fits
returns-clause-fits g c =
    let D = g.D.Storage in
    let room : Room c.args.self.now c.args.place (record { id = c.args.id; vector = c.args.vector.now }) =
    room_for c.requires.place c.requires.empty c.requires.new c.ranges.id.fits c.requires.length (λ i. omega (arith, c.type_inv.vector i)) in
    let laid = λ (told : g.D.Storage.told). subst (λ (k : Known). IsLaidFor k c.args.place (record { id = c.args.id; vector = c.args.vector.now }) (g.D.Storage.image c.args.disk.now) (g.D.Storage.image c.lay_place.new.disk)) c.self.view_is
    (record { rest = c.lay_place.ensures.rest told; there = c.in_ok-lay_place.ensures.laid told; code = c.in_ok-lay_place.ensures.code told }) in
    let known : HasBuilt c.args.self.now = subst HasBuilt c.self.view_is (record { built = c.self.invariant.built }) in
    let next = λ (told : D.told). subst (λ (k : Known). (b : Building) → k.building ≡ Some b → HasCode k.shape (other_region k.region) b.marks c.args.place (record { id = c.args.id; vector = c.args.vector.now }) (D.image c.lay_place.new.disk)) c.self.view_is
    (c.in_ok-lay_place.ensures.next told) in
    let fits : FitsDisk D.told (known_with c.args.place (Some c.args.id) c.args.self.now) (D.size c.args.disk.now) (D.image c.open.new.disk) = record {
      long = c.requires.fits.long;
      known_in = λ told whole. known_filled (c.requires.fits.known_in told whole) c.requires.place c.requires.empty room.fit c.requires.new (laid told).rest (c.open.ensures.rest told)
          (laid told).there (laid told).code (λ building runs. (known.built building runs, next told building runs)) (c.in_ok-open.ensures.gate told);
    } in
    fits_now D.told _ _ _ _ _ (search rules) (c.open.ensures.size ∙ c.lay_place.ensures.size) fits

pub returns-clause-next : goal.returns-clause-next
returns-clause-next g c = λ told b runs.
    let shape = c.args.self.now.shape in
    let region = other_region c.args.self.now.region in
    code_gate shape region c.args.place (c.open.ensures.rest told) c.requires.place
    ∙ subst (λ (k : Known). (b : Building) → k.building ≡ Some b → HasCode k.shape (other_region k.region) b.marks c.args.place (record { id = c.args.id; vector = c.args.vector.now }) (g.D.Storage.image c.lay_place.new.disk)) c.self.view_is
    (c.in_ok-lay_place.ensures.next told) b runs

pub returns-in_err-lay_place-clause-aside : goal.returns-in_err-lay_place-clause-aside
returns-in_err-lay_place-clause-aside g c = λ none told. subst (λ (k : Known). k.building ≡ None → g.D.Storage.told → KeepsOther k.shape k.region c.args.place (g.D.Storage.image c.args.disk.now) (g.D.Storage.image c.lay_place.new.disk)) c.self.view_is c.lay_place.ensures.aside none told

pub returns-in_err-open-clause-aside : goal.returns-in_err-open-clause-aside
returns-in_err-open-clause-aside g c = λ none told.
    code_gate c.args.self.now.shape (other_region c.args.self.now.region) c.args.place (c.open.ensures.rest told) c.requires.place ∙ subst (λ (k : Known). k.building ≡ None → g.D.Storage.told → KeepsOther k.shape k.region c.args.place (g.D.Storage.image c.args.disk.now) (g.D.Storage.image c.lay_place.new.disk)) c.self.view_is c.lay_place.ensures.aside none told

pub returns-clause-aside : goal.returns-clause-aside
returns-clause-aside g c = λ none told.
    code_gate c.args.self.now.shape (other_region c.args.self.now.region) c.args.place (c.open.ensures.rest told) c.requires.place ∙ subst (λ (k : Known). k.building ≡ None → g.D.Storage.told → KeepsOther k.shape k.region c.args.place (g.D.Storage.image c.args.disk.now) (g.D.Storage.image c.lay_place.new.disk)) c.self.view_is c.lay_place.ensures.aside none told
