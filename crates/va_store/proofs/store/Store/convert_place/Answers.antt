use Rattle.va_layout.specs.Stands.{Building}
use Rattle.std.proofs.Common.{◌≡◌, ◌<◌, Some, List, ℕ, length, get_or, subst, ◌∙◌, rules}
use Rattle.va_core.specs.Places.{IsItem}
use Rattle.va_layout.specs.Fields.{HasCode, code_range, vector_in}
use Rattle.va_layout.specs.Layout.{other_region}
use Rattle.va_layout.specs.Parts.{KeepsRest}
use Rattle.va_store.specs.Builds.{IsFor}
use Rattle.va_store.specs.Known.{FitsDisk, Known}
use Rattle.va_store.specs.Refits.{StaysIn, converted}
use Rattle.va_store.proofs.Filling.{fit_item}
use Rattle.va_store.proofs.Fitting.{fits_now}
use Rattle.va_store.proofs.Quiet.{quiet_both, quiet_reads, quiet_writes}
use Rattle.va_store.proofs.Refitted.{Runs, code_within, known_converted, runs_of, stands_in_beside}
use Rattle.va_store.proofs.store.Store.convert_place.Goals as goal

-- what was written, in the words of the store
in_other : (inside known : Known) (place : ℕ) (a c : List ℕ) → inside ≡ known → KeepsRest (code_range inside.shape (other_region inside.region) place) a c → KeepsRest (code_range known.shape (other_region known.region) place) a c
in_other inside known place a c view keeps = subst (λ (k : Known). KeepsRest (code_range k.shape (other_region k.region) place) a c) view keeps

code_other : (inside known : Known) (b : Building) (place id : ℕ) (vector c : List ℕ) → inside ≡ known → known.building ≡ Some b
    → ((i : ℕ) (d : Building) → inside.building ≡ Some d → HasCode inside.shape (other_region inside.region) d.marks place (record { id = i; vector = vector }) c)
    → HasCode known.shape (other_region known.region) b.marks place (record { id = id; vector = vector }) c
code_other inside known b place id vector c view runs code =
    subst (λ (k : Known). (i : ℕ) (d : Building) → k.building ≡ Some d → HasCode k.shape (other_region k.region) d.marks place (record { id = i; vector = vector }) c) view code id b runs

pub returns-in_err-put_next-clause-stands : goal.returns-in_err-put_next-clause-stands
returns-in_err-put_next-clause-stands g c = λ told kept is stood.
    let known = c.args.self.now in
    (stands_in_beside known.shape is.shape (rw c.fetch.ensures.frame.image (stood, (c.requires.fits.known_in told c.requires.whole).selected))
    (code_within known.shape (other_region known.region) c.args.place c.requires.place (in_other _ known c.args.place _ _ c.self.view_is (c.put_next.ensures.rest told)))).0

pub returns-in_err-put_next-clause-outcomes : goal.returns-in_err-put_next-clause-outcomes
returns-in_err-put_next-clause-outcomes g c = λ honest x left kept is each.
    let known = c.args.self.now in
    let mid = c.put_next.ensures.crash honest x left in
    stands_in_beside known.shape is.shape (each mid.0 (c.fetch.ensures.frame.crash honest mid.0 mid.1))
    (code_within known.shape (other_region known.region) c.args.place c.requires.place (in_other _ known c.args.place mid.0 x c.self.view_is mid.2))

pub returns-in_err-put_next-clause-frame : goal.returns-in_err-put_next-clause-frame
returns-in_err-put_next-clause-frame g c = quiet_both {P = λ x. StaysIn g.D.Storage c.args.self.now c.args.disk.now x} (quiet_reads c.fetch.ensures.frame) (quiet_writes c.put_next.ensures.frame (λ honest x left kept is each. (
    let known = c.args.self.now in
    let mid = c.put_next.ensures.crash honest x left in
    stands_in_beside known.shape is.shape (each mid.0 (c.fetch.ensures.frame.crash honest mid.0 mid.1))
    (code_within known.shape (other_region known.region) c.args.place c.requires.place (in_other _ known c.args.place mid.0 x c.self.view_is mid.2)))))
    (λ honest x has. has) (λ honest x has. has)

pub returns-clause-stands : goal.returns-clause-stands
returns-clause-stands g c = λ told kept is stood.
    let known = c.args.self.now in
    (stands_in_beside known.shape is.shape (rw c.fetch.ensures.frame.image (stood, (c.requires.fits.known_in told c.requires.whole).selected))
    (code_within known.shape (other_region known.region) c.args.place c.requires.place (in_other _ known c.args.place _ _ c.self.view_is (c.put_next.ensures.rest told)))).0

pub returns-clause-outcomes : goal.returns-clause-outcomes
returns-clause-outcomes g c = λ honest x left kept is each.
    let known = c.args.self.now in
    let mid = c.put_next.ensures.crash honest x left in
    stands_in_beside known.shape is.shape (each mid.0 (c.fetch.ensures.frame.crash honest mid.0 mid.1))
    (code_within known.shape (other_region known.region) c.args.place c.requires.place (in_other _ known c.args.place mid.0 x c.self.view_is mid.2))

pub returns-clause-frame : goal.returns-clause-frame
returns-clause-frame g c = quiet_both {P = λ x. StaysIn g.D.Storage c.args.self.now c.args.disk.now x} (quiet_reads c.fetch.ensures.frame) (quiet_writes c.put_next.ensures.frame (λ honest x left kept is each. (
    let known = c.args.self.now in
    let mid = c.put_next.ensures.crash honest x left in
    stands_in_beside known.shape is.shape (each mid.0 (c.fetch.ensures.frame.crash honest mid.0 mid.1))
    (code_within known.shape (other_region known.region) c.args.place c.requires.place (in_other _ known c.args.place mid.0 x c.self.view_is mid.2)))))
    (λ honest x has. has) (λ honest x has. has)

pub returns-clause-fits : goal.returns-clause-fits
returns-clause-fits g c =
    let D = g.D.Storage in
    let known = c.args.self.now in
    let old = D.image c.args.disk.now in
    let new = D.image c.put_next.new.disk in
    let vector = c.fetch.new.out in
    let runs : Runs known.building = runs_of known.building c.requires.runs in
    let long : length vector ≡ known.shape.dims = search rules in
    let bytes : (i : ℕ) → get_or vector i 0 < 256 = λ i. search rules in
    let fits_vector : IsItem known.shape.dims (record { id = c.args.id; vector = vector }) = fit_item c.ranges.id.fits long bytes in
    let fit : (b : Building) → known.building ≡ Some b → IsFor known.shape b =
    subst (λ (k : Known). (b : Building) → k.building ≡ Some b → IsFor k.shape b) c.self.view_is c.put_next.ensures.fit in
    let read : D.told → vector ≡ vector_in known.shape c.args.place old =
    λ told. subst (λ (k : Known). vector ≡ vector_in k.shape c.args.place old) c.self.view_is (c.in_ok-fetch.ensures.vector told) in
    let fits : FitsDisk D.told (converted c.args.id known) (D.size c.args.disk.now) new = record {
      long = c.requires.fits.long;
      known_in = λ told whole. known_converted (c.requires.fits.known_in told c.requires.whole) runs.is c.requires.place c.requires.lives
          (subst (λ (a : List ℕ). KeepsRest (code_range known.shape (other_region known.region) c.args.place) a new) c.fetch.ensures.frame.image (in_other _ known c.args.place _ _ c.self.view_is (c.put_next.ensures.rest told)))
          (fit runs.built runs.is)
          (subst (λ (v : List ℕ). IsItem known.shape.dims (record { id = c.args.id; vector = v })) (read told) fits_vector)
          (subst (λ (v : List ℕ). HasCode known.shape (other_region known.region) runs.built.marks c.args.place (record { id = c.args.id; vector = v }) new) (read told)
          (code_other _ known runs.built c.args.place c.args.id vector new c.self.view_is runs.is (c.in_ok-put_next.ensures.code told)))
          c.requires.next c.requires.one;
    } in
    fits_now D.told _ _ _ _ _ (search rules) (c.put_next.ensures.size ∙ c.fetch.ensures.frame.size) fits
