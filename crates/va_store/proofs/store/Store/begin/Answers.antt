use Rattle.va_layout.specs.Stands.{Building}
use Rattle.std.proofs.Common.{◌≡◌, ◌∙◌, List, ℕ, None, ap, subst, rules}
use Rattle.va_core.specs.Shape.{Shape}
use Rattle.va_disk.proofs.Frames.{writes_weaker}
use Rattle.va_layout.specs.declared.region.Region.{Region}
use Rattle.va_layout.specs.Fields.{marks_in, marks_range}
use Rattle.va_layout.specs.Layout.{other_region}
use Rattle.va_layout.specs.Parts.{KeepsRest}
use Rattle.va_store.specs.Builds.{IsFor}
use Rattle.va_store.specs.Known.{FitsDisk, Known}
use Rattle.va_store.specs.Refits.{begun}
use Rattle.va_store.proofs.Fitting.{fits_now}
use Rattle.va_store.proofs.Refitted.{known_begun, marks_within, stands_in_beside}
use Rattle.va_store.proofs.store.Store.begin.Goals as goal

-- what was written lies in the region that isn't selected
in_other : (inside known : Known) (region : Region) (a c : List ℕ) → inside ≡ known → region ≡ other_region inside.region → KeepsRest (marks_range inside.shape region) a c → KeepsRest (marks_range known.shape (other_region known.region)) a c
in_other inside known region a c view other keeps = subst (λ (k : Known). KeepsRest (marks_range k.shape (other_region k.region)) a c) view (subst (λ (r : Region). KeepsRest (marks_range inside.shape r) a c) other keeps)

marks_other : (inside known : Known) (region : Region) (marks : List (List ℕ)) (c : List ℕ) → inside ≡ known → region ≡ other_region inside.region → marks_in inside.shape region c ≡ marks → marks_in known.shape (other_region known.region) c ≡ marks
marks_other inside known region marks c view other there = subst (λ (k : Known). marks_in k.shape (other_region k.region) c ≡ marks) view (subst (λ (r : Region). marks_in inside.shape r c ≡ marks) other there)

pub returns-in_err-put_marks-clause-stands : goal.returns-in_err-put_marks-clause-stands
returns-in_err-put_marks-clause-stands g c = λ told kept is stood.
    let known = c.args.self.now in
    (stands_in_beside known.shape is.shape (stood, (c.requires.fits.known_in told c.requires.whole).selected)
    (marks_within known.shape (other_region known.region) (in_other _ known c.other.result _ _ c.self.view_is c.other.ensures (c.put_marks.ensures.rest told)))).0

pub returns-in_err-put_marks-clause-outcomes : goal.returns-in_err-put_marks-clause-outcomes
returns-in_err-put_marks-clause-outcomes g c = λ honest x left kept is each.
    let known = c.args.self.now in
    let mid = c.put_marks.ensures.crash honest x left in
    stands_in_beside known.shape is.shape (each mid.0 mid.1) (marks_within known.shape (other_region known.region) (in_other _ known c.other.result _ _ c.self.view_is c.other.ensures mid.2))

pub returns-in_err-put_marks-clause-frame : goal.returns-in_err-put_marks-clause-frame
returns-in_err-put_marks-clause-frame g c = writes_weaker c.put_marks.ensures.frame (λ honest x has kept is each. (
    let known = c.args.self.now in
    stands_in_beside known.shape is.shape (each has.0 has.1) (marks_within known.shape (other_region known.region) (in_other _ known c.other.result _ _ c.self.view_is c.other.ensures has.2))))

pub returns-clause-stands : goal.returns-clause-stands
returns-clause-stands g c = λ told kept is stood.
    let known = c.args.self.now in
    (stands_in_beside known.shape is.shape (stood, (c.requires.fits.known_in told c.requires.whole).selected)
    (marks_within known.shape (other_region known.region) (in_other _ known c.other.result _ _ c.self.view_is c.other.ensures (c.put_marks.ensures.rest told)))).0

pub returns-clause-outcomes : goal.returns-clause-outcomes
returns-clause-outcomes g c = λ honest x left kept is each.
    let known = c.args.self.now in
    let mid = c.put_marks.ensures.crash honest x left in
    stands_in_beside known.shape is.shape (each mid.0 mid.1) (marks_within known.shape (other_region known.region) (in_other _ known c.other.result _ _ c.self.view_is c.other.ensures mid.2))

pub returns-clause-frame : goal.returns-clause-frame
returns-clause-frame g c = writes_weaker c.put_marks.ensures.frame (λ honest x has kept is each. (
    let known = c.args.self.now in
    stands_in_beside known.shape is.shape (each has.0 has.1) (marks_within known.shape (other_region known.region) (in_other _ known c.other.result _ _ c.self.view_is c.other.ensures has.2))))

pub returns-clause-fits : goal.returns-clause-fits
returns-clause-fits g c =
    let D = g.D.Storage in
    let known = c.args.self.now in
    let first : Building = record { marks = c.args.marks; last = None } in
    let fit : IsFor known.shape first = subst (IsFor known.shape) c.new-building.ensures.building
    (subst (λ (s : Shape). IsFor s c.new-building.result) (c.shape.ensures ∙ ap (λ (k : Known). k.shape) c.self.view_is) c.new-building.ensures.fit) in
    let marks : c.building.inside.marks ≡ c.args.marks = ap (λ (b : Building). b.marks) (c.building.view_is ∙ c.new-building.ensures.building) in
    let fits : FitsDisk D.told (begun c.args.marks known) (D.size c.args.disk.now) (D.image c.put_marks.new.disk) = record {
      long = c.requires.fits.long;
      known_in = λ told whole. known_begun (c.requires.fits.known_in told whole) fit
          (in_other _ known c.other.result _ _ c.self.view_is c.other.ensures (c.put_marks.ensures.rest told))
          (marks_other _ known c.other.result _ _ c.self.view_is c.other.ensures (c.in_ok-put_marks.ensures.marks told ∙ marks));
    } in
    fits_now D.told _ _ _ _ _ (search rules) c.put_marks.ensures.size fits
