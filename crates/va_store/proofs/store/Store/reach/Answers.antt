use Rattle.va_layout.specs.Stands.{Building}
use Rattle.std.proofs.Common.{◌≡◌, sym, ◌∙◌, ap}
use Rattle.va_store.specs.Builds.{IsFor}
use Rattle.va_store.proofs.Built.{some_building}
use Rattle.va_store.proofs.store.Store.reach.Goals as goal

pub invariant_of-self-in-Some-2 : goal.invariant_of-self-in-Some-2
invariant_of-self-in-Some-2 c = record {
  all = c.self.invariant.all;
  fit = c.self.invariant.fit;
  valid = c.self.invariant.valid;
  over = c.self.invariant.over;
  beside = c.self.invariant.beside;
  built = λ b is. (let same : c.building.inside.marks ≡ b.marks = ap (λ (x : Building). x.marks) (some_building _ b is) in
      let were : IsFor c.self.inside.layout c.in-Some.building = c.self.invariant.built c.in-Some.building (sym c.take.ensures.value ∙ c.in-Some.is) in
      let marks : c.in-Some.building.marks ≡ b.marks = sym (ap (λ (x : Building). x.marks) c.building.view_is) ∙ same in
      record { fit = rw marks at were.fit; valid = rw marks at were.valid });
}
