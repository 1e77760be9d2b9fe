use Rattle.va_layout.specs.Stands.{Building}
use Rattle.std.proofs.Common.{◌≡◌, Some, None, sym, ◌∙◌, ap}
use Rattle.va_cells.specs.Scans.{Scan}
use Rattle.va_layout.specs.Layout.{other_region}
use Rattle.va_store.specs.Builds.{IsFor}
use Rattle.va_store.proofs.Built.{back}
use Rattle.va_store.proofs.store.Store.settle.Goals as goal

pub invariant_of-self-2 : goal.invariant_of-self-2
invariant_of-self-2 c =
    let were : IsFor c.self.inside.layout c.in-Some.building = c.self.invariant.built c.in-Some.building (sym c.take.ensures.value ∙ c.in-Some.is) in
    let marks : c.in-Some.building.marks ≡ c.building.inside.marks = sym (ap (λ (x : Building). x.marks) c.building.view_is) in
    let now : c.swap.new.x ≡ c.self.inside.other_pages = c.swap.ensures.x_after in
    let other : c.swap.new.y ≡ c.self.inside.pages = c.swap.ensures.y_after in
    let region : c.other-self-inside.result ≡ other_region c.self.inside.region = c.other-self-inside.ensures in
    let beside = c.self.invariant.beside in
    record {
      all = c.self.invariant.all;
      fit = rw marks at were.fit;
      valid = rw marks at were.valid;
      over = record {
        same_shape = ap (λ (s : Scan). s.shape) c.rewind.ensures ∙ ap (λ (s : Scan). s.shape) now ∙ beside.same_shape;
        same_region = ap (λ (s : Scan). s.region) c.rewind.ensures ∙ ap (λ (s : Scan). s.region) now ∙ beside.same_region ∙ sym region;
      };
      beside = record {
        same_shape = ap (λ (s : Scan). s.shape) other ∙ c.self.invariant.over.same_shape;
        same_region = ap (λ (s : Scan). s.region) other ∙ c.self.invariant.over.same_region ∙ sym (ap other_region region ∙ back c.self.inside.region);
      };
      built = λ b is. absurd (let e : None ≡ Some b = sym c.take.ensures.after ∙ is in cc);
    }
