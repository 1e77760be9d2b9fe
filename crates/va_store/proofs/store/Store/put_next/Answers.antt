use Rattle.va_layout.specs.Stands.{Building}
use Rattle.std.proofs.Common.{◌≡◌, ℕ, List, None, Some, subst, sym, ap, ◌∙◌}
use Rattle.va_core.specs.Marks.{HasShape}
use Rattle.va_core.specs.Places.{Item}
use Rattle.va_layout.specs.declared.region.Region.{Region}
use Rattle.va_layout.specs.Fields.{HasCode}
use Rattle.va_layout.specs.Layout.{other_region}
use Rattle.va_layout.proofs.Writes.{on_ok}
use Rattle.va_store.specs.Known.{Known}
use Rattle.va_store.proofs.Built.{some_building}
use Rattle.va_store.proofs.store.Store.put_next.Goals as goal

pub put_cell-requires-clause-marks : goal.put_cell-requires-clause-marks
put_cell-requires-clause-marks g c = subst (λ (b : Building). HasShape c.self.inside.layout b.marks) (sym c.building.view_is) (c.self.invariant.built c.in-Some.building c.in-Some.is).fit

pub returns-in-Some-clause-code : goal.returns-in-Some-clause-code
returns-in-Some-clause-code g c = on_ok c.put_cell.result c.put_cell.ensures.code (λ code told id b is.
    let image = g.D.Storage.image c.put_cell.new.disk in
    let item : Item = record { id = id; vector = c.args.vector.now } in
    let here : c.in-Some.building ≡ b = some_building c.in-Some.building b (sym c.in-Some.is ∙ ap (λ (k : Known). k.building) c.self.view_is ∙ is) in
    let marks : c.building.inside.marks ≡ b.marks = ap (λ (x : Building). x.marks) (c.building.view_is ∙ here) in
    subst (λ (k : Known). HasCode k.shape (other_region k.region) b.marks c.args.place item image) c.self.view_is
    (subst (λ (m : List (List ℕ)). HasCode c.self.inside.layout (other_region c.self.inside.region) m c.args.place item image) marks
    (subst (λ (r : Region). HasCode c.self.inside.layout r c.building.inside.marks c.args.place item image) c.other.ensures (code told id))))

pub returns-in-Some-clause-idle : goal.returns-in-Some-clause-idle
returns-in-Some-clause-idle g c = λ none. absurd (let both : None ≡ Some c.in-Some.building = sym none ∙ sym (ap (λ (k : Known). k.building) c.self.view_is) ∙ c.in-Some.is in cc)
