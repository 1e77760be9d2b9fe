use Rattle.std.proofs.Common.{◌<◌, sym, ◌∙◌, subst}
use Rattle.va_core.specs.Places.{Item}
use Rattle.va_layout.specs.Fields.{HasCode, IsLaid, code_range, laid_ranges}
use Rattle.va_layout.specs.Layout.{other_region}
use Rattle.va_layout.specs.Parts.{KeepsRest}
use Rattle.va_layout.proofs.Coded.{laid_stays}
use Rattle.va_layout.proofs.Writes.{on_ok}
use Rattle.va_store.specs.Known.{Known}
use Rattle.va_store.proofs.Built.{code_beside, code_laid, laid_aside, shut_beside}
use Rattle.va_store.proofs.store.Store.lay_place.Goals as goal

pub returns-in_err-put_cell-clause-closed : goal.returns-in_err-put_cell-clause-closed
returns-in_err-put_cell-clause-closed g c = λ told.
    let inside : c.args.place < c.self.inside.layout.capacity = subst (λ (k : Known). c.args.place < k.shape.capacity) (sym c.self.view_is) c.requires.place in
    shut_beside c.self.inside.layout c.self.inside.region c.args.place inside (c.put_cell.ensures.rest told) (c.lay.ensures.closed told)

pub returns-clause-closed : goal.returns-clause-closed
returns-clause-closed g c = λ told.
    let inside : c.args.place < c.self.inside.layout.capacity = subst (λ (k : Known). c.args.place < k.shape.capacity) (sym c.self.view_is) c.requires.place in
    shut_beside c.args.self.now.shape (other_region c.args.self.now.region) c.args.place c.requires.place (c.put_next.ensures.rest told)
    (shut_beside c.self.inside.layout c.self.inside.region c.args.place inside (c.put_cell.ensures.rest told) (c.lay.ensures.closed told))

pub returns-clause-laid : goal.returns-clause-laid
returns-clause-laid g c = on_ok c.put_next.result c.put_next.ensures.code (λ code told.
    let item : Item = record { id = c.args.id; vector = c.args.vector.now } in
    let inside : c.args.place < c.self.inside.layout.capacity = subst (λ (k : Known). c.args.place < k.shape.capacity) (sym c.self.view_is) c.requires.place in
    laid_stays (other_region c.args.self.now.region) c.requires.place
    (subst (λ (k : Known). IsLaid k.shape c.args.place item (g.D.Storage.image c.put_cell.new.disk)) c.self.view_is
    (laid_stays c.self.inside.region inside (c.in_ok-lay.ensures.laid told) (c.put_cell.ensures.rest told))) (c.put_next.ensures.rest told))

pub returns-clause-code : goal.returns-clause-code
returns-clause-code g c = on_ok c.put_next.result c.put_next.ensures.code (λ code told.
    let item : Item = record { id = c.args.id; vector = c.args.vector.now } in
    code_beside c.args.self.now.shape c.args.self.now.region c.args.place c.requires.place (c.put_next.ensures.rest told)
    ∙ subst (λ (k : Known). HasCode k.shape k.region k.marks c.args.place item (g.D.Storage.image c.put_cell.new.disk)) c.self.view_is (c.in_ok-put_cell.ensures.code told c.args.id))

pub returns-clause-next : goal.returns-clause-next
returns-clause-next g c = on_ok c.put_next.result c.put_next.ensures.code (λ code told b runs. code told c.args.id b runs)

pub returns-in_err-lay-clause-aside : goal.returns-in_err-lay-clause-aside
returns-in_err-lay-clause-aside g c = λ none told. code_laid c.args.self.now.shape (other_region c.args.self.now.region) c.args.place c.requires.place
    (subst (λ (k : Known). KeepsRest (laid_ranges k.shape c.args.place) (g.D.Storage.image c.args.disk.now) (g.D.Storage.image c.lay.new.disk)) c.self.view_is (c.lay.ensures.rest told))

pub returns-in_err-put_cell-clause-aside : goal.returns-in_err-put_cell-clause-aside
returns-in_err-put_cell-clause-aside g c = λ none told. laid_aside c.args.self.now.shape c.args.self.now.region c.args.place c.requires.place
    (subst (λ (k : Known). KeepsRest (laid_ranges k.shape c.args.place) (g.D.Storage.image c.args.disk.now) (g.D.Storage.image c.lay.new.disk)) c.self.view_is (c.lay.ensures.rest told))
    (subst (λ (k : Known). KeepsRest (code_range k.shape k.region c.args.place) (g.D.Storage.image c.lay.new.disk) (g.D.Storage.image c.put_cell.new.disk)) c.self.view_is (c.put_cell.ensures.rest told))

pub returns-clause-aside : goal.returns-clause-aside
returns-clause-aside g c = λ none told. rw (c.put_next.ensures.idle none) (laid_aside c.args.self.now.shape c.args.self.now.region c.args.place c.requires.place
    (subst (λ (k : Known). KeepsRest (laid_ranges k.shape c.args.place) (g.D.Storage.image c.args.disk.now) (g.D.Storage.image c.lay.new.disk)) c.self.view_is (c.lay.ensures.rest told))
    (subst (λ (k : Known). KeepsRest (code_range k.shape k.region c.args.place) (g.D.Storage.image c.lay.new.disk) (g.D.Storage.image c.put_cell.new.disk)) c.self.view_is (c.put_cell.ensures.rest told)))
