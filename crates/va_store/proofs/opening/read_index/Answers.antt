use Rattle.std.proofs.Common.{◌≡◌, inr, List, length, map, Some, ◌∙◌, sym, ap}
use Rattle.std.proofs.lemmas.List.{take_at}
use Rattle.va_core.specs.Shape.{Shape}
use Rattle.va_rows.specs.declared.slot.Slot.{Slot}
use Rattle.va_store.specs.Image.{ids_in, repeat_fault}
use Rattle.va_store.specs.Openings.{slot_id}
use Rattle.va_store.specs.declared.faults.OpenFault.{OpenFault}
use Rattle.va_store.proofs.Answering.{refuses_more}
use Rattle.va_store.proofs.Found.{slots_ids}
use Rattle.va_store.proofs.Handing.{if_ok, if_err}
use Rattle.va_store.proofs.opening.read_index.Given.{Over}
use Rattle.va_store.proofs.opening.read_index.Goals as goal

-- the slots that were read hold the ids of the image
ids_read : (g : Over) (c : goal.After-drop-slots-2 g) → g.D.Storage.told → map slot_id c.deref.result.now ≡ ids_in c.args.layout.now.capacity (g.D.Storage.image c.args.disk.now)
ids_read g c told =
    let D = g.D.Storage in
    let slots = c.read_slots.new.out in
    let as_read : length slots ≡ c.in-Ok.slots.len = c.read_slots.auto.out ∙ c.deref_mut.ensures.len in
    let whole : c.deref.result.now ≡ slots = c.deref.ensures.value ∙ take_at slots _ c.in-Ok.slots.len as_read in
    let long : length slots ≡ c.args.layout.now.capacity = as_read ∙ c.in-Ok.ensures.len ∙ c.capacity-capacity.ensures.capacity ∙ ap (λ (s : Shape). s.capacity) c.shape.ensures in
    ap (λ (l : List Slot). map slot_id l) whole ∙ slots_ids c.args.layout.now.capacity (D.image c.args.disk.now) slots long (c.in_ok-read_slots.ensures.slots told)

pub returns-clause-ids : goal.returns-clause-ids
returns-clause-ids g c = if_ok c.index_of.result c.index_of.ensures.ids (λ index has told.
    let same = ids_read g c told in
    (ap repeat_fault (sym same) ∙ has.0, has.1 ∙ same))

pub returns-clause-refused : goal.returns-clause-refused
returns-clause-refused g c =
    let D = g.D.Storage in
    let capacity = c.args.layout.now.capacity in
    if_err c.index_of.result c.index_of.ensures.refused (λ why has.
    refuses_more (λ (other : OpenFault). repeat_fault (map slot_id c.deref.result.now) ≡ Some other) (λ (other : OpenFault). D.told → repeat_fault (ids_in capacity (D.image c.args.disk.now)) ≡ Some other) why
    (λ fault told. ap repeat_fault (sym (ids_read g c told)) ∙ fault) (inr has))
