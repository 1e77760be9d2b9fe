-- Why a call of the store is refused, a fault of the disk aside: of several reasons the first.
use Rattle.std.specs.Prelude.{ℕ, ◌==◌, not, List, length, Option, None, Some, if◌then◌else◌}
use Rattle.va_store.specs.Known.{Known, first_free, is_live_id, place_of_id}
use Rattle.va_store.specs.declared.faults.InsertFault.{InsertFault}
use Rattle.va_store.specs.declared.faults.InsertFault.TheVariants as inserting
use Rattle.va_store.specs.declared.faults.DeleteFault.{DeleteFault}
use Rattle.va_store.specs.declared.faults.DeleteFault.TheVariants as deleting

abbrev pub insert_refusal : Known → ℕ → List ℕ → List ℕ → Option InsertFault
insert_refusal known id vector held =
    if known.broken then Some inserting.Broken
    else if not (length vector == known.shape.dims) then Some inserting.Length
    else if is_live_id id known.ids then Some (inserting.Duplicate (place_of_id id known.ids))
    else if first_free known.ids held == length known.ids then Some inserting.Full
    else None

abbrev pub delete_refusal : Known → ℕ → Option DeleteFault
delete_refusal known id =
    if known.broken then Some deleting.Broken
    else if not (is_live_id id known.ids) then Some deleting.Unknown
    else None
