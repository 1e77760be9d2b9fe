use Rattle.std.proofs.Common.{◌≡◌, map, take}
use Rattle.va_store.specs.Openings.{slot_id}
use Rattle.va_store.proofs.opening.ids_of.Given as goal

abbrev pub invariant-loop-slot : goal.invariant-loop-slot
invariant-loop-slot l = l.ids.items ≡ map slot_id (take l.slot-index l.slots)
