use Rattle.std.proofs.Common.{◌≡◌, ◌<◌, ◌*◌, ℕ, get_or}
use Rattle.va_layout.specs.Parts.{part}
use Rattle.va_rows.specs.declared.slot.Slot.{Slot}
use Rattle.va_rows.specs.Slots.{slot_from}
use Rattle.va_rows.proofs.slot.unpack.Given as goal

abbrev pub invariant-loop-index : goal.invariant-loop-index
invariant-loop-index l = (k : ℕ) (other : Slot) → k < l.index → get_or l.out k other ≡ slot_from (part (8 * k) 8 l.bytes)
