-- The slots of an image, and the reads that they take.
use Rattle.std.specs.Prelude.{◌≡◌, ℕ, ◌+◌, ◌==◌, ◌≤◌, ◌<◌, List, [], ◌∷◌, ◌++◌, get_or}
use Rattle.std.specs.Int.{w32, from_be_bytes}
use Rattle.va_layout.specs.Parts.{part, byte_at}
use Rattle.va_layout.specs.Layout.{slot_at}
use Rattle.va_layout.specs.Fields.{is_open_in, id_in}
use Rattle.va_rows.specs.declared.slot.Slot.{Slot}

-- the slot that 8 bytes hold
abbrev pub slot_from : List ℕ → Slot
slot_from bytes = record { live = byte_at 0 bytes == 71; id = from_be_bytes w32 (part 4 4 bytes) }

-- whether a place is open, and the id that stands there
abbrev pub slot_of : ℕ → List ℕ → Slot
slot_of p image = record { live = is_open_in p image; id = id_in p image }

-- these are the slots of the places below a number
abbrev pub HoldsSlots : ℕ → List ℕ → List Slot → Type 0
HoldsSlots count image slots = (p : ℕ) (other : Slot) → p < count → get_or slots p other ≡ slot_of p image

-- each read lies in the slot table, and takes at most 4,096 bytes
abbrev pub InTable : ℕ → List (ℕ × ℕ) → Type 0
InTable capacity [] = Unit {0}
InTable capacity (read ∷ reads) = ((slot_at 0 ≤ read.0) × (read.0 + read.1 ≤ slot_at capacity) × (read.1 ≤ 4096)) × InTable capacity reads

-- the reads went on with some of the slot table
pub record ReadsSlots (capacity : ℕ) (old new : List (ℕ × ℕ)) : Type 0 where
  pub added : List (ℕ × ℕ)
  pub is : new ≡ old ++ added
  pub in_table : InTable capacity added
