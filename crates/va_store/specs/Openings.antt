-- What opening a store answers and reads.
use Rattle.std.specs.Prelude.{◌≡◌, ◌⊎◌, ℕ, ◌+◌, ◌≤◌, ◌<◌, List, [], ◌∷◌, ◌++◌, Option, None, Some, false, if◌then◌else◌}
use Rattle.va_core.specs.Shape.{Shape}
use Rattle.va_layout.specs.declared.region.Region.{Region}
use Rattle.va_layout.specs.Fields.{marks_in}
use Rattle.va_layout.specs.Stands.{SaysShape, Opens, selected_in}
use Rattle.va_rows.specs.declared.slot.Slot.{Slot}
use Rattle.va_store.specs.Image.{IsFault, head_fault, ids_in, kept_in, repeat_fault}
use Rattle.va_store.specs.Known.{AreNamed, Known}
use Rattle.va_store.specs.declared.opening.Opened.{Opened}
use Rattle.va_store.specs.declared.faults.OpenFault.{OpenFault}
use Rattle.va_store.specs.declared.faults.OpenFault.TheVariants as faults

-- an answer for an image: a failed call, want of memory once the length is known to suffice, or the first fault of the image
abbrev pub Answers : List ℕ → OpenFault → Type 0
Answers image why = (why ≡ faults.Disk) ⊎ (((why ≡ faults.Memory) × (head_fault image ≡ None)) ⊎ IsFault image why)

-- an answer of a call that reads a part of the image: a failed call, want of memory, or a fault of that part
abbrev pub Refuses : (OpenFault → Type 0) → OpenFault → Type 0
Refuses HasFault why = (why ≡ faults.Disk) ⊎ ((why ≡ faults.Memory) ⊎ HasFault why)

-- the length that a refusal names is that of the disk, and less than is needed
abbrev pub IsTooShort : ℕ → OpenFault → Type 0
IsTooShort size why = (need have : ℕ) → why ≡ faults.Length need have → (have ≡ size) × (have < need)

-- a store that was read has the shape, the ids and the selected region with its marks that stand in the image, which opens
pub record IsReadFrom (image : List ℕ) (known : Known) : Type 0 where
  pub head : SaysShape known.shape image
  pub ids : known.ids ≡ ids_in known.shape.capacity image
  pub region : known.region ≡ selected_in image
  pub marks : known.marks ≡ marks_in known.shape (selected_in image) image
  pub opens : Opens (kept_in known.shape image) image

-- what is known of a file that was read
abbrev pub known_of : Opened → Known
known_of opened = record {
  shape = opened.layout;
  ids = opened.index;
  broken = false;
  region = opened.region;
  marks = opened.marks;
  scan = opened.pages;
  changed = None;
  building = None;
}

-- the ids are those of the image, no id stands twice, and the code of each live place names a cell
pub record HoldsPlaces (shape : Shape) (region : Region) (marks : List (List ℕ)) (image : List ℕ) (index : List (Option ℕ)) : Type 0 where
  pub ids : index ≡ ids_in shape.capacity image
  pub differ : repeat_fault (ids_in shape.capacity image) ≡ None
  pub named : AreNamed shape region marks (ids_in shape.capacity image) image

-- each of these reads ends there or before
abbrev pub EndBy : ℕ → List (ℕ × ℕ) → Type 0
EndBy end [] = Unit {0}
EndBy end (read ∷ reads) = (read.0 + read.1 ≤ end) × EndBy end reads

-- the reads went on with some that end there or before
pub record ReadsUpTo (end : ℕ) (old new : List (ℕ × ℕ)) : Type 0 where
  pub added : List (ℕ × ℕ)
  pub is : new ≡ old ++ added
  pub within : EndBy end added

-- the id of a slot that is open
abbrev pub slot_id : Slot → Option ℕ
slot_id slot = if slot.live then Some slot.id else None
