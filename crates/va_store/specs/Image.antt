-- What an image is refused for, and the ids that stand in one that isn't.
use Rattle.std.specs.Prelude.{◌≡◌, ◌⊎◌, ℕ, zero, suc, ◌<◌, ◌==◌, nat_lt, List, length, get_or, map, Bool, true, false, Option, None, Some, is_some, Result, Ok, Err, if◌then◌else◌}
use Rattle.std.specs.List.{range_with_len}
use Rattle.va_cells.specs.declared.fault.CellsFault.{CellsFault}
use Rattle.va_cells.specs.declared.fault.CellsFault.TheVariants as cells
use Rattle.va_core.specs.MarkBytes.{IsFirstInvalid, marks_len}
use Rattle.va_core.specs.Marks.{AreValid}
use Rattle.va_core.specs.Places.{Item}
use Rattle.va_core.specs.Shape.{Shape}
use Rattle.va_layout.specs.declared.header.Header.{Header}
use Rattle.va_layout.specs.declared.header.HeadFault.{HeadFault}
use Rattle.va_layout.specs.declared.header.HeadFault.TheVariants as heads
use Rattle.va_layout.specs.declared.region.Region.{Region}
use Rattle.va_layout.specs.Fields.{NamesCell, code_in, head_in, item_in, marks_in, slot_in}
use Rattle.va_layout.specs.Header.{header_of, shape_in}
use Rattle.va_layout.specs.Layout.{layout_len, marks_at, vector_at}
use Rattle.va_layout.specs.Parts.{part}
use Rattle.va_layout.specs.Stands.{Kept, selected_in}
use Rattle.va_store.specs.declared.faults.OpenFault.{OpenFault}
use Rattle.va_store.specs.declared.faults.OpenFault.TheVariants as faults

-- the id of each place that is open
abbrev pub ids_in : ℕ → List ℕ → List (Option ℕ)
ids_in capacity image = map (λ p. slot_in p image) (range_with_len 0 capacity)

-- what an image that isn't refused stands for
abbrev pub kept_in : Shape → List ℕ → Kept
kept_in shape image = record {
  shape = shape;
  places = map (λ p. item_in shape p image) (range_with_len 0 shape.capacity);
  marks = marks_in shape (selected_in image) image;
}

abbrev pub first_or : {A : Type 0} → Option A → Option A → Option A
first_or None other = other
first_or (Some x) other = Some x

-- the answer for the least number below another that has one
abbrev pub first_below : {A : Type 0} → (ℕ → Option A) → ℕ → Option A
first_below answer zero = None
first_below answer (suc n) = first_or (first_below answer n) (answer n)

abbrev pub is_same : Option ℕ → Option ℕ → Bool
is_same (Some a) (Some b) = a == b
is_same (Some a) None = false
is_same None other = false

-- an earlier place, where it has the id of a place
abbrev pub same_at : List (Option ℕ) → ℕ → ℕ → Option ℕ
same_at ids q p = if is_same (get_or ids p None) (get_or ids q None) then Some p else None

abbrev pub same_fault : ℕ → Option ℕ → Option OpenFault
same_fault q None = None
same_fault q (Some p) = Some (faults.SameId p q)

-- whether the id of a place lives in an earlier one
abbrev pub repeat_at : List (Option ℕ) → ℕ → Option OpenFault
repeat_at ids q = same_fault q (first_below (same_at ids q) q)

-- the least place whose id lives in an earlier one, behind that earlier one
abbrev pub repeat_fault : List (Option ℕ) → Option OpenFault
repeat_fault ids = first_below (repeat_at ids) (length ids)

abbrev pub of_head_fault : HeadFault → OpenFault
of_head_fault heads.Blank = faults.Blank
of_head_fault heads.Magic = faults.Header heads.Magic
of_head_fault (heads.Shape fault) = faults.Header (heads.Shape fault)

abbrev pub of_cells_fault : CellsFault → OpenFault
of_cells_fault cells.Disk = faults.Disk
of_cells_fault (cells.Marks dim) = faults.Marks dim
of_cells_fault cells.Memory = faults.Memory

abbrev pub length_behind : Result Header HeadFault → List ℕ → Option OpenFault
length_behind (Err fault) image = Some (of_head_fault fault)
length_behind (Ok header) image =
    if nat_lt (length image) (layout_len header.shape) then Some (faults.Length (layout_len header.shape) (length image)) else None

-- the first fault of an image in its header and its length
abbrev pub head_fault : List ℕ → Option OpenFault
head_fault image = length_behind (header_of (head_in image)) image

-- the first dimension whose marks in the region aren't valid
abbrev pub IsMarksFault : Shape → Region → List ℕ → OpenFault → Type 0
IsMarksFault shape region image why =
    (dim : ℕ) × (why ≡ faults.Marks dim) × IsFirstInvalid shape (part (marks_at shape region) (marks_len shape) image) dim

-- the first place with an id whose code in the region names no cell
pub record IsFirstUnnamed (shape : Shape) (region : Region) (marks : List (List ℕ)) (ids : List (Option ℕ)) (image : List ℕ) (p : ℕ) : Type 0 where
  pub inside : p < shape.capacity
  pub lives : is_some (get_or ids p None) ≡ true
  pub unnamed : NamesCell shape marks (code_in shape region p image) → ⊥
  pub named_before : (q id : ℕ) → q < p → get_or ids q None ≡ Some id → NamesCell shape marks (code_in shape region q image)

abbrev pub IsCodeFault : Shape → Region → List (List ℕ) → List (Option ℕ) → List ℕ → OpenFault → Type 0
IsCodeFault shape region marks ids image why = (p : ℕ) × (why ≡ faults.Code p) × IsFirstUnnamed shape region marks ids image p

-- of the ids, and then of the codes
abbrev pub IsPlaceFault : Shape → Region → List (List ℕ) → List (Option ℕ) → List ℕ → OpenFault → Type 0
IsPlaceFault shape region marks ids image why = (repeat_fault ids ≡ Some why) ⊎ ((repeat_fault ids ≡ None) × IsCodeFault shape region marks ids image why)

-- of the marks in the region, and then of the places
abbrev pub IsRegionFault : Shape → Region → List ℕ → OpenFault → Type 0
IsRegionFault shape region image why =
    IsMarksFault shape region image why
    ⊎ (AreValid (marks_in shape region image) × IsPlaceFault shape region (marks_in shape region image) (ids_in shape.capacity image) image why)

-- The first fault of an image: of its header and its length, and then of its selected region's marks, its ids and its codes.
abbrev pub IsFault : List ℕ → OpenFault → Type 0
IsFault image why = (head_fault image ≡ Some why) ⊎ ((head_fault image ≡ None) × IsRegionFault (shape_in (head_in image)) (selected_in image) image why)

abbrev pub front_behind : Result Header HeadFault → ℕ
front_behind (Err fault) = 32
front_behind (Ok header) = vector_at header.shape 0

-- where the vectors begin, or the end of a header that says no shape
abbrev pub front_of : List ℕ → ℕ
front_of image = front_behind (header_of (head_in image))
