-- What an image stands for.
use Rattle.std.specs.Prelude.{◌≡◌, ℕ, ◌≤◌, ◌<◌, List, length, get_or, slice_set, Option, None, Some, Ok, Err}
use Rattle.va_core.specs.Marks.{AreValid, HasShape}
use Rattle.va_core.specs.Shape.{Shape}
use Rattle.va_layout.specs.declared.header.HeadFault.TheVariants.{Blank}
use Rattle.va_layout.specs.declared.region.Region.{Region}
use Rattle.va_layout.specs.Layout.{layout_len, other_region}
use Rattle.va_core.specs.Places.{Item, live_items, IdsDiffer, HoldItems}
use Rattle.va_layout.specs.Fields.{IsOwnCode, NamesCell, code_in, head_in, item_in, marks_in}
use Rattle.va_layout.specs.Header.{header_of, region_in}

-- the region whose marks and codes count
abbrev pub selected_in : List ℕ → Region
selected_in image = region_in (head_in image)

-- the header can be read, and gives this shape
abbrev pub SaysShape : Shape → List ℕ → Type 0
SaysShape shape image = header_of (head_in image) ≡ Ok (record { shape = shape; region = selected_in image })

-- what is kept of a store: its shape, an item or none for each place, and its marks
pub record Kept : Type 0 where
  pub shape : Shape
  pub places : List (Option Item)
  pub marks : List (List ℕ)

-- the same, but for one place
abbrev pub with_place : ℕ → Option Item → Kept → Kept
with_place p item kept = record kept { places = slice_set kept.places p item }

-- the same places under other marks
abbrev pub with_marks : List (List ℕ) → Kept → Kept
with_marks marks kept = record kept { marks = marks }

-- A region has approximations: valid marks of the shape, and in each place that holds something a packed code that is
-- right for it.
pub record HasApproximations {X : Type 0} (shape : Shape) (region : Region) (marks : List (List ℕ)) (IsRight : X → List ℕ → Type 0) (places : List (Option X)) (image : List ℕ) : Type 0 where
  pub there : marks_in shape region image ≡ marks
  pub fit : HasShape shape marks
  pub valid : AreValid marks
  pub codes : (p : ℕ) (x : X) → p < shape.capacity → get_or places p None ≡ Some x → IsRight x (code_in shape region p image)

-- An image opens as what is kept: its header can be read, it is as long as the layout, each open place has its item,
-- no id stands twice, and the selected region has the marks and codes that name cells.
pub record Opens (kept : Kept) (image : List ℕ) : Type 0 where
  pub head : SaysShape kept.shape image
  pub long : layout_len kept.shape ≤ length image
  pub count : length kept.places ≡ kept.shape.capacity
  pub places : (p : ℕ) → p < kept.shape.capacity → item_in kept.shape p image ≡ get_or kept.places p None
  pub differ : IdsDiffer (live_items kept.places)
  pub named : HasApproximations kept.shape (selected_in image) kept.marks (λ item code. NamesCell kept.shape kept.marks code) kept.places image

-- an image stands for what is kept: it opens as that, each item is one of the shape, and its code is its own
pub record Stands (kept : Kept) (image : List ℕ) : Type 0 where
  pub opens : Opens kept image
  pub items : HoldItems kept.shape.dims kept.places
  pub own : HasApproximations kept.shape (selected_in image) kept.marks (IsOwnCode kept.shape kept.marks) kept.places image

-- the ids up to the last one, where there is a last one
abbrev pub UpTo : Option ℕ → ℕ → Type 0
UpTo None id = ⊥
UpTo (Some last) id = id ≤ last

-- marks that are being built, and the last id that was converted to them, or none
pub record Building : Type 0 where
  pub marks : List (List ℕ)
  pub last : Option ℕ

-- none where nothing is being built, or else the last id that was converted or none
abbrev pub progress_of : Option Building → Option (Option ℕ)
progress_of None = None
progress_of (Some building) = Some building.last

-- Other marks are being built: the region that isn't selected has them, and the own codes of the ids up to the last that
-- was converted.
abbrev pub IsBuilding : Kept → List (List ℕ) → Option ℕ → List ℕ → Type 0
IsBuilding kept marks last image = HasApproximations kept.shape (other_region (selected_in image)) marks (λ item code. UpTo last item.id → IsOwnCode kept.shape marks item code) kept.places image

-- the header says that there is no store
abbrev pub IsBlank : List ℕ → Type 0
IsBlank image = header_of (head_in image) ≡ Err Blank
