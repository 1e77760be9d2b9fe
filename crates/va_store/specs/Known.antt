-- What a store knows of its file.
use Rattle.std.specs.Prelude.{◌≡◌, ◌⊎◌, ℕ, zero, suc, ◌+◌, ◌<◌, ◌≤◌, ◌==◌, ◌||◌, List, [], ◌∷◌, length, map, get_or, replicate, slice_set, Option, None, Some, Bool, true, false, if◌then◌else◌}
use Rattle.va_cells.specs.Scans.{Scan, from_start}
use Rattle.va_core.specs.Marks.{AreValid, HasShape, marks_of}
use Rattle.va_core.specs.Shape.{Shape}
use Rattle.va_core.specs.Places.{Item, id_of}
use Rattle.va_disk.specs.Crashes.{Each}
use Rattle.va_disk.specs.declared.storage.Storage.{Ghosts}
use Rattle.va_layout.specs.declared.region.Region.{Region}
use Rattle.va_layout.specs.declared.region.Region.TheVariants.{A}
use Rattle.va_layout.specs.Fields.{IsSamePlace, NamesCell, code_in, slot_in}
use Rattle.va_layout.specs.Layout.{layout_len, other_region}
use Rattle.va_layout.specs.Stands.{HasApproximations, Kept, Opens, SaysShape, Stands, selected_in, with_place, Building}
use Rattle.va_store.specs.Ids.{LiveOnce}
use Rattle.va_store.specs.Builds.{IsBuilt, IsFor}

-- The shape, the id of each place that is live, and whether a writing call has failed; the selected region with its marks,
-- and where the scan of its codes stands; the first live place where a scan met a code that names no cell; and what is being
-- built in the other region.
pub record Known : Type 0 where
  pub shape : Shape
  pub ids : List (Option ℕ)
  pub broken : Bool
  pub region : Region
  pub marks : List (List ℕ)
  pub scan : Scan
  pub changed : Option ℕ
  pub building : Option Building

-- the scan goes over this region
pub record IsOver (shape : Shape) (region : Region) (scan : Scan) : Type 0 where
  pub same_shape : scan.shape ≡ shape
  pub same_region : scan.region ≡ region

-- what holds of every store: an id or none for each place, valid marks of the shape, a scan of each region, and valid marks
-- of the shape in what is being built
pub record IsKnown (known : Known) (other : Scan) : Type 0 where
  pub all : length known.ids ≡ known.shape.capacity
  pub fit : HasShape known.shape known.marks
  pub valid : AreValid known.marks
  pub over : IsOver known.shape known.region known.scan
  pub beside : IsOver known.shape (other_region known.region) other
  pub built : (building : Building) → known.building ≡ Some building → IsFor known.shape building

-- all places are empty, and the marks are those over no vectors
abbrev pub empty : Shape → Known
empty shape = record {
  shape = shape;
  ids = replicate shape.capacity None;
  broken = false;
  region = A;
  marks = marks_of shape [];
  scan = from_start shape A;
  changed = None;
  building = None;
}

-- the store is one of this kept part
pub record IsOf (known : Known) (kept : Kept) : Type 0 where
  pub shape : known.shape ≡ kept.shape
  pub ids : known.ids ≡ map id_of kept.places
  pub marks : known.marks ≡ kept.marks

-- each place that is live has a code in the region that names a cell
abbrev pub AreNamed : Shape → Region → List (List ℕ) → List (Option ℕ) → List ℕ → Type 0
AreNamed shape region marks ids image = (p id : ℕ) → p < shape.capacity → get_or ids p None ≡ Some id → NamesCell shape marks (code_in shape region p image)

-- What a store knows is in the image: the shape, the open slots with their ids, of which none stands twice, and the selected
-- region with its marks. And each code of an open place names a cell there, and what is being built stands in the other region.
pub record IsKnownIn (known : Known) (image : List ℕ) : Type 0 where
  pub head : SaysShape known.shape image
  pub count : length known.ids ≡ known.shape.capacity
  pub once : LiveOnce known.ids
  pub slots : (p : ℕ) → p < known.shape.capacity → slot_in p image ≡ get_or known.ids p None
  pub selected : selected_in image ≡ known.region
  pub named : HasApproximations known.shape known.region known.marks (λ id code. NamesCell known.shape known.marks code) known.ids image
  pub built : (building : Building) → known.building ≡ Some building → IsBuilt known.shape (other_region known.region) building image

-- A disk fits a store: it is at least as long as the layout, and, where its bytes are told and the store isn't broken,
-- what the store knows is in them.
pub record FitsDisk (told : Type 0) (known : Known) (size : ℕ) (image : List ℕ) : Type 0 where
  pub long : layout_len known.shape ≤ size
  pub known_in : told → known.broken ≡ false → IsKnownIn known image

-- the store with an id or none in a place
abbrev pub known_with : ℕ → Option ℕ → Known → Known
known_with p id known = record known { ids = slice_set known.ids p id }

abbrev pub broken : Known → Known
broken known = record known { broken = true }

-- the same of a disk
abbrev pub Fits : {D : Type 0} → Ghosts D → Known → D → Type 0
Fits g known disk = FitsDisk g.told known (g.size disk) (g.image disk)

-- what is kept of the store has this item in the place
abbrev pub Keeps : {D : Type 0} → Ghosts D → Known → D → ℕ → Item → Type 0
Keeps g known disk p item = g.told → (kept : Kept) → IsOf known kept → Opens kept (g.image disk) → get_or kept.places p None ≡ Some item

-- the image stands for what was kept with this change
abbrev pub Becomes : {D : Type 0} → Ghosts D → Known → (Kept → Kept) → D → D → Type 0
Becomes g known change old new = g.told → (kept : Kept) → IsOf known kept → Stands kept (g.image old) → Stands (change kept) (g.image new)

-- Where each outcome of the start stands for what is kept of the store, this one stands for that, or for it with the change.
abbrev pub BeforeOrAfter : {D : Type 0} → Ghosts D → Known → (Kept → Kept) → D → List ℕ → Type 0
BeforeOrAfter g known change old outcome =
    g.told → (kept : Kept) → IsOf known kept → Each (Stands kept) (g.may_leave old) → Stands kept outcome ⊎ Stands (change kept) outcome

-- The least place that is neither live nor held, or the number of places. A place is held where its number is above 0.
abbrev pub first_free : List (Option ℕ) → List ℕ → ℕ
first_free [] held = 0
first_free (None ∷ ids) [] = 0
first_free (None ∷ ids) (zero ∷ held) = 0
first_free (None ∷ ids) (suc number ∷ held) = first_free ids held + 1
first_free (Some id ∷ ids) [] = first_free ids [] + 1
first_free (Some id ∷ ids) (number ∷ held) = first_free ids held + 1

abbrev pub is_live_id : ℕ → List (Option ℕ) → Bool
is_live_id id [] = false
is_live_id id (None ∷ ids) = is_live_id id ids
is_live_id id (Some x ∷ ids) = x == id || is_live_id id ids

-- the place of an id that is live
abbrev pub place_of_id : ℕ → List (Option ℕ) → ℕ
place_of_id id [] = 0
place_of_id id (None ∷ ids) = place_of_id id ids + 1
place_of_id id (Some x ∷ ids) = if x == id then 0 else place_of_id id ids + 1

-- what is kept once a vector was inserted, or an id deleted
abbrev pub inserted : Known → ℕ → List ℕ → List ℕ → Kept → Kept
inserted known id vector held kept = with_place (first_free known.ids held) (Some (record { id = id; vector = vector })) kept

abbrev pub deleted : Known → ℕ → Kept → Kept
deleted known id kept = with_place (place_of_id id known.ids) None kept

-- each place that is held stays as it is
abbrev pub HeldStay : Shape → List ℕ → List ℕ → List ℕ → Type 0
HeldStay shape held old new = (p : ℕ) → p < shape.capacity → (get_or held p 0 ≡ 0 → ⊥) → IsSamePlace shape p old new
