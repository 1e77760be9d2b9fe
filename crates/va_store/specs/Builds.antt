-- Marks that are built in the region that isn't selected.
use Rattle.std.specs.Prelude.{◌≡◌, ℕ, List, [], Option, None, Some}
use Rattle.va_core.specs.Marks.{AreValid, HasShape}
use Rattle.va_core.specs.Shape.{Shape}
use Rattle.va_layout.specs.declared.region.Region.{Region}
use Rattle.va_layout.specs.Fields.{IsOwnCode, NamesCell, code_in}
use Rattle.va_layout.specs.Layout.{other_region}
use Rattle.va_layout.specs.Stands.{Building, HasApproximations, UpTo}
use Rattle.va_store.specs.Image.{kept_in}

-- its marks are valid and have the shape
pub record IsFor (shape : Shape) (building : Building) : Type 0 where
  pub fit : HasShape shape building.marks
  pub valid : AreValid building.marks

-- What is being built stands in a region: its marks, and for each item of an open place whose id is at most the last that was
-- converted its own code under them, which names a cell.
abbrev pub IsBuilt : Shape → Region → Building → List ℕ → Type 0
IsBuilt shape region building image =
    HasApproximations shape region building.marks (λ item code. UpTo building.last item.id → IsOwnCode shape building.marks item code × NamesCell shape building.marks code) (kept_in shape image).places image

-- the code of a place in the region that isn't selected stays
abbrev pub KeepsOther : Shape → Region → ℕ → List ℕ → List ℕ → Type 0
KeepsOther shape region p old new = code_in shape (other_region region) p new ≡ code_in shape (other_region region) p old

-- the last id that was converted, or none; and none where nothing is being built
abbrev pub last_of : Option Building → Option ℕ
last_of None = None
last_of (Some building) = building.last

abbrev pub marks_of_building : Option Building → List (List ℕ)
marks_of_building None = []
marks_of_building (Some building) = building.marks

-- the same, where this id is the last that was converted
abbrev pub reaching : ℕ → Option Building → Option Building
reaching id None = None
reaching id (Some building) = Some (record { marks = building.marks; last = Some id })
