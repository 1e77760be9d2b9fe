-- The bounds that the stored cells give, and the vectors that keep to them or don't.
use Rattle.std.specs.Prelude.{◌≡◌, ◌⊎◌, ℕ, ◌<◌, ◌≤◌, List, get_or, None, Some}
use Rattle.va_cells.specs.Slices.{slices_of}
use Rattle.va_core.specs.Boxes.{Span, high_of, low_of}
use Rattle.va_core.specs.Cells.{box}
use Rattle.va_core.specs.Distance.{Query, distance}
use Rattle.va_core.specs.Places.{Item}
use Rattle.va_layout.specs.Fields.{code_in}
use Rattle.va_layout.specs.Stands.{Kept, selected_in}

-- the box of the cell that the image has for a place, in the selected region
abbrev pub stored_box : Kept → List ℕ → ℕ → List Span
stored_box kept image place = box kept.marks (slices_of kept.shape kept.marks (code_in kept.shape (selected_in image) place image))

abbrev pub stored_low : Query → Kept → List ℕ → ℕ → ℕ
stored_low query kept image place = low_of (distance query) (stored_box kept image place)

abbrev pub stored_high : Query → Kept → List ℕ → ℕ → ℕ
stored_high query kept image place = high_of (distance query) (stored_box kept image place)

-- the place is live, and the distance of its vector lies between the bounds of its stored cell
pub record LiesBetween (query : Query) (kept : Kept) (image : List ℕ) (place : ℕ) : Type 0 where
  pub item : Item
  pub live : get_or kept.places place None ≡ Some item
  pub above : stored_low query kept image place ≤ distance query item.vector
  pub below : distance query item.vector ≤ stored_high query kept image place

-- the place is live, and these are the distance of its vector and the bounds of its stored cell
pub record AreNumbers (query : Query) (kept : Kept) (image : List ℕ) (place dist low high : ℕ) : Type 0 where
  pub item : Item
  pub live : get_or kept.places place None ≡ Some item
  pub dist_is : dist ≡ distance query item.vector
  pub low_is : low ≡ stored_low query kept image place
  pub high_is : high ≡ stored_high query kept image place

-- the distance lies outside the bounds
abbrev pub IsOutside : ℕ → ℕ → ℕ → Type 0
IsOutside dist low high = (dist < low) ⊎ (high < dist)
