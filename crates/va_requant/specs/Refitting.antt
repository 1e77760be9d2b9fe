-- What a refitting reads, answers and leaves.
use Rattle.std.specs.Prelude.{◌⊎◌, ℕ, ◌-◌, nat_lt, List, [], ◌∷◌, length, get_or, map, Option, None, Some, if◌then◌else◌}
use Rattle.va_core.specs.Places.{Item, vector_of}
use Rattle.va_disk.specs.Crashes.{Each}
use Rattle.va_disk.specs.declared.storage.Storage.{Ghosts}
use Rattle.va_layout.specs.Layout.{other_region, marks_at, region_len, vector_at}
use Rattle.va_layout.specs.Stands.{Kept, Stands}
use Rattle.va_requant.specs.declared.progress.Progress.{Progress}
use Rattle.va_requant.specs.declared.progress.Progress.TheVariants.{More, Switched}
use Rattle.va_core.specs.Above.{live_above}
use Rattle.va_store.specs.Builds.{last_of}
use Rattle.va_store.specs.Known.{IsOf, Known, place_of_id}
use Rattle.va_store.specs.Refits.{StandsIn, converted, refitted, switched}

-- the vectors that are kept under some ids
abbrev pub vectors_of : Known → Kept → List ℕ → List (List ℕ)
vectors_of known kept ids = map (λ id. vector_of (get_or kept.places (place_of_id id known.ids) None)) ids

-- the live ids in ascending order, and those above the last that was converted
abbrev pub all_live : Known → List ℕ
all_live known = live_above None known.ids

abbrev pub waiting : Known → List ℕ
waiting known = live_above (last_of known.building) known.ids

-- how far a conversion of n ids comes where so many are waiting
abbrev pub progress : ℕ → ℕ → Progress
progress n count = if nat_lt n count then More n (count - n) else Switched count

-- the store then: it has converted n ids more, or the marks that were being built are the selected ones
abbrev pub advanced : ℕ → Known → Known
advanced n known = if nat_lt n (length (waiting known)) then converted (get_or (waiting known) (n - 1) 0) known else switched known

-- and what is kept then
abbrev pub kept_after : ℕ → Known → Kept → Kept
kept_after n known kept = if nat_lt n (length (waiting known)) then kept else refitted known kept

-- Where each outcome of the start stands for what is kept of the store and selects its region, this one stands for that, or
-- for it with the change.
abbrev pub SameOrChanged : {D : Type 0} → Ghosts D → Known → (Kept → Kept) → D → List ℕ → Type 0
SameOrChanged g known change old outcome =
    g.told → (kept : Kept) → IsOf known kept → Each (StandsIn known.region kept) (g.may_leave old) → Stands kept outcome ⊎ Stands (change kept) outcome

-- the region that isn't selected
abbrev pub other_range : Known → List (ℕ × ℕ)
other_range known = (marks_at known.shape (other_region known.region), region_len known.shape) ∷ []
