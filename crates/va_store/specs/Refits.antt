-- What the calls that build other marks leave of a store and of its disk.
use Rattle.std.specs.Prelude.{◌≡◌, ℕ, ◌≤◌, List, ◌++◌, None, Some, Result, OnOk, OnErr}
use Rattle.va_disk.specs.Crashes.{Each, Leaves}
use Rattle.va_disk.specs.declared.storage.Storage.{Ghosts}
use Rattle.va_layout.specs.declared.region.Region.{Region}
use Rattle.va_layout.specs.Layout.{other_region}
use Rattle.va_layout.specs.Stands.{Kept, Stands, selected_in, with_marks}
use Rattle.va_store.specs.Builds.{marks_of_building, reaching}
use Rattle.va_store.specs.Known.{IsOf, Known}
use Rattle.va_store.specs.Shelved.{started}

-- the store once marks are being built, and no id was converted yet
abbrev pub begun : List (List ℕ) → Known → Known
begun marks known = record known { building = Some (record { marks = marks; last = None }) }

-- the store once an id was converted
abbrev pub converted : ℕ → Known → Known
converted id known = record known { building = reaching id known.building }

-- the store once the marks that were being built are the selected ones
abbrev pub switched : Known → Known
switched known = started (record known { region = other_region known.region; marks = marks_of_building known.building; building = None })

-- what is kept then
abbrev pub refitted : Known → Kept → Kept
refitted known kept = with_marks (marks_of_building known.building) kept

-- what is kept stays
abbrev pub same_kept : Kept → Kept
same_kept kept = kept

-- an image stands for what is kept, and selects this region
abbrev pub StandsIn : Region → Kept → List ℕ → Type 0
StandsIn region kept image = Stands kept image × (selected_in image ≡ region)

-- Where each outcome of the start stands for what is kept of the store and selects its region, so does this one.
abbrev pub StaysIn : {D : Type 0} → Ghosts D → Known → D → List ℕ → Type 0
StaysIn g known old outcome = (kept : Kept) → IsOf known kept → Each (StandsIn known.region kept) (g.may_leave old) → StandsIn known.region kept outcome

-- Nothing is given. At each moment a crash leaves what it might have left at the start, or what has P.
pub record GivesNothing {D : Type 0} (g : Ghosts D) (old new : D) (P : List ℕ → Type 0) : Type 0 where
  pub given : g.given new ≡ g.given old
  pub sink : g.sink_faults new ≡ g.sink_faults old
  pub later : g.faults old ≤ g.faults new
  pub moments : g.honest → Leaves g.clock g.left_since old new (λ c given. P c × (given ≡ g.given old))

-- the reads went on with the first of these
pub record ReadsFirst {D : Type 0} (g : Ghosts D) (reads : List (ℕ × ℕ)) (old new : D) : Type 0 where
  pub made : List (ℕ × ℕ)
  pub left : List (ℕ × ℕ)
  pub split : made ++ left ≡ reads
  pub is : g.told → g.reads new ≡ g.reads old ++ made

-- the reads went on with these where the call succeeded, and else with the first of them
pub record ReadsThese {D T E : Type 0} (g : Ghosts D) (reads : List (ℕ × ℕ)) (old new : D) (result : Result T E) : Type 0 where
  pub ok : OnOk result (g.told → g.reads new ≡ g.reads old ++ reads)
  pub err : OnErr result (ReadsFirst g reads old new)
