-- What a search over a store and its disk owes.
use Rattle.std.specs.Prelude.{◌≡◌, ℕ, List, [], ◌∷◌, ◌++◌, None, Some, Result, OnOk, IfOk, IfErr}
use Rattle.std.specs.List.{AllByRecursion}
use Rattle.va_core.specs.Distance.{Query}
use Rattle.va_core.specs.Places.{Item}
use Rattle.va_disk.specs.Frames.{DiskFailsAs, OnlyReads}
use Rattle.va_disk.specs.declared.storage.Storage.{Ghosts}
use Rattle.va_layout.specs.Stands.{Kept, Opens, Stands}
use Rattle.va_search.specs.Cells.{AreNumbers, IsOutside, LiesBetween}
use Rattle.va_search.specs.Sought.{Sought, places_of}
use Rattle.va_search.specs.declared.fault.StoreSearchFault.{StoreSearchFault}
use Rattle.va_search.specs.declared.fault.StoreSearchFault.TheVariants as faults
use Rattle.va_store.specs.Known.{Fits, IsOf, Known}
use Rattle.va_store.specs.Shelved.{IsSameStore, KeepsChanged}
use Rattle.va_store.specs.ShelfReads.{ReadsVectors}

-- when memory may be wanting: before any vector is read, or at any time
pub data Lack : Type 0 where
  before_reads : Lack
  at_any_time : Lack

module _ {D : Type 0} (g : Ghosts D) where
  -- this holds of what is kept, where the disk tells and stands for it
  abbrev pub WhereStands : Known → D → (Kept → Type 0) → Type 0
  WhereStands known disk P = g.told → (kept : Kept) → IsOf known kept → Stands kept (g.image disk) → P kept

  -- and where it opens as that at least
  abbrev pub WhereOpens : Known → D → (Kept → Type 0) → Type 0
  WhereOpens known disk P = g.told → (kept : Kept) → IsOf known kept → Opens kept (g.image disk) → P kept

  -- the vectors of these items were read, each once and in this order
  abbrev pub ReadsItems : Kept → D → List Item → D → Type 0
  ReadsItems kept old items new = ReadsVectors g kept.shape old (places_of kept items) new

  -- the first of them were read, maybe none or all of them
  pub record ReadsFirst (kept : Kept) (old : D) (items : List Item) (new : D) : Type 0 where
    pub first : List Item
    pub rest : List Item
    pub are : first ++ rest ≡ items
    pub reads : ReadsItems kept old first new

  -- each vector that was read lies between the bounds of its stored cell
  pub record ReadsBetween (query : Query) (kept : Kept) (old new : D) : Type 0 where
    pub places : List ℕ
    pub reads : ReadsVectors g kept.shape old places new
    pub between : AllByRecursion (LiesBetween query kept (g.image old)) places

  -- The distance of the vector that was read last lies outside the bounds of its stored cell, and those of the vectors before
  -- it don't.
  pub record ReadsOutside (query : Query) (kept : Kept) (old new : D) (place dist low high : ℕ) : Type 0 where
    pub before : List ℕ
    pub reads : ReadsVectors g kept.shape old (before ++ place ∷ []) new
    pub between : AllByRecursion (LiesBetween query kept (g.image old)) before
    pub numbers : AreNumbers query kept (g.image old) place dist low high

  -- Some vectors were read, maybe none: the first of what is sought, and each lies between the bounds of its stored cell.
  abbrev pub ReadsSome : {A : Type 0} → Query → (Kept → Sought A) → Known → D → D → Type 0
  ReadsSome query sought known old new =
      WhereStands known old (λ kept. ReadsFirst kept old (sought kept).reads new) × WhereOpens known old (λ kept. ReadsBetween query kept old new)

  -- what was read where memory was wanting
  abbrev pub LacksMemory : {A : Type 0} → Lack → Query → (Kept → Sought A) → Known → D → D → Type 0
  LacksMemory before_reads query sought known old new = ReadsVectors g known.shape old [] new
  LacksMemory at_any_time query sought known old new = ReadsSome query sought known old new

  -- Why a search failed, and what was read until then. A distance outside its bounds is never met where the disk stands for
  -- what is kept, and a changed code never where it tells its bytes.
  abbrev pub FailsSearch : {A : Type 0} → Lack → Query → (Kept → Sought A) → Known → Known → D → D → StoreSearchFault → Type 0
  FailsSearch lack query sought known known' old new faults.Memory = LacksMemory lack query sought known old new × (known'.changed ≡ None)
  FailsSearch lack query sought known known' old new faults.Disk = ReadsSome query sought known old new
  FailsSearch lack query sought known known' old new (faults.Mismatch place dist low high) =
      IsOutside dist low high × WhereStands known old (λ kept. ⊥) × WhereOpens known old (λ kept. ReadsOutside query kept old new place dist low high)
  FailsSearch lack query sought known known' old new (faults.Changed place) = (g.told → ⊥) × (known'.changed ≡ Some place)

  -- A search that is carried out finds what is sought and reads just its vectors, where the disk stands for what is kept.
  pub record Searched {A : Type 0} (lack : Lack) (query : Query) (sought : Kept → Sought A) (known known' : Known) (old new : D) (result : Result A StoreSearchFault) : Type 0 where
    pub found : IfOk result (λ found. WhereStands known old (λ kept. (sought kept).finds found))
    pub reads : OnOk result (WhereStands known old (λ kept. ReadsItems kept old (sought kept).reads new))
    pub between : OnOk result (WhereOpens known old (λ kept. ReadsBetween query kept old new))
    pub unchanged : OnOk result (known'.changed ≡ None)
    pub failed : IfErr result (FailsSearch lack query sought known known' old new)
    -- the place that was found changed is a live one, the first that was met, and none is on a disk that tells its bytes
    pub keeps : KeepsChanged known known'
    pub none_told : g.told → known'.changed ≡ None
    pub same : IsSameStore known known'
    pub fits : Fits g known' new
    pub frame : OnlyReads g old new
    pub cause : DiskFailsAs g faults.Disk old new result
