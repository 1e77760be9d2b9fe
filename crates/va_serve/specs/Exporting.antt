-- What an export over an open store owes.
use Rattle.std.specs.Prelude.{◌≡◌, ℕ, List, [], ◌∷◌, Option}
use Rattle.va_disk.specs.Crashes.{Leaves}
use Rattle.va_disk.specs.Told.{GivesPrefix, IsProperPrefix}
use Rattle.va_disk.specs.declared.storage.Storage.{Ghosts}
use Rattle.va_layout.specs.Stands.{Kept, Opens}
use Rattle.va_model.specs.Exporting.{ExportLeaves, ExportsAll, ExportsFirst, GivesRows, StopsInRow, row_in, rows_in}
use Rattle.va_model.specs.State.{State}
use Rattle.va_serve.specs.Failing.{CountsStay, Rises}
use Rattle.va_serve.specs.Session.{InEach, IsKeptOf, Securely, Sitting}
use Rattle.va_serve.specs.declared.status.Status.{Status}
use Rattle.va_serve.specs.declared.status.Status.TheVariants as statuses
use Rattle.va_store.specs.Known.{Known}

module _ {D : Type 0} (g : Ghosts D) where
  -- Why not all records of some ids were given, by the status: giving failed in one of them, of which a proper prefix was given; or
  -- the disk failed in the read of a vector, or memory was wanting for its record, and nothing was given of that.
  abbrev pub StopsBy : Status → Kept → List ℕ → D → D → Type 0
  StopsBy statuses.WriteFault kept ids old new = StopsInRow g (λ part id. IsProperPrefix part (row_in kept id)) (λ id. id ∷ []) kept ids old new
  StopsBy statuses.DiskFault kept ids old new = StopsInRow g (λ part id. part ≡ []) (λ id. []) kept ids old new
  StopsBy statuses.Memory kept ids old new = StopsInRow g (λ part id. part ≡ []) (λ id. id ∷ []) kept ids old new
  StopsBy statuses.Done kept ids old new = ⊥
  StopsBy statuses.Usage kept ids old new = ⊥
  StopsBy statuses.ReadFault kept ids old new = ⊥
  StopsBy (statuses.Store why) kept ids old new = ⊥
  StopsBy (statuses.Mismatch place dist low high) kept ids old new = ⊥
  StopsBy (statuses.Changed place) kept ids old new = ⊥
  StopsBy statuses.TooLong kept ids old new = ⊥

  -- the records of some ids were given, or not all of them
  abbrev pub RowsTo : Status → Kept → List ℕ → D → D → Type 0
  RowsTo statuses.Done kept ids old new = GivesRows g kept ids old new
  RowsTo statuses.WriteFault kept ids old new = StopsBy statuses.WriteFault kept ids old new
  RowsTo statuses.DiskFault kept ids old new = StopsBy statuses.DiskFault kept ids old new
  RowsTo statuses.Memory kept ids old new = StopsBy statuses.Memory kept ids old new
  RowsTo statuses.Usage kept ids old new = ⊥
  RowsTo statuses.ReadFault kept ids old new = ⊥
  RowsTo (statuses.Store why) kept ids old new = ⊥
  RowsTo (statuses.Mismatch place dist low high) kept ids old new = ⊥
  RowsTo (statuses.Changed place) kept ids old new = ⊥
  RowsTo statuses.TooLong kept ids old new = ⊥

  -- this holds of each kept part of the store as which the image opens
  abbrev pub OfEachKept : Option Known → D → (Kept → Type 0) → Type 0
  OfEachKept store old P = g.told → (kept : Kept) → IsKeptOf store kept → Opens kept (g.image old) → P kept

  -- What was given since the start is the first bytes of the records of these ids.
  abbrev pub GivesFirstRows : Option Known → (Kept → List ℕ) → D → List ℕ → Type 0
  GivesFirstRows store ids old given = OfEachKept store old (λ kept. GivesPrefix g.told (g.given old) (rows_in kept (ids kept)) given)

  -- What was exported of a state, by the status. No other status comes of an export over an open store.
  abbrev pub ExportsTo : Status → State → D → D → Type 0
  ExportsTo statuses.Done start old new = ExportsAll g start old new
  ExportsTo statuses.WriteFault start old new = ExportsFirst g start old new
  ExportsTo statuses.DiskFault start old new = ExportsFirst g start old new
  ExportsTo statuses.Memory start old new = ExportsFirst g start old new
  ExportsTo statuses.Usage start old new = ⊥
  ExportsTo statuses.ReadFault start old new = ⊥
  ExportsTo (statuses.Store why) start old new = ⊥
  ExportsTo (statuses.Mismatch place dist low high) start old new = ⊥
  ExportsTo (statuses.Changed place) start old new = ⊥
  ExportsTo statuses.TooLong start old new = ⊥

  -- In each state that is held: what was exported of it,
  pub record Exports (status : Status) (sitting : Sitting) (old new : D) : Type 0 where
    pub from : InEach g sitting old (λ start. ExportsTo status start old new)

  -- and what a crash leaves of it, with what was given until then.
  pub record ExportLasts (sitting : Sitting) (old new : D) : Type 0 where
    pub from : Securely g sitting old (λ start. Leaves g.clock g.left_since old new (ExportLeaves start (g.given old)))

  -- The count of what failed rose, and the other stayed; where nothing failed, or memory was wanting, both did. No other status comes
  -- of an export over an open store.
  abbrev pub ExportCaused : Status → D → D → Type 0
  ExportCaused statuses.Done old new = CountsStay g old new
  ExportCaused statuses.WriteFault old new = Rises g statuses.WriteFault old new
  ExportCaused statuses.DiskFault old new = Rises g statuses.DiskFault old new
  ExportCaused statuses.Memory old new = CountsStay g old new
  ExportCaused statuses.Usage old new = ⊥
  ExportCaused statuses.ReadFault old new = ⊥
  ExportCaused (statuses.Store why) old new = ⊥
  ExportCaused (statuses.Mismatch place dist low high) old new = ⊥
  ExportCaused (statuses.Changed place) old new = ⊥
  ExportCaused statuses.TooLong old new = ⊥
