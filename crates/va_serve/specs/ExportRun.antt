-- What a run that exports owes, from its opening on.
use Rattle.std.specs.Prelude.{◌≡◌, ◌⊎◌, List, ℕ}
use Rattle.va_disk.specs.Causes.{Rose}
use Rattle.va_disk.specs.Crashes.{Leaves}
use Rattle.va_disk.specs.Frames.{SinceStart}
use Rattle.va_disk.specs.Told.{GivesPrefix}
use Rattle.va_disk.specs.declared.storage.Storage.{Ghosts}
use Rattle.va_layout.specs.Stands.{Kept, Opens}
use Rattle.va_model.specs.Exporting.{ExportLeaves, ReadsAndGives, exported_ids, rows_in}
use Rattle.va_serve.specs.Exporting.{ExportsTo, RowsTo}
use Rattle.va_serve.specs.Failing.{CountsStay, Later, Rises}
use Rattle.va_serve.specs.Session.{OfEachStart}
use Rattle.va_serve.specs.Unfed.{OpenedTo, RefusesFile}
use Rattle.va_serve.specs.declared.status.Status.{Status}
use Rattle.va_serve.specs.declared.status.Status.TheVariants as statuses

module _ {D : Type 0} (g : Ghosts D) where
  -- The count of what failed rose, and the other stayed; where nothing failed both did. No other status comes of a run that exports.
  abbrev pub ExportRunCaused : Status → D → D → Type 0
  ExportRunCaused statuses.Done desk desk' = CountsStay g desk desk'
  ExportRunCaused statuses.WriteFault desk desk' = Rises g statuses.WriteFault desk desk'
  ExportRunCaused statuses.DiskFault desk desk' = Rises g statuses.DiskFault desk desk'
  ExportRunCaused statuses.Memory desk desk' = CountsStay g desk desk'
  ExportRunCaused (statuses.Store why) desk desk' = CountsStay g desk desk'
  ExportRunCaused statuses.Usage desk desk' = ⊥
  ExportRunCaused statuses.ReadFault desk desk' = ⊥
  ExportRunCaused (statuses.Mismatch place dist low high) desk desk' = ⊥
  ExportRunCaused (statuses.Changed place) desk desk' = ⊥
  ExportRunCaused statuses.TooLong desk desk' = ⊥

  -- what was given is the first bytes of the records of what the file opens as
  abbrev pub GivesFirstExported : D → List ℕ → Type 0
  GivesFirstExported desk given = g.told → (kept : Kept) → Opens kept (g.image desk) → GivesPrefix g.told (g.given desk) (rows_in kept (exported_ids kept)) given

  pub record RanExport (desk desk' : D) (status : Status) : Type 0 where
    -- From a file that is blank or stands: what was exported of its state, all of it where the run is done.
    pub exported : OfEachStart g desk (λ start. OpenedTo g status desk desk' (λ mid. ExportsTo g status start mid desk'))
    -- From any file that opens: the records that were given, and the vectors that were read for them.
    pub rows : g.told → (kept : Kept) → Opens kept (g.image desk) → OpenedTo g status desk desk' (λ mid. RowsTo g status kept (exported_ids kept) mid desk')
    -- a crash at any moment leaves what stands for the state
    pub crash : g.honest → OfEachStart g desk (λ start. Leaves g.clock g.left_since desk desk' (ExportLeaves start (g.given desk)))
    -- so each outcome since the start is one that the start might leave, or one of these
    pub plainly : g.honest → OfEachStart g desk (λ start. SinceStart g desk desk' (ExportLeaves start (g.given desk)))
    -- nothing is written, and no outcome of a crash is new, whatever the status
    pub frame : ReadsAndGives g desk desk' (GivesFirstExported desk)
    pub file : RefusesFile g desk desk' status
    -- a fault only where the object that failed counted it, no fault is passed over, and no count falls
    pub cause : ExportRunCaused status desk desk'
    pub later : Later g desk desk'
    -- where nothing fails, the run is done or finds no memory
    pub complete : OfEachStart g desk (λ start. ¬ Rose (g.sink_faults desk) (g.sink_faults desk') → ¬ Rose (g.faults desk) (g.faults desk') → (status ≡ statuses.Done) ⊎ (status ≡ statuses.Memory))
