-- How a run ends that takes no input: in its opening, or behind it.
use Rattle.std.specs.Prelude.{◌≡◌, ◌≢◌, ◌⊎◌}
use Rattle.va_disk.specs.Frames.{OnlyReads}
use Rattle.va_disk.specs.declared.storage.Storage.{Ghosts}
use Rattle.va_serve.specs.Failing.{IsOfFile}
use Rattle.va_serve.specs.Whole.{OpenedStore, IsRefusalOf}
use Rattle.va_serve.specs.declared.status.Status.{Status}
use Rattle.va_serve.specs.declared.status.Status.TheVariants as statuses
use Rattle.va_store.specs.Image.{IsFault, front_of}
use Rattle.va_store.specs.Openings.{ReadsUpTo}
use Rattle.va_store.specs.declared.faults.OpenFault.{OpenFault}
use Rattle.va_store.specs.declared.faults.OpenFault.TheVariants as faults

module _ {D : Type 0} (g : Ghosts D) where
  -- the opening ended the run: the desk was at most read, and no vector of it
  pub record OnlyOpens (desk desk' : D) : Type 0 where
    pub frame : OnlyReads g desk desk'
    pub front : ReadsUpTo (front_of (g.image desk)) (g.reads desk) (g.reads desk')

  -- This holds of what was done behind the opening, by the status. Where the disk failed or memory was wanting, it may have been in
  -- the opening.
  abbrev pub OpenedTo : Status → D → D → (D → Type 0) → Type 0
  OpenedTo statuses.Done desk desk' Ran = OpenedStore g desk Ran
  OpenedTo statuses.WriteFault desk desk' Ran = OpenedStore g desk Ran
  OpenedTo statuses.DiskFault desk desk' Ran = OpenedStore g desk Ran ⊎ OnlyOpens desk desk'
  OpenedTo statuses.Memory desk desk' Ran = OpenedStore g desk Ran ⊎ OnlyOpens desk desk'
  OpenedTo statuses.Usage desk desk' Ran = ⊥
  OpenedTo statuses.ReadFault desk desk' Ran = ⊥
  OpenedTo (statuses.Store why) desk desk' Ran = ⊥
  OpenedTo (statuses.Mismatch place dist low high) desk desk' Ran = ⊥
  OpenedTo (statuses.Changed place) desk desk' Ran = ⊥
  OpenedTo statuses.TooLong desk desk' Ran = ⊥

  -- a file that is no store is refused for its first fault, which nothing else is, and left alone
  pub record RefusesFile (desk desk' : D) (status : Status) : Type 0 where
    pub store : g.told → (fault : OpenFault) → status ≡ statuses.Store fault → IsFault (g.image desk) fault
    pub kinds : (fault : OpenFault) → status ≡ statuses.Store fault → IsOfFile (g.size desk) fault
    pub refused : (fault : OpenFault) → status ≡ statuses.Store fault → OnlyReads g desk desk'
    pub faulty : g.told → (fault : OpenFault) → IsFault (g.image desk) fault → fault ≢ faults.Blank → IsRefusalOf fault status × OnlyOpens desk desk'
