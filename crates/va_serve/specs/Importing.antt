-- The bytes of a source that are taken before a line is run.
use Rattle.std.specs.Prelude.{◌≡◌, ◌⊎◌, ◌≤◌, ℕ, List, length}
use Rattle.va_disk.specs.Causes.{Rose}
use Rattle.va_disk.specs.Told.{IsAtEnd, Takes}
use Rattle.va_disk.specs.declared.source.Source.{Ghosts as Source}
use Rattle.va_serve.specs.Course.{Took}
use Rattle.va_serve.specs.declared.status.Status.{Status}
use Rattle.va_serve.specs.declared.status.Status.TheVariants as statuses

-- a call of the source failed, or it held more than the limit
abbrev pub IsCutShort : Status → Type 0
IsCutShort status = (status ≡ statuses.ReadFault) ⊎ (status ≡ statuses.TooLong)

module _ {S : Type 0} (s : Source S) where
  -- the source was taken to its end, which is no more than the limit
  pub record TakesAll (limit : ℕ) (bytes : List ℕ) (source source' : S) : Type 0 where
    pub takes : Takes s.told (s.left source) bytes (s.left source')
    pub fits : length bytes ≤ limit
    pub at_end : IsAtEnd s.told (s.left source')
    pub faults : s.faults source' ≡ s.faults source

  -- why it wasn't, and what was taken
  abbrev pub IsWhyCut : Status → S → S → Type 0
  IsWhyCut statuses.ReadFault source source' = Rose (s.faults source) (s.faults source')
  IsWhyCut statuses.TooLong source source' = s.faults source' ≡ s.faults source
  IsWhyCut statuses.Memory source source' = s.faults source' ≡ s.faults source
  IsWhyCut statuses.Done source source' = ⊥
  IsWhyCut statuses.Usage source source' = ⊥
  IsWhyCut statuses.WriteFault source source' = ⊥
  IsWhyCut statuses.DiskFault source source' = ⊥
  IsWhyCut (statuses.Store why) source source' = ⊥
  IsWhyCut (statuses.Mismatch place dist low high) source source' = ⊥
  IsWhyCut (statuses.Changed place) source source' = ⊥

  pub record IsCut (limit : ℕ) (status : Status) (source source' : S) : Type 0 where
    pub bytes : List ℕ
    pub took : Took s.told status limit bytes (s.left source) (s.left source')
    pub why : IsWhyCut status source source'
    pub later : s.faults source ≤ s.faults source'

  -- no line was run: at most some of the input was taken
  pub record Idles {D : Type 0} (limit : ℕ) (source source' : S) (desk desk' : D) : Type 0 where
    pub bytes : List ℕ
    pub took : Took s.told statuses.Memory limit bytes (s.left source) (s.left source')
    pub faults : s.faults source' ≡ s.faults source
    pub idle : desk' ≡ desk
