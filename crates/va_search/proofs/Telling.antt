-- What every call over a shelf leaves of the store and the disk, and what is told of its answer.
use Rattle.std.proofs.Common.{◌≡◌, ℕ, Option, None, Some, Result, Ok, Err, refl}
use Rattle.va_disk.specs.Frames.{DiskFailsAs, OnlyReads}
use Rattle.va_disk.specs.declared.storage.Storage.{Ghosts}
use Rattle.va_ports.specs.Faults.{CountsShelfFaults}
use Rattle.va_ports.specs.declared.search.SearchFault.{SearchFault}
use Rattle.va_ports.specs.declared.search.SearchFault.TheVariants as searches
use Rattle.va_search.specs.Told.{told_as}
use Rattle.va_search.specs.declared.fault.StoreSearchFault.{StoreSearchFault}
use Rattle.va_search.specs.declared.fault.StoreSearchFault.TheVariants as faults
use Rattle.va_store.specs.Known.{Fits, Known}
use Rattle.va_store.specs.Shelved.{IsSameStore, KeepsChanged}

-- what a call leaves, whatever it answers
pub record Leaves {D : Type 0} (g : Ghosts D) (known known' : Known) (old new : D) : Type 0 where
  pub keeps : KeepsChanged known known'
  pub none_told : g.told → known'.changed ≡ None
  pub same : IsSameStore known known'
  pub fits : Fits g known' new
  pub frame : OnlyReads g old new

none_is_not : (place : ℕ) → {now : Option ℕ} → now ≡ None → now ≡ Some place → ⊥
none_is_not place e f = cc

module _ {D : Type 0} {g : Ghosts D} {old new : D} where
  -- a place that was found changed is told of a disk that doesn't tell its bytes
  pub changed_at : {known known' : Known} {place : ℕ} → Leaves g known known' old new → known'.changed ≡ Some place → (g.told → ⊥) × (known'.changed ≡ Some place)
  changed_at {place = place} left is = (λ told. none_is_not place (left.none_told told) is, is)

  -- the answer isn't that the disk failed, and its count of faults stayed
  stays : {A : Type 0} {answer : Result A StoreSearchFault} → (answer ≡ Err faults.Disk → ⊥) → g.faults new ≡ g.faults old → DiskFailsAs g faults.Disk old new answer
  stays other same = record { rose = λ fault. absurd (other fault); stayed = λ _. same }

  -- the disk has failed where the shelf has
  pub told_cause : {A : Type 0} (changed : Option ℕ) (answer : Result A SearchFault) → CountsShelfFaults (g.faults old) (g.faults new) answer → DiskFailsAs g faults.Disk old new (told_as changed answer)
  told_cause None (Ok found) counts = stays (λ fault. cc) counts.stayed
  told_cause (Some place) (Ok found) counts = stays (λ fault. cc) counts.stayed
  told_cause None (Err searches.Memory) counts = stays (λ fault. cc) counts.rose
  told_cause (Some place) (Err searches.Memory) counts = stays (λ fault. cc) counts.rose
  told_cause changed (Err (searches.Shelf fault)) counts = record { rose = λ _. counts.rose; stayed = λ other. absurd (other refl) }
  told_cause changed (Err (searches.Mismatch place dist low high)) counts = stays (λ fault. cc) counts.rose
