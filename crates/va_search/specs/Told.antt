-- What is told of a call over the shelf of a store, once the shelf has ended.
use Rattle.std.specs.Prelude.{ℕ, Option, None, Some, Result, Ok, Err}
use Rattle.va_ports.specs.declared.search.SearchFault.{SearchFault}
use Rattle.va_ports.specs.declared.search.SearchFault.TheVariants as searches
use Rattle.va_search.specs.declared.fault.StoreSearchFault.{StoreSearchFault}
use Rattle.va_search.specs.declared.fault.StoreSearchFault.TheVariants as faults

-- the fault over a store, where one over its shelf was this, and a place was found changed or not
abbrev pub told_fault : Option ℕ → SearchFault → StoreSearchFault
told_fault changed (searches.Shelf fault) = faults.Disk
told_fault changed (searches.Mismatch place dist low high) = faults.Mismatch place dist low high
told_fault None searches.Memory = faults.Memory
told_fault (Some place) searches.Memory = faults.Changed place

-- What a call over a store answers where one over its shelf answered this, and a place was found changed or not.
abbrev pub told_as : {A : Type 0} → Option ℕ → Result A SearchFault → Result A StoreSearchFault
told_as changed (Err why) = Err (told_fault changed why)
told_as None (Ok found) = Ok found
told_as (Some place) (Ok found) = Err (faults.Changed place)
