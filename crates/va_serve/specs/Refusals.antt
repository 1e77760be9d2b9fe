-- Why a line is refused where a call of the store is, and why its query isn't asked. A store that is broken, or whose disk
-- failed, ends the run, so that no line is refused for it.
use Rattle.std.specs.Prelude.{◌≡◌, ◌⊎◌, if◌then◌else◌, Option, None, Some}
use Rattle.va_core.specs.Distance as distances
use Rattle.va_lang.specs.Command.{Query}
use Rattle.va_lang.specs.declared.reply.Why.{Why}
use Rattle.va_lang.specs.declared.reply.Why.TheVariants.{Length, Duplicate, Full, Memory, Unknown}
use Rattle.va_model.specs.Searching.{query_fits, weights_of}
use Rattle.va_store.specs.Known.{Known}
use Rattle.va_store.specs.declared.faults.InsertFault.{InsertFault}
use Rattle.va_store.specs.declared.faults.InsertFault.TheVariants as inserting
use Rattle.va_store.specs.declared.faults.DeleteFault.{DeleteFault}
use Rattle.va_store.specs.declared.faults.DeleteFault.TheVariants as deleting

abbrev pub why_of_insert : InsertFault → Option Why
why_of_insert inserting.Broken = None
why_of_insert inserting.Length = Some Length
why_of_insert (inserting.Duplicate place) = Some Duplicate
why_of_insert inserting.Full = Some Full
why_of_insert inserting.Disk = None

abbrev pub why_of_delete : DeleteFault → Option Why
why_of_delete deleting.Broken = None
why_of_delete deleting.Unknown = Some Unknown
why_of_delete deleting.Disk = None

-- why a query isn't asked of a store: it doesn't fit, or its command has this further reason
abbrev pub unasked_for : Known → Query → Option Why → Option Why
unasked_for held query further = if query_fits held.shape.dims query then further else Some Length

-- There is no such reason, and this is what is asked.
pub record IsAskedAs (held : Known) (query : Query) (further : Option Why) (asked : distances.Query) : Type 0 where
  pub free : unasked_for held query further ≡ None
  pub same : asked ≡ record { objects = query.objects; weights = weights_of held.shape.dims query.weights }

-- There is this reason, or none, and memory was wanting.
abbrev pub IsUnasked : Option Why → Why → Type 0
IsUnasked reason why = (reason ≡ Some why) ⊎ ((reason ≡ None) × (why ≡ Memory))
