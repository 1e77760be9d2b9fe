-- Why the vectors that are read for a search lie between the bounds of their stored cells.
use Rattle.std.proofs.Common.{◌≡◌, ℕ, List, [], false, get_or, Option, None, Some, Result, Ok, Err, refl, sym, ◌∙◌, subst, append-nil}
use Rattle.va_core.specs.Distance.{Query}
use Rattle.va_cursor.specs.Cursors.{Cursor}
use Rattle.va_core.specs.Shape.{Shape}
use Rattle.va_disk.specs.declared.storage.Storage.{Ghosts}
use Rattle.va_lang.specs.Command.{Command}
use Rattle.va_layout.specs.Stands.{Kept}
use Rattle.va_model.specs.State.{holding, only_kept}
use Rattle.va_model.specs.Step.{query_asked, reads_of}
use Rattle.va_model.specs.VectorReads.{FrontOf}
use Rattle.va_model.proofs.Reading.{adds_nothing, no_reads}
use Rattle.va_search.specs.Searched.{FailsSearch, Lack, ReadsBetween, Searched, WhereOpens, at_any_time, before_reads}
use Rattle.va_search.specs.Sought.{Sought}
use Rattle.va_search.specs.declared.fault.StoreSearchFault.{StoreSearchFault}
use Rattle.va_search.specs.declared.fault.StoreSearchFault.TheVariants as searching
use Rattle.va_serve.specs.Answers.{fault_answer, fault_status}
use Rattle.va_serve.specs.Bounds.{building_on, AreWithinBounds, KeepsBounds, KeepsHeldBounds, ReadsAsHeld, ReadsNoMore, UnlessAtFault, UnlessBroken}
use Rattle.va_serve.specs.Promises.{Asked, AsksNext, IsAsked}
use Rattle.va_serve.specs.Session.{Sitting, building_of, over_store}
use Rattle.va_serve.specs.declared.answer.Answer.{Answer}
use Rattle.va_serve.specs.declared.answer.CommandFault.{CommandFault}
use Rattle.va_serve.specs.declared.answer.CommandFault.TheVariants as faults
use Rattle.va_store.specs.Known.{IsOf, Known}
use Rattle.va_store.specs.ShelfReads.{ReadsVectors}

-- no vector was read
none_within : (query : Query) (kept : Kept) (image : List ℕ) (reads : List (ℕ × ℕ)) → AreWithinBounds query kept image reads reads
none_within query kept image reads = record {
  places = [];
  read = adds_nothing (holding (only_kept kept)) (λ vectors. vectors ≡ reads_of (holding (only_kept kept)) []) reads reads refl (no_reads (holding (only_kept kept)));
  between = tt;
}

same_query : {a b : Query} → Some a ≡ Some b → a ≡ b
same_query {a} {b} e = cc

-- unless the store is at fault, what holds at all
pub bounds_whatever : {T : Type 0} (result : Result T CommandFault) {P : Type 0} → P → UnlessBroken result P
bounds_whatever (Ok value) p = p
bounds_whatever (Err faults.Disk) p = p
bounds_whatever (Err (faults.Mismatch place dist low high)) p = tt
bounds_whatever (Err (faults.Changed place)) p = tt

module _ {D : Type 0} (g : Ghosts D) where
  pub bounds_nothing : (query : Kept → Option Query) (sitting : Sitting) (disk : D) → KeepsBounds g query sitting disk disk
  bounds_nothing query sitting disk told kept is opens q asks = none_within q kept (g.image disk) (g.reads disk)

  -- no vector was read, or there is a query
  pub no_more_unread : (asked : Asked) (sitting : Sitting) (old new : D) → g.reads new ≡ g.reads old → ReadsNoMore g asked sitting old new
  no_more_unread asked sitting old new same told kept is opens none no_cursor =
      let state = building_on (building_of sitting.store) kept in
      adds_nothing state (FrontOf state (asked.outcome state)) (g.reads old) (g.reads new) same (record { rest = reads_of state (asked.outcome state false).places; is = refl })

  pub no_more_asked : (asked : Asked) (sitting : Sitting) (old new : D) → IsAsked asked.query → ReadsNoMore g asked sitting old new
  no_more_asked asked sitting old new searches told kept is opens none no_cursor = absurd (let both : None ≡ Some (searches kept).0 = sym none ∙ (searches kept).1 in cc)

  pub no_more_next : (asked : Asked) (sitting : Sitting) (old new : D) → AsksNext asked.cursor → ReadsNoMore g asked sitting old new
  no_more_next asked sitting old new next told kept is opens none no_cursor = absurd (let both : None ≡ Some next.0 = sym no_cursor ∙ next.1 in cc)

  -- nothing was read for a cursor, or none is asked
  reads_nothing_held : (cursor : Option Cursor) (disk : D) → ReadsAsHeld g cursor disk disk
  reads_nothing_held None disk = refl
  reads_nothing_held (Some cursor) disk = record {
    read = [];
    left = cursor.held;
    added = [];
    is = λ told. sym (append-nil (g.reads disk));
    vectors = refl;
    between = λ told. refl;
  }

  -- the same, where no more was read since
  pub held_since : (cursor : Option Cursor) (old mid new : D) → g.reads new ≡ g.reads mid → ReadsAsHeld g cursor old mid → ReadsAsHeld g cursor old new
  held_since None old mid new same has = same ∙ has
  held_since (Some cursor) old mid new same has = record { read = has.read; left = has.left; added = has.added; is = λ told. same ∙ has.is told; vectors = has.vectors; between = has.between }

  pub held_nothing : (asked : Option ℕ) (sitting : Sitting) (disk : D) → KeepsHeldBounds g asked sitting disk disk
  held_nothing asked sitting disk name is = reads_nothing_held (get_or sitting.cursors name None) disk

  pub held_none : (asked : Option ℕ) (sitting : Sitting) (old new : D) → asked ≡ None → KeepsHeldBounds g asked sitting old new
  held_none asked sitting old new none name is = absurd (let both : None ≡ Some name = sym none ∙ is in cc)

  pub held_unasked : {T : Type 0} (result : Result T CommandFault) (asked : Option ℕ) (sitting : Sitting) (old new : D) → asked ≡ None → UnlessBroken result (KeepsHeldBounds g asked sitting old new)
  held_unasked result asked sitting old new none = bounds_whatever result (held_none asked sitting old new none)

  -- there is no query
  pub bounds_unasked : {T : Type 0} (result : Result T CommandFault) (query : Kept → Option Query) (sitting : Sitting) (old new : D) → ((kept : Kept) → query kept ≡ None) → UnlessBroken result (KeepsBounds g query sitting old new)
  bounds_unasked (Ok value) query sitting old new none = λ told kept is opens q asks. absurd (let both : None ≡ Some q = sym (none kept) ∙ asks in cc)
  bounds_unasked (Err faults.Disk) query sitting old new none = λ told kept is opens q asks. absurd (let both : None ≡ Some q = sym (none kept) ∙ asks in cc)
  bounds_unasked (Err (faults.Mismatch place dist low high)) query sitting old new none = tt
  bounds_unasked (Err (faults.Changed place)) query sitting old new none = tt

  module _ {asked : Query} {query : Kept → Option Query} {held : Known} (asks : (kept : Kept) → IsOf held kept → query kept ≡ Some asked) where
    bounds_between : (old new : D) → WhereOpens g held old (λ kept. ReadsBetween g asked kept old new) → KeepsBounds g query (over_store held) old new
    bounds_between old new between told kept is opens q some =
        let read = between told kept is opens in
        subst (λ (x : Query). AreWithinBounds x kept (g.image old) (g.reads old) (g.reads new)) (same_query (sym (asks kept is) ∙ some))
        (record { places = read.places; read = record { added = read.reads.added; is = read.reads.is told; vectors = read.reads.vectors }; between = read.between })

    bounds_so : {A : Type 0} (lack : Lack) (sought : Kept → Sought A) (held' : Known) (old new : D) (fault : StoreSearchFault) → FailsSearch g lack asked sought held held' old new fault → UnlessBroken (fault_answer fault) (KeepsBounds g query (over_store held) old new)
    bounds_so before_reads sought held' old new searching.Memory fails = bounds_between old new (λ told kept is opens. record { places = []; reads = subst (λ (shape : Shape). ReadsVectors g shape old [] new) is.shape fails.0; between = tt })
    bounds_so at_any_time sought held' old new searching.Memory fails = bounds_between old new fails.0.1
    bounds_so lack sought held' old new searching.Disk fails = bounds_between old new fails.1
    bounds_so lack sought held' old new (searching.Mismatch place dist low high) fails = tt
    bounds_so lack sought held' old new (searching.Changed place) fails = tt

    module _ {A : Type 0} {lack : Lack} {sought : Kept → Sought A} {held' : Known} {old new : D} where
      pub bounds_found : {found : A} → Searched g lack asked sought held held' old new (Ok found) → KeepsBounds g query (over_store held) old new
      bounds_found did = bounds_between old new did.between

      pub bounds_failed : {fault : StoreSearchFault} → Searched g lack asked sought held held' old new (Err fault) → UnlessBroken (fault_answer fault) (KeepsBounds g query (over_store held) old new)
      bounds_failed {fault} did = bounds_so lack sought held' old new fault did.failed

  -- the same command in other words
  pub bounds_as : {T : Type 0} (result : Result T CommandFault) {asked command : Command} (sitting : Sitting) (old new : D) → asked ≡ command → UnlessBroken result (KeepsBounds g (query_asked command) sitting old new)
      → UnlessBroken result (KeepsBounds g (query_asked asked) sitting old new)
  bounds_as result sitting old new is bounds = rw is bounds

-- what was said of a command that failed is said of the status
pub bounds_status : (fault : CommandFault) (P : Type 0) → UnlessBroken {T = Answer} (Err fault) P → UnlessAtFault {T = Unit {0}} (Err (fault_status fault)) P
bounds_status faults.Disk P bounds = bounds
bounds_status (faults.Mismatch place dist low high) P bounds = tt
bounds_status (faults.Changed place) P bounds = tt
