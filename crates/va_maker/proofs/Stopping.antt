-- Where a certificate isn't made, after a scan that read nothing.
use Rattle.std.proofs.Common.{◌≡◌, ℕ, List, [], ◌++◌, map, refl, sym, ◌∙◌, subst}
use Rattle.std.proofs.lemmas.List.{append-nil}
use Rattle.va_core.specs.Distance.{Query}
use Rattle.va_noa.specs.NearestReads.{StoppedNeeded, TookNeeded, clamped_needed}
use Rattle.va_noa.proofs.Ends.{took_since}
use Rattle.va_ports.specs.Faults.{IfMismatch}
use Rattle.va_ports.specs.Shelves.{Contents, place_of}
use Rattle.va_ports.specs.Searches.{Ends, Stopped}
use Rattle.va_ports.specs.declared.search.SearchFault.{SearchFault}
use Rattle.va_ports.specs.declared.search.SearchFault.TheVariants.{Memory, Shelf, Mismatch}
use Rattle.va_ports.specs.declared.shelf.Shelf.{Ghosts}
use Rattle.va_ports.proofs.Searching.{PassesBoth}
use Rattle.va_maker.specs.Making.{EndsMaking, ReadNeeded, StoppedMaking}

ends_early : {S : Type 0} (g : Ghosts S) (contents : Contents) (query : Query) (why : SearchFault) → IfMismatch why (λ _ _ _ _. ⊥) → EndsMaking g contents query [] why
ends_early g contents query Memory never = refl
ends_early g contents query (Shelf fault) never = refl
ends_early g contents query (Mismatch place dist low high) never = absurd never

ends_as : {S : Type 0} (g : Ghosts S) (contents : Contents) (query : Query) (before last : List (ℕ × ℕ)) (why : SearchFault) → Ends g contents query before last why → EndsMaking g contents query last why
ends_as g contents query before last Memory ends = ends.1
ends_as g contents query before last (Shelf fault) ends = ends
ends_as g contents query before last (Mismatch place dist low high) ends = ends

-- nothing was read
pub stopped_early : {S : Type 0} (g : Ghosts S) (query : Query) (k : ℕ) {old new : S} (why : SearchFault) → IfMismatch why (λ _ _ _ _. ⊥) → g.passes old [] new → StoppedMaking g query k old new why
stopped_early g query k {old} {new} why never passed = record {
  before = [];
  last = [];
  after = clamped_needed (g.contents old) query k;
  passed = passed;
  exact = λ _. refl;
  between = λ _. tt;
  ends = ends_early g (g.contents old) query why never;
}

module _ {S : Type 0} (g : Ghosts S) (both : PassesBoth g) (query : Query) (k : ℕ) {old mid new : S} (passed : g.passes old [] mid) (stay : g.contents mid ≡ g.contents old) where
  -- the search stopped
  pub stopped_search : (why : SearchFault) → StoppedNeeded g query k mid new why → StoppedMaking g query k old new why
  stopped_search why stop =
      let here : Stopped g (g.contents old) query (clamped_needed (g.contents old) query k) mid new why = subst (λ (x : Contents). Stopped g x query (clamped_needed x query k) mid new why) stay stop in
      record {
        before = here.before;
        last = here.last;
        after = here.after;
        passed = both old mid new [] (map place_of (here.before ++ here.last)) passed here.passed;
        exact = here.exact;
        between = here.between;
        ends = ends_as g (g.contents old) query here.before here.last why here.ends;
      }

  -- the search read what is needed
  pub read_since : ReadNeeded g query k mid new → ReadNeeded g query k old new
  read_since read = (read.0, took_since g both query passed stay refl read.0 read.1)

  -- and memory was wanting after it
  pub stopped_after : ReadNeeded g query k mid new → StoppedMaking g query k old new Memory
  stopped_after read =
      let took : TookNeeded g query k old new read.0 = took_since g both query passed stay refl read.0 read.1 in
      record {
        before = took.read;
        last = [];
        after = [];
        passed = subst (λ (cells : List (ℕ × ℕ)). g.passes old (map place_of cells) new) (sym (append-nil took.read)) took.passed;
        exact = λ t. sym (took.exact t) ∙ sym (append-nil took.read);
        between = took.between;
        ends = refl;
      }
