-- A search whose first part read nothing: what its second part says holds of the whole.
use Rattle.std.proofs.Common.{◌≡◌, ℕ, List, [], refl, subst}
use Rattle.va_core.specs.declared.pair.Pair.{Pair}
use Rattle.va_core.specs.Distance.{Query}
use Rattle.va_core.specs.Ranking.{answer}
use Rattle.va_keep.specs.Kept.{Kept}
use Rattle.va_keep.specs.declared.entry.Entry.{Entry}
use Rattle.va_bounded.specs.Keeps.{clamped_pairs}
use Rattle.va_ports.specs.Faults.{IfMemory}
use Rattle.va_ports.specs.Shelves.{Contents}
use Rattle.va_ports.specs.Searches.{Stopped, Took}
use Rattle.va_ports.proofs.Searching.{PassesBoth, stopped_after, took_both, took_none}
use Rattle.va_ports.specs.declared.search.SearchFault.{SearchFault}
use Rattle.va_ports.specs.declared.search.SearchFault.TheVariants.{Memory}
use Rattle.va_ports.specs.declared.shelf.Shelf.{Ghosts}
use Rattle.va_noa.specs.Filling.{Fills}
use Rattle.va_noa.specs.NearestReads.{StoppedNeeded, TookNeeded, clamped_needed}

pub none_for_want : {S : Type 0} {g : Ghosts S} {contents : Contents} {query : Query} {reads : List (ℕ × ℕ)} {old new : S} → g.passes old [] new → Stopped g contents query reads old new Memory
none_for_want {reads = reads} passed = record {
  before = [];
  last = [];
  after = reads;
  passed = passed;
  exact = λ _. refl;
  between = λ _. tt;
  ends = (refl, refl);
}

pub fills_for : {told : Type 0} {contents : Contents} {query : Query} {most k : ℕ} {highs : Kept} {entries : List Entry} → most ≡ k → Fills told contents query most contents.cells highs entries → Fills told contents query k contents.cells highs entries
fills_for {told} {contents} {query} {most} {k} {highs} {entries} same fills = subst (λ (n : ℕ). Fills told contents query n contents.cells highs entries) same fills

pub kept_since : {before contents : Contents} (query : Query) {most k : ℕ} (pairs : List Pair) → before ≡ contents → most ≡ k → pairs ≡ answer (clamped_pairs before query before.cells) most → pairs ≡ answer (clamped_pairs contents query contents.cells) k
kept_since {before} {contents} query {most} {k} pairs stay same kept =
    subst (λ (n : ℕ). pairs ≡ answer (clamped_pairs contents query contents.cells) n) same
    (subst (λ (x : Contents). pairs ≡ answer (clamped_pairs x query x.cells) most) stay kept)

module _ {S : Type 0} (g : Ghosts S) (both : PassesBoth g) (query : Query) {most k : ℕ} {old mid new : S} (passed : g.passes old [] mid) (stay : g.contents mid ≡ g.contents old) (same : most ≡ k) where
  pub took_since : (ids : List ℕ) → TookNeeded g query most mid new ids → TookNeeded g query k old new ids
  took_since ids took = took_both g (g.contents old) query both [] (clamped_needed (g.contents old) query k) old mid new [] [] ids (took_none g (g.contents old) query old mid [] passed)
      (subst (λ (n : ℕ). Took g (g.contents old) query (clamped_needed (g.contents old) query n) mid new [] ids) same
      (subst (λ (x : Contents). Took g x query (clamped_needed x query most) mid new [] ids) stay took))

  pub stopped_since : (why : SearchFault) → StoppedNeeded g query most mid new why → IfMemory why ⊥ → StoppedNeeded g query k old new why
  stopped_since why stop never = stopped_after g (g.contents old) query both [] (clamped_needed (g.contents old) query k) old mid new why [] [] (took_none g (g.contents old) query old mid [] passed)
      (subst (λ (n : ℕ). Stopped g (g.contents old) query (clamped_needed (g.contents old) query n) mid new why) same
      (subst (λ (x : Contents). Stopped g x query (clamped_needed x query most) mid new why) stay stop)) never
