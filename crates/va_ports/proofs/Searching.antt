-- Reads of a shelf that follow one another.
use Rattle.std.proofs.Common.{◌≡◌, ℕ, List, [], ◌∷◌, ◌++◌, map, refl, sym, ap, ◌∙◌, subst, append_assoc}
use Rattle.std.proofs.lemmas.List.{append-nil, map-append}
use Rattle.va_core.specs.Distance.{Query}
use Rattle.va_core.proofs.Members.{all_append}
use Rattle.va_ports.specs.Shelves.{Contents, place_of, id_of}
use Rattle.va_ports.specs.Faults.{IfMemory}
use Rattle.va_ports.specs.Searches.{IsBetween, bounds_of, distance_of, Took, Stopped, Ends, IsMismatch}
use Rattle.va_ports.specs.declared.search.SearchFault.{SearchFault}
use Rattle.va_ports.specs.declared.search.SearchFault.TheVariants.{Memory, Shelf, Mismatch}
use Rattle.va_ports.specs.declared.shelf.ShelfFault.{ShelfFault}
use Rattle.va_ports.specs.declared.shelf.Shelf.{Ghosts}

abbrev Cells : Type 0
Cells = List (ℕ × ℕ)

-- the two laws of what a shelf passes
abbrev pub PassesNone : {S : Type 0} → Ghosts S → Type 0
PassesNone {S} g = (x : S) → g.passes x [] x

abbrev pub PassesBoth : {S : Type 0} → Ghosts S → Type 0
PassesBoth {S} g = (old mid new : S) (first second : List ℕ) → g.passes old first mid → g.passes mid second new → g.passes old (first ++ second) new

-- more cells after those of a fault that ends the reads
ends_after : {S : Type 0} (g : Ghosts S) (contents : Contents) (query : Query) (read before last : Cells) (why : SearchFault) → Ends g contents query before last why → IfMemory why ⊥ → Ends g contents query (read ++ before) last why
ends_after g contents query read before last Memory ends never = absurd never
ends_after g contents query read before last (Shelf fault) ends never = ends
ends_after g contents query read before last (Mismatch place dist low high) ends never = ends

module _ {S : Type 0} (g : Ghosts S) (contents : Contents) (query : Query) where
  -- a call that reads nothing
  pub took_none : (old new : S) (ids : List ℕ) → g.passes old [] new → Took g contents query [] old new ids ids
  took_none old new ids passed = record {
    read = [];
    passed = passed;
    listed = sym (append-nil ids);
    exact = λ _. refl;
    between = λ _. tt;
  }

  -- one cell was read
  pub took_one : (cell : ℕ × ℕ) (old new : S) (ids : List ℕ) → g.passes old (place_of cell ∷ []) new → (g.told → IsBetween (bounds_of contents query) (distance_of contents query) cell) → Took g contents query (cell ∷ []) old new ids (ids ++ id_of cell ∷ [])
  took_one cell old new ids passed between = record {
    read = cell ∷ [];
    passed = passed;
    listed = refl;
    exact = λ _. refl;
    between = λ t. (between t, tt);
  }

  pub took_both : PassesBoth g → (a b : Cells) (old mid new : S) (ids ids' ids'' : List ℕ) → Took g contents query a old mid ids ids' → Took g contents query b mid new ids' ids'' → Took g contents query (a ++ b) old new ids ids''
  took_both both a b old mid new ids ids' ids'' first second = record {
    read = first.read ++ second.read;
    passed = subst (λ (l : List ℕ). g.passes old l new) (sym (map-append place_of first.read second.read)) (both old mid new _ _ first.passed second.passed);
    listed = second.listed ∙ ap (λ (l : List ℕ). l ++ map id_of second.read) first.listed ∙ append_assoc ids (map id_of first.read) (map id_of second.read) ∙ ap (λ (l : List ℕ). ids ++ l) (sym (map-append id_of first.read second.read));
    exact = λ t. ap (λ (l : Cells). l ++ second.read) (first.exact t) ∙ ap (λ (l : Cells). a ++ l) (second.exact t);
    between = λ t. all_append (IsBetween (bounds_of contents query) (distance_of contents query)) first.read second.read (first.between t) (second.between t);
  }

  -- the same reads in other words, where the shelf tells
  pub took_as : (a b : Cells) (old new : S) (ids ids' : List ℕ) → (g.told → b ≡ a) → Took g contents query a old new ids ids' → Took g contents query b old new ids ids'
  took_as a b old new ids ids' same took = record {
    read = took.read;
    passed = took.passed;
    listed = took.listed;
    exact = λ t. took.exact t ∙ sym (same t);
    between = took.between;
  }

  pub stopped_as : (a b : Cells) (old new : S) (why : SearchFault) → (g.told → b ≡ a) → Stopped g contents query a old new why → Stopped g contents query b old new why
  stopped_as a b old new why same stop = record {
    before = stop.before;
    last = stop.last;
    after = stop.after;
    passed = stop.passed;
    exact = λ t. same t ∙ stop.exact t;
    between = stop.between;
    ends = stop.ends;
  }

  -- the shelf failed before anything was read of these cells
  pub stopped_shelf : (reads : Cells) (old new : S) (fault : ShelfFault) → g.passes old [] new → Stopped g contents query reads old new (Shelf fault)
  stopped_shelf reads old new fault passed = record {
    before = [];
    last = [];
    after = reads;
    passed = passed;
    exact = λ _. refl;
    between = λ _. tt;
    ends = refl;
  }

  pub stopped_memory : PassesNone g → (reads : Cells) (x : S) → Stopped g contents query reads x x Memory
  stopped_memory none reads x = record {
    before = [];
    last = [];
    after = reads;
    passed = none x;
    exact = λ _. refl;
    between = λ _. tt;
    ends = (refl, refl);
  }

  -- the first of these cells has a mismatch
  pub stopped_mismatch : (cell : ℕ × ℕ) (reads : Cells) (old new : S) (place dist low high : ℕ) → g.passes old (place_of cell ∷ []) new → IsMismatch g contents query cell place dist low high → Stopped g contents query (cell ∷ reads) old new (Mismatch place dist low high)
  stopped_mismatch cell reads old new place dist low high passed is = record {
    before = [];
    last = cell ∷ [];
    after = reads;
    passed = passed;
    exact = λ _. refl;
    between = λ _. tt;
    ends = (cell, refl, is);
  }

  -- a stop in some reads is one in these and others behind them
  pub stopped_more : (a b : Cells) (old new : S) (why : SearchFault) → Stopped g contents query a old new why → Stopped g contents query (a ++ b) old new why
  stopped_more a b old new why stop = record {
    before = stop.before;
    last = stop.last;
    after = stop.after ++ b;
    passed = stop.passed;
    exact = λ t. ap (λ (l : Cells). l ++ b) (stop.exact t) ∙ append_assoc stop.before (stop.last ++ stop.after) b ∙ ap (λ (l : Cells). stop.before ++ l) (append_assoc stop.last stop.after b);
    between = stop.between;
    ends = stop.ends;
  }

  -- a stop after some reads, but for want of memory
  pub stopped_after : PassesBoth g → (a b : Cells) (old mid new : S) (why : SearchFault) (ids ids' : List ℕ) → Took g contents query a old mid ids ids' → Stopped g contents query b mid new why → IfMemory why ⊥ → Stopped g contents query (a ++ b) old new why
  stopped_after both a b old mid new why ids ids' took stop never = record {
    before = took.read ++ stop.before;
    last = stop.last;
    after = stop.after;
    passed = subst (λ (l : List ℕ). g.passes old l new)
        (sym (map-append place_of took.read (stop.before ++ stop.last)) ∙ ap (map place_of) (sym (append_assoc took.read stop.before stop.last)))
        (both old mid new _ _ took.passed stop.passed);
    exact = λ t. ap (λ (l : Cells). l ++ b) (sym (took.exact t)) ∙ ap (λ (l : Cells). took.read ++ l) (stop.exact t) ∙ sym (append_assoc took.read stop.before (stop.last ++ stop.after));
    between = λ t. all_append (IsBetween (bounds_of contents query) (distance_of contents query)) took.read stop.before (took.between t) (stop.between t);
    ends = ends_after g contents query took.read stop.before stop.last why stop.ends never;
  }
