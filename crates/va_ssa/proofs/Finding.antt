-- What a search within a radius reads and finds of cells in two parts.
use Rattle.std.proofs.Common.{◌≡◌, ℕ, leb, List, [], ◌∷◌, ◌++◌, filter, refl, sym, ap, ◌∙◌}
use Rattle.std.proofs.lemmas.List.Elements.{filter-append}
use Rattle.va_core.specs.declared.pair.Pair.{Pair}
use Rattle.va_core.specs.Approximations.{is_needed_within, need_within}
use Rattle.va_core.specs.Distance.{Query}
use Rattle.va_ports.specs.Searches.{bounds_of}
use Rattle.va_ports.specs.Shelves.{Contents}
use Rattle.va_bounded.specs.Keeps.{clamped_pairs}
use Rattle.va_bounded.proofs.Keeping.{clamped_joined}
use Rattle.va_ssa.specs.Within.{found_within}
use Rattle.va_bounded.proofs.Scanned.{Reads}

abbrev Cells : Type 0
Cells = List (ℕ × ℕ)

-- it doesn't look back at the cells before
abbrev pub within_after : Contents → Query → ℕ → Cells → Cells → Cells
within_after contents query radius before cells = need_within (bounds_of contents query) cells radius

module _ (contents : Contents) (query : Query) where
  pub within_reads : (radius : ℕ) → Reads (within_after contents query radius)
  within_reads radius = record {
    none = λ _. refl;
    both = λ _ first second. filter-append (is_needed_within (bounds_of contents query) radius) first second;
  }

  pub found_joined : (radius : ℕ) (a b : Cells) → found_within contents query radius (a ++ b) ≡ found_within contents query radius a ++ found_within contents query radius b
  found_joined radius a b = ap (filter (λ (p : Pair). leb p.dist radius)) (clamped_joined contents query a b)
      ∙ filter-append (λ (p : Pair). leb p.dist radius) (clamped_pairs contents query a) (clamped_pairs contents query b)

  pub found_more : (radius : ℕ) (taken : Cells) (cell : ℕ × ℕ) (ps ps' : List Pair) → ps ≡ found_within contents query radius taken → ps' ≡ ps ++ found_within contents query radius (cell ∷ []) → ps' ≡ found_within contents query radius (taken ++ cell ∷ [])
  found_more radius taken cell ps ps' before more = more ∙ ap (λ (l : List Pair). l ++ found_within contents query radius (cell ∷ [])) before ∙ sym (found_joined radius taken (cell ∷ []))
