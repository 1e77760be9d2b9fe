-- Laws of what such a shelf leaves.
use Rattle.std.proofs.Common.{◌≡◌, ℕ, ◌+◌, List, [], ◌++◌, length, map, refl, sym, ap, subst, ◌∙◌, append_assoc, length-append, arith}
use Rattle.std.proofs.lemmas.List.{append-nil, map-append, length-map}
use Rattle.va_ports.specs.Shelves.{Contents}
use Rattle.va_ports.specs.declared.shelf.Shelf.{Ghosts}
use Rattle.va_maker.specs.Kept.{Kept}
use Rattle.va_maker.specs.Keeps.{Keeps, Passes, kept_at}

module _ (told : Type 0) (contents : Contents) where
  pub keeps_none : (kept : Kept) → Keeps told contents kept [] kept
  keeps_none kept = record { dims = refl; most = refl; vectors = λ _ _. sym (append-nil kept.vectors) }

  pub keeps_both : (old mid new : Kept) (first second : List ℕ) → Keeps told contents old first mid → Keeps told contents mid second new → Keeps told contents old (first ++ second) new
  keeps_both old mid new first second a b = record {
    dims = b.dims ∙ a.dims;
    most = b.most ∙ a.most;
    vectors = λ t fits.
        let both : length (first ++ second) ≡ length first + length second = length-append first second in
        let grown : mid.vectors ≡ old.vectors ++ map (kept_at contents) first = a.vectors t (omega (arith, both, fits)) in
        let count : length mid.vectors ≡ length old.vectors + length first =
        ap (λ (l : List (ℕ × List ℕ)). length l) grown ∙ length-append old.vectors (map (kept_at contents) first) ∙ ap (λ (n : ℕ). length old.vectors + n) (length-map first (kept_at contents)) in
        let most : mid.most ≡ old.most = a.most in
        b.vectors t (omega (arith, both, fits, count, most))
        ∙ ap (λ (l : List (ℕ × List ℕ)). l ++ map (kept_at contents) second) grown
        ∙ append_assoc old.vectors (map (kept_at contents) first) (map (kept_at contents) second)
        ∙ ap (λ (l : List (ℕ × List ℕ)). old.vectors ++ l) (sym (map-append (kept_at contents) first second));
  }

pub passes_none : {S : Type 0} (g : Ghosts S) (x : S) (kept : Kept) → g.passes x [] x → Passes g x [] x kept kept
passes_none g x kept none = record { passed = none; stay = refl; keeps = keeps_none g.told (g.contents x) kept }

pub passes_both : {S : Type 0} (g : Ghosts S) {old mid new : S} (first second : List ℕ) {kept kept' kept'' : Kept} → (g.passes old first mid → g.passes mid second new → g.passes old (first ++ second) new) →
    Passes g old first mid kept kept' → Passes g mid second new kept' kept'' → Passes g old (first ++ second) new kept kept''
passes_both g {old} {mid} {new} first second {kept} {kept'} {kept''} both a b = record {
  passed = both a.passed b.passed;
  stay = b.stay ∙ a.stay;
  keeps = keeps_both g.told (g.contents old) kept kept' kept'' first second a.keeps (subst (λ (x : Contents). Keeps g.told x kept' second kept'') a.stay b.keeps);
}
