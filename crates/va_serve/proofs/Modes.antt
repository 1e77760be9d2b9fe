-- Words ask for one mode at most.
use Rattle.std.proofs.Common.{◌≡◌, ◌∙◌, ℕ, List, Option, None, Some, sym}
use Rattle.va_words.specs.Words.{mode_of}
use Rattle.va_words.specs.declared.form.Mode.{Mode}

module _ (words : List (List ℕ)) {one : Mode} (is : mode_of words ≡ Some one) where
  pub one_mode : (other : Mode) → mode_of words ≡ Some other → one ≡ other
  one_mode other also = let both : ◌≡◌ {A = Option Mode} (Some one) (Some other) = sym is ∙ also in cc

  pub some_mode : mode_of words ≡ None → ⊥
  some_mode none = let both : ◌≡◌ {A = Option Mode} (Some one) None = sym is ∙ none in cc
