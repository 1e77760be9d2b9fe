-- Worked examples of words, computed from the definition.
use Rattle.std.proofs.Common.{◌≡◌, [], ◌∷◌, Some, None, refl, codes}
use Rattle.std.specs.Fmt.{digits}
use Rattle.va_words.specs.Words.{mode_of}
use Rattle.va_words.specs.declared.form.Mode.TheVariants.{Plain, Export, Work}

no_word : mode_of [] ≡ Some Plain
no_word = refl

two_options : mode_of (codes "--csv" ∷ codes "--export" ∷ []) ≡ None
two_options = refl

bare_dashes : mode_of (codes "--" ∷ []) ≡ None
bare_dashes = refl

a_flag_with_a_value : mode_of (codes "--csv=x" ∷ []) ≡ None
a_flag_with_a_value = refl

export : mode_of (codes "--export" ∷ []) ≡ Some Export
export = refl

the_most : mode_of (codes "--work=20000" ∷ []) ≡ Some (Work 20000)
unfolding digits
the_most = refl

the_least : mode_of (codes "--work" ∷ codes "1" ∷ []) ≡ Some (Work 1)
unfolding digits
the_least = refl

none_at_all : mode_of (codes "--work" ∷ codes "0" ∷ []) ≡ None
unfolding digits
none_at_all = refl

a_leading_zero : mode_of (codes "--work" ∷ codes "01" ∷ []) ≡ None
unfolding digits
a_leading_zero = refl
