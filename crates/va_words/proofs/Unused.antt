-- Words for which clap isn't asked have no mode.
use Rattle.std.proofs.Common.{◌≡◌, ℕ, Bool, true, false, eqb, not, ◌&&◌, List, [], ◌∷◌, ◌++◌, take, drop, None, inl, inr, refl, sym, ap₂, ◌∙◌, eqb-true, take-append-drop, arith, codes}
use Rattle.std.specs.Str.{bytes_eq}
use Rattle.std.proofs.lemmas.Bool.{cases_Bool}
use Rattle.std.proofs.lemmas.Slice.Eq.{bytes_eq-Decides}
use Rattle.clap.specs.Words.{Text}
use Rattle.va_words.specs.Options.{begins_above_zero, begins_with_dash, has_name, is_simple_use, names_option, second_dash}
use Rattle.va_words.specs.Words.{has_dashes, mode_of}
use Rattle.va_words.proofs.Numerals.{begins_otherwise}
use Rattle.va_words.proofs.Parses.{flipped}

after_one : (byte : ℕ) (name : Text) → ((eqb byte 45) && has_name name) ≡ false → mode_of ((45 ∷ byte ∷ name) ∷ []) ≡ None
after_one byte [] e = elim (cases_Bool (eqb byte 45)) [
  | inl dash ↦ rw (eqb-true byte 45 dash) refl
  | inr other ↦ rw (flipped byte other) refl
]
after_one byte (next ∷ name) e = elim (cases_Bool (eqb byte 45)) [
  | inl dash ↦ let bad : true ≡ false = rw dash at e in cc
  | inr other ↦ rw (flipped byte other) refl
]

one_dash : (word : Text) → second_dash word ≡ false → mode_of ((45 ∷ word) ∷ []) ≡ None
one_dash [] e = refl
one_dash (byte ∷ name) e = after_one byte name e

one_unused : (word : Text) → names_option word ≡ false → mode_of (word ∷ []) ≡ None
one_unused [] e = cc
one_unused (byte ∷ word) e = elim (cases_Bool (eqb byte 45)) [
  | inl dash ↦ rw (eqb-true byte 45 dash) (one_dash word (rw dash at e))
  | inr other ↦ let bad : true ≡ false = rw other at e in cc
]

dash_first : (value : Text) → begins_with_dash value ≡ true → begins_above_zero value ≡ false
dash_first [] e = cc
dash_first (byte ∷ value) e = rw (eqb-true byte 45 e) refl

dashed : (name : Text) → has_dashes name ≡ true → bytes_eq (codes "work") (drop 2 name) ≡ true → name ≡ codes "--work"
dashed name dashes work =
    sym (take-append-drop 2 name)
    ∙ ap₂ (λ a b. a ++ b) (sym ((bytes_eq-Decides (codes "--") (take 2 name)).0 dashes)) (sym ((bytes_eq-Decides (codes "work") (drop 2 name)).0 work))

two_unused : (name value : Text) → (bytes_eq name (codes "--work") && not (begins_with_dash value)) ≡ false →
    mode_of (name ∷ value ∷ []) ≡ None
two_unused name value e = elim (cases_Bool (has_dashes name)) [
  | inl dashes ↦ elim (cases_Bool (bytes_eq (codes "work") (drop 2 name))) [
    | inl work ↦
        let is : bytes_eq name (codes "--work") ≡ true = (bytes_eq-Decides name (codes "--work")).1 (dashed name dashes work) in
        let none = begins_otherwise 20000 value (omega arith) (dash_first value (dashing (begins_with_dash value) (rw is at e))) in
        rw (dashes, work, none) refl
    | inr work ↦ rw (dashes, work) refl
  ]
  | inr plain ↦ rw plain refl
]
  where
    dashing : (a : Bool) → not a ≡ false → a ≡ true
    dashing true e = refl
    dashing false e = cc

pub unused : (words : List Text) → is_simple_use words ≡ false → mode_of words ≡ None
unused [] e = cc
unused (word ∷ []) e = one_unused word e
unused (name ∷ value ∷ []) e = two_unused name value e
unused (one ∷ two ∷ three ∷ words) e = refl
