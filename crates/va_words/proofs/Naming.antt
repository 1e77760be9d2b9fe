-- A word by the name of its option.
use Rattle.std.proofs.Common.{◌≡◌, ℕ, suc, ◌+◌, true, false, eqb, List, [], ◌∷◌, ◌++◌, take, ◌⊎◌, inl, inr, Some, None, refl, sym, ap, ◌∙◌, eqb-true, arith}
use Rattle.std.specs.List.{before_first, position_or_len}
use Rattle.std.proofs.lemmas.Bool.{cases_Bool}
use Rattle.va_words.specs.Words.{is_equals, value_in}

before_other : (byte : ℕ) (text : List ℕ) → eqb byte 61 ≡ false → before_first is_equals (byte ∷ text) ≡ byte ∷ before_first is_equals text
before_other byte text other =
    let e : 1 + position_or_len is_equals text ≡ suc (position_or_len is_equals text) = omega arith in
    rw other (ap (λ n. take n (byte ∷ text)) e)

before_equals : (byte : ℕ) (text : List ℕ) → eqb byte 61 ≡ true → before_first is_equals (byte ∷ text) ≡ []
before_equals byte text equals = rw equals refl

value_other : (byte : ℕ) (text : List ℕ) → eqb byte 61 ≡ false → value_in (byte ∷ text) ≡ value_in text
value_other byte text other =
    let e : 1 + position_or_len is_equals text + 1 ≡ suc (position_or_len is_equals text + 1) = omega arith in
    rw (other, e) refl

value_equals : (byte : ℕ) (text : List ℕ) → eqb byte 61 ≡ true → value_in (byte ∷ text) ≡ Some text
value_equals byte text equals = rw equals refl

-- a text without a value is its name, and else an equals sign stands between its name and its value
pub parted_values : (text : List ℕ) → ((text ≡ before_first is_equals text) × (value_in text ≡ None))
    ⊎ ((value : List ℕ) × (text ≡ before_first is_equals text ++ 61 ∷ value) × (value_in text ≡ Some value))
parted_values [] = inl (refl, refl)
parted_values (byte ∷ text) = elim (cases_Bool (eqb byte 61)) [
  | inl equals ↦
      inr (text, rw (before_equals byte text equals) (ap (λ b. b ∷ text) (eqb-true byte 61 equals)), value_equals byte text equals)
  | inr other ↦ rw (before_other byte text other, value_other byte text other) (elim (parted_values text) [
    | inl whole ↦ inl (ap (λ t. byte ∷ t) whole.0, whole.1)
    | inr cut ↦ inr (cut.0, ap (λ t. byte ∷ t) cut.1, cut.2)
  ])
]

-- a text of this name
pub named : (key text : List ℕ) → key ≡ before_first is_equals text → (text ≡ key) ⊎ ((value : List ℕ) × (text ≡ key ++ 61 ∷ value))
named key text name = elim (parted_values text) [
  | inl whole ↦ inl (whole.0 ∙ sym name)
  | inr cut ↦ inr (cut.0, cut.1 ∙ ap (λ t. t ++ 61 ∷ cut.0) (sym name))
]
