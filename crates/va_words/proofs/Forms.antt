-- A mode is that of its form.
use Rattle.std.proofs.Common.{◌≡◌, ℕ, ◌≤◌, true, List, [], ◌∷◌, ◌++◌, take, drop, ◌⊎◌, inl, inr, Option, Some, None, option_map, refl, sym, ap, ap₂, subst, ◌∙◌, take-append-drop, arith, codes}
use Rattle.std.specs.Fmt.{decimal}
use Rattle.std.specs.List.{before_first}
use Rattle.std.specs.Str.{bytes_eq}
use Rattle.std.proofs.lemmas.Bool.{cases_Bool}
use Rattle.std.proofs.lemmas.Slice.Eq.{bytes_eq-Decides}
use Rattle.va_words.specs.Forms.{HasForm}
use Rattle.va_words.specs.Words.{has_dashes, is_equals, mode_named, mode_of, number_to, value_in}
use Rattle.va_words.specs.declared.form.Mode.{Mode}
use Rattle.va_words.specs.declared.form.Mode.TheVariants.{Plain, Csv, Export, Work}
use Rattle.va_words.proofs.Naming.{parted_values}
use Rattle.va_words.proofs.Numerals.{read_back, spelled}

dashed : (word : List ℕ) → has_dashes word ≡ true → word ≡ 45 ∷ 45 ∷ drop 2 word
dashed word dashes =
    sym (take-append-drop 2 word) ∙ ap (λ front. front ++ drop 2 word) (sym ((bytes_eq-Decides (codes "--") (take 2 word)).0 dashes))

worked : (value : List ℕ) (mode : Mode) → option_map (λ n. Work n) (number_to 20000 value) ≡ Some mode →
    (n : ℕ) × (mode ≡ Work n) × (1 ≤ n) × (n ≤ 20000) × (value ≡ decimal n)
worked value mode e = from (number_to 20000 value) refl e
  where
    from : (answer : Option ℕ) → number_to 20000 value ≡ answer → option_map (λ n. Work n) answer ≡ Some mode →
        (n : ℕ) × (mode ≡ Work n) × (1 ≤ n) × (n ≤ 20000) × (value ≡ decimal n)
    from None is e = cc
    from (Some n) is e = let h = spelled 20000 value n is in (n, cc, h.1, h.2, h.0)

-- a mode by a name alone
by_name : (name : List ℕ) (mode : Mode) → mode_named name None ≡ Some mode →
    ((name ≡ codes "csv") × (mode ≡ Csv)) ⊎ ((name ≡ codes "export") × (mode ≡ Export))
by_name name mode e = elim (cases_Bool (bytes_eq (codes "csv") name)) [
  | inl csv ↦ let is : Some Csv ≡ Some mode = rw csv at e in inl (sym ((bytes_eq-Decides (codes "csv") name).0 csv), cc)
  | inr csv ↦ elim (cases_Bool (bytes_eq (codes "export") name)) [
    | inl export ↦ let is : Some Export ≡ Some mode = rw (csv, export) at e in inr (sym ((bytes_eq-Decides (codes "export") name).0 export), cc)
    | inr export ↦ let bad : None ≡ Some mode = rw (csv, export) at e in cc
  ]
]

-- a mode by a name and a value
by_value : (name value : List ℕ) (mode : Mode) → mode_named name (Some value) ≡ Some mode →
    (name ≡ codes "work") × ((n : ℕ) × (mode ≡ Work n) × (1 ≤ n) × (n ≤ 20000) × (value ≡ decimal n))
by_value name value mode e = elim (cases_Bool (bytes_eq (codes "work") name)) [
  | inl work ↦ (sym ((bytes_eq-Decides (codes "work") name).0 work), worked value mode (rw work at e))
  | inr work ↦ let bad : None ≡ Some mode = rw work at e in cc
]

form_of_rest : (rest : List ℕ) (mode : Mode) → mode_named (before_first is_equals rest) (value_in rest) ≡ Some mode →
    HasForm mode ((45 ∷ 45 ∷ rest) ∷ [])
form_of_rest rest mode e = elim (parted_values rest) [
  | inl alone ↦ elim (by_name (before_first is_equals rest) mode (rw alone.1 at e)) [
    | inl csv ↦ rw (csv.1) (ap (λ t. (45 ∷ 45 ∷ t) ∷ []) (alone.0 ∙ csv.0))
    | inr export ↦ rw (export.1) (ap (λ t. (45 ∷ 45 ∷ t) ∷ []) (alone.0 ∙ export.0))
  ]
  | inr valued ↦
      let h = by_value (before_first is_equals rest) valued.0 mode (rw valued.2 at e) in
      rw (h.1.1) (h.1.2, h.1.3, inr (ap (λ t. (45 ∷ 45 ∷ t) ∷ []) (valued.1 ∙ ap₂ (λ name value. name ++ 61 ∷ value) h.0 h.1.4)))
]

pub form_of_mode : (words : List (List ℕ)) (mode : Mode) → mode_of words ≡ Some mode → HasForm mode words
form_of_mode [] mode e = let is : mode ≡ Plain = cc in rw is refl
form_of_mode (word ∷ []) mode e = elim (cases_Bool (has_dashes word)) [
  | inl dashes ↦
      subst (λ (w : List ℕ). HasForm mode (w ∷ [])) (sym (dashed word dashes)) (form_of_rest (drop 2 word) mode (rw dashes at e))
  | inr plain ↦ let bad : None ≡ Some mode = rw plain at e in cc
]
form_of_mode (name ∷ value ∷ []) mode e = elim (cases_Bool (has_dashes name)) [
  | inl dashes ↦
      let h = by_value (drop 2 name) value mode (rw dashes at e) in
      rw (h.1.1) (h.1.2, h.1.3, inl (ap₂ (λ a b. a ∷ b ∷ []) (dashed name dashes ∙ ap (λ t. 45 ∷ 45 ∷ t) h.0) h.1.4))
  | inr plain ↦ let bad : None ≡ Some mode = rw plain at e in cc
]
form_of_mode (one ∷ two ∷ three ∷ words) mode e = cc

pub mode_of_form : (words : List (List ℕ)) (mode : Mode) → HasForm mode words → mode_of words ≡ Some mode
mode_of_form words Plain is = rw is refl
mode_of_form words Csv is = rw is refl
mode_of_form words Export is = rw is refl
mode_of_form words (Work n) (least, most, has) =
    let read = ap (option_map (λ n. Work n)) (read_back 20000 n least most (omega arith)) in
    elim has [
      | inl next ↦ rw next read
      | inr behind ↦ rw behind read
    ]
