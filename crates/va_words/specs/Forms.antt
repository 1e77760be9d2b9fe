-- The forms of words, mode by mode.
use Rattle.std.specs.Prelude.{◌≡◌, ◌⊎◌, ℕ, ◌≤◌, List, [], ◌∷◌, ◌++◌, codes, decimal}
use Rattle.va_words.specs.declared.form.Mode.{Mode}
use Rattle.va_words.specs.declared.form.Mode.TheVariants.{Plain, Csv, Export, Work}

-- a number in the next word, or behind an equals sign
abbrev pub HasNumber : ℕ → List (List ℕ) → Type 0
HasNumber n words =
    (words ≡ codes "--work" ∷ decimal n ∷ []) ⊎ (words ≡ (codes "--work=" ++ decimal n) ∷ [])

abbrev pub HasForm : Mode → List (List ℕ) → Type 0
HasForm Plain words = words ≡ []
HasForm Csv words = words ≡ codes "--csv" ∷ []
HasForm Export words = words ≡ codes "--export" ∷ []
HasForm (Work n) words = (1 ≤ n) × (n ≤ 20000) × HasNumber n words
