-- Texts in parts.
use Rattle.std.specs.Prelude.{ℕ, List, [], ◌∷◌, ◌++◌, ◌==◌, if◌then◌else◌}

-- the parts of a text between separators: one more than it has separators
abbrev pub onto_first : ℕ → List (List ℕ) → List (List ℕ)
onto_first b [] = (b ∷ []) ∷ []
onto_first b (part ∷ parts) = (b ∷ part) ∷ parts

abbrev pub split_at : ℕ → List ℕ → List (List ℕ)
split_at separator [] = [] ∷ []
split_at separator (b ∷ bytes) =
    if b == separator then [] ∷ split_at separator bytes else onto_first b (split_at separator bytes)

-- texts with a separator between two
abbrev pub joined : ℕ → List (List ℕ) → List ℕ
joined separator [] = []
joined separator (text ∷ []) = text
joined separator (text ∷ next ∷ texts) = text ++ separator ∷ joined separator (next ∷ texts)
