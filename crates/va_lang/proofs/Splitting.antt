-- A text cut at a separator.
use Rattle.std.proofs.Common.{◌≡◌, ℕ, Bool, true, false, List, [], ◌∷◌, ◌++◌, eqb, if◌then◌else◌, refl, ap, sym, append_assoc}
use Rattle.va_lang.specs.Texts.{split_at, onto_first}

-- bytes before the first part
abbrev pub after_part : List ℕ → List (List ℕ) → List (List ℕ)
after_part bytes [] = bytes ∷ []
after_part bytes (part ∷ parts) = (bytes ++ part) ∷ parts

after_part-more : (bytes : List ℕ) (b : ℕ) (parts : List (List ℕ)) → after_part bytes (onto_first b parts) ≡ after_part (bytes ++ b ∷ []) parts
after_part-more bytes b [] = refl
after_part-more bytes b (part ∷ parts) = ap (λ (x : List ℕ). x ∷ parts) (sym (append_assoc bytes (b ∷ []) part))

onto_nothing : (b : ℕ) (parts : List (List ℕ)) → after_part [] (onto_first b parts) ≡ onto_first b parts
onto_nothing b [] = refl
onto_nothing b (part ∷ parts) = refl

split_nothing : (c : Bool) (b : ℕ) (parts : List (List ℕ)) →
    after_part [] (if c then [] ∷ parts else onto_first b parts) ≡ (if c then [] ∷ parts else onto_first b parts)
split_nothing true b parts = refl
split_nothing false b parts = onto_nothing b parts

pub after_nothing : (separator : ℕ) (bytes : List ℕ) → after_part [] (split_at separator bytes) ≡ split_at separator bytes
after_nothing separator [] = refl
after_nothing separator (b ∷ bytes) = split_nothing (eqb b separator) b (split_at separator bytes)

-- a text has a first part
split_at_branch : (P : List (List ℕ) → Type 0) → ((part : List ℕ) (parts : List (List ℕ)) → P (part ∷ parts)) →
    (c : Bool) (b : ℕ) (parts : List (List ℕ)) → P (if c then [] ∷ parts else onto_first b parts)
split_at_branch P at true b parts = at [] parts
split_at_branch P at false b [] = at (b ∷ []) []
split_at_branch P at false b (part ∷ parts) = at (b ∷ part) parts

pub some_part : (P : List (List ℕ) → Type 0) → ((part : List ℕ) (parts : List (List ℕ)) → P (part ∷ parts)) →
    (separator : ℕ) (bytes : List ℕ) → P (split_at separator bytes)
some_part P at separator [] = at [] []
some_part P at separator (b ∷ bytes) = split_at_branch P at (eqb b separator) b (split_at separator bytes)
