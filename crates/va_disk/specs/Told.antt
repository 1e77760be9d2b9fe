-- Bytes that are given and taken, where the object tells them.
use Rattle.std.specs.Prelude.{◌≡◌, ℕ, ◌<◌, List, [], ◌++◌, length}

-- what was given is now followed by this text
abbrev pub Gives : Type 0 → List ℕ → List ℕ → List ℕ → Type 0
Gives told old text new = told → new ≡ old ++ text

-- the first bytes of what was left were these, and the new ones are left
abbrev pub Takes : Type 0 → List ℕ → List ℕ → List ℕ → Type 0
Takes told old bytes new = told → old ≡ bytes ++ new

-- nothing is left
abbrev pub IsAtEnd : Type 0 → List ℕ → Type 0
IsAtEnd told left = told → left ≡ []

-- the first bytes of a text, maybe none or all of it
pub record IsPrefix (part whole : List ℕ) : Type 0 where
  pub rest : List ℕ
  pub is : part ++ rest ≡ whole

-- the first bytes of a text, and not all of it
pub record IsProperPrefix (part whole : List ℕ) : Type 0 where
  pub missing : List ℕ
  pub lacks : 0 < length missing
  pub is : part ++ missing ≡ whole

-- a prefix of the text was given
pub record GivesPrefix (told : Type 0) (old text new : List ℕ) : Type 0 where
  pub part : List ℕ
  pub begins : IsPrefix part text
  pub given : Gives told old part new

-- a proper prefix of the text was given
pub record GivesPart (told : Type 0) (old text new : List ℕ) : Type 0 where
  pub part : List ℕ
  pub begins : IsProperPrefix part text
  pub given : Gives told old part new
