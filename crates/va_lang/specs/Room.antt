-- What stands in the room for the long parts of a command.
use Rattle.std.specs.Prelude.{ℕ, List, [], ◌∷◌, ◌++◌, Option, None, Some}
use denote.Ref.{Bor}

pub record Room : Type 0 where
  pub vector : List ℕ
  pub objects : List (List ℕ)
  pub weights : Option (List ℕ)

-- what a borrowed list is
abbrev pub lent : Option (Bor (List ℕ)) → Option (List ℕ)
lent None = None
lent (Some list) = Some list.now

-- one object more, if it was read
abbrev pub with_object : List (List ℕ) → Option (List ℕ) → List (List ℕ)
with_object objects None = objects
with_object objects (Some object) = objects ++ object ∷ []
