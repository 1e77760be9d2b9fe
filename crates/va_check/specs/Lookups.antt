-- The row with an id.
use Rattle.std.specs.Prelude.{ℕ, ◌==◌, List, [], ◌∷◌, Option, None, Some, if◌then◌else◌}
use denote.Ref.{Bor}

-- the first row with the id
abbrev pub found : {X : Type 0} → (X → ℕ) → ℕ → List X → Option X
found id n [] = None
found id n (x ∷ rows) = if id x == n then Some x else found id n rows

-- a row that is lent
abbrev pub lent : {X : Type 0} → Option (Bor X) → Option X
lent None = None
lent (Some row) = Some row.now
