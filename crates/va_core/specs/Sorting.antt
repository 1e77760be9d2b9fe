-- Members of any type, in the order of their keys. A key is a pair.
use Rattle.std.specs.Prelude.{◌≡◌, false, List, [], ◌∷◌, if◌then◌else◌}
use Rattle.std.specs.List.{AllByRecursion}
use Rattle.va_core.specs.declared.pair.Pair.{Pair}
use Rattle.va_core.specs.Ranking.{is_less}

-- a list in the order of its keys with x in its place
abbrev pub placed_by : {X : Type 0} → (X → Pair) → X → List X → List X
placed_by key x [] = x ∷ []
placed_by key x (y ∷ members) = if is_less (key y) (key x) then y ∷ placed_by key x members else x ∷ (y ∷ members)

abbrev pub ascending_by : {X : Type 0} → (X → Pair) → List X → List X
ascending_by key [] = []
ascending_by key (x ∷ members) = placed_by key x (ascending_by key members)

-- no key of the members is less than that of x
abbrev pub IsFloor : {X : Type 0} → (X → Pair) → X → List X → Type 0
IsFloor key x members = AllByRecursion (λ y. is_less (key y) (key x) ≡ false) members

-- no key is less than one before it
abbrev pub IsInOrder : {X : Type 0} → (X → Pair) → List X → Type 0
IsInOrder key [] = Unit {0}
IsInOrder key (x ∷ members) = IsFloor key x members × IsInOrder key members
