-- What a scan in the order of the members reads: it looks back at the members before, and not at all of them.
use Rattle.std.specs.Prelude.{ℕ, List, [], ◌∷◌, ◌++◌, if◌then◌else◌}
use Rattle.va_core.specs.Approximations.{Approximations, is_needed}

-- of the members that come after these: the wide ones for which fewer than k members before have a pair less than their
-- least pair
abbrev pub scanned_after : {X : Type 0} → Approximations X → (X → ℕ) → ℕ → List X → List X → List X
scanned_after s dist k before [] = []
scanned_after s dist k before (x ∷ after) =
    if is_needed s before dist k x then x ∷ scanned_after s dist k (before ++ x ∷ []) after
    else scanned_after s dist k (before ++ x ∷ []) after

-- what a scan for the k nearest reads
abbrev pub scanned : {X : Type 0} → Approximations X → List X → (X → ℕ) → ℕ → List X
scanned s members dist k = scanned_after s dist k [] members
