-- The live ids in ascending order.
use Rattle.std.specs.Prelude.{ℕ, nat_lt, Bool, true, List, [], ◌∷◌, Option, None, Some, if◌then◌else◌}

-- an ascending list of ids with one more in its place
abbrev pub placed : ℕ → List ℕ → List ℕ
placed id [] = id ∷ []
placed id (other ∷ ids) = if nat_lt other id then other ∷ placed id ids else id ∷ other ∷ ids

-- whether an id is above another; each is where there is no other
abbrev pub is_above : Option ℕ → ℕ → Bool
is_above None id = true
is_above (Some after) id = nat_lt after id

-- of the ids by place those above another, or all where there is no other, in ascending order
abbrev pub live_above : Option ℕ → List (Option ℕ) → List ℕ
live_above after [] = []
live_above after (None ∷ ids) = live_above after ids
live_above after (Some id ∷ ids) = if is_above after id then placed id (live_above after ids) else live_above after ids
