-- What the calls of a disk do to its bytes, and what a crash may leave.
use Rattle.std.specs.Prelude.{◌≡◌, ◌⊎◌, ℕ, ◌+◌, ◌≤◌, max, List, ◌++◌, length, take, drop}

-- new is old with these bytes at this offset
abbrev pub Holds : List ℕ → ℕ → List ℕ → List ℕ → Type 0
Holds old at bytes new = new ≡ take at old ++ bytes ++ drop (at + length bytes) old

-- any bytes in the range of n bytes and past the old end, and the same elsewhere
pub record Torn (at n : ℕ) (old new : List ℕ) : Type 0 where
  pub before : take at new ≡ take at old
  pub after : drop (at + n) new ≡ drop (at + n) old
  pub no_shorter : length old ≤ length new
  pub no_longer : length new ≤ max (length old) (at + n)

-- each new outcome of a crash is an old outcome after a step
abbrev pub Follows : (List ℕ → List ℕ → Type 0) → (List ℕ → Type 0) → (List ℕ → Type 0) → Type 0
Follows step old new = (c : List ℕ) → new c → (d : List ℕ) × old d × step d c

-- a crash leaves this and nothing else
abbrev pub Only : List ℕ → (List ℕ → Type 0) → Type 0
Only file outcomes = (c : List ℕ) → outcomes c → c ≡ file

-- each outcome has P
abbrev pub Each : (List ℕ → Type 0) → (List ℕ → Type 0) → Type 0
Each P outcomes = (c : List ℕ) → outcomes c → P c

-- Time goes on: since t there is what there was, or what a crash may leave now with what was given.
pub record Elapses (before now : ℕ) (past since : ℕ → List ℕ → List ℕ → Type 0) (may_leave : List ℕ → Type 0) (given : List ℕ) : Type 0 where
  pub later : before ≤ now
  pub nothing_else : (t : ℕ) (c g : List ℕ) → t ≤ before → since t c g → past t c g ⊎ (may_leave c × (g ≡ given))
  pub keeps : (t : ℕ) (c g : List ℕ) → t ≤ before → past t c g → since t c g

-- Each outcome at each moment from old to new that isn't already one of old has P.
pub record Leaves {D : Type 0} (clock : D → ℕ) (left_since : D → ℕ → List ℕ → List ℕ → Type 0) (old new : D) (P : List ℕ → List ℕ → Type 0) : Type 0 where
  pub later : clock old ≤ clock new
  pub each : (t : ℕ) (c g : List ℕ) → t ≤ clock old → left_since new t c g → left_since old t c g ⊎ P c g

-- Each outcome since the start of a run is one that the start may leave, with what was given then, or it has P.
abbrev pub OnlyStartOr : (List ℕ → Type 0) → List ℕ → (List ℕ → List ℕ → Type 0) → (List ℕ → List ℕ → Type 0) → Type 0
OnlyStartOr may_leave given left P = (c g : List ℕ) → left c g → (may_leave c × (g ≡ given)) ⊎ P c g
