-- What a record of calls comes to when it is replayed, and what a crash may leave at each moment of it.
use Rattle.std.specs.Prelude.{◌≡◌, ℕ, ◌+◌, ◌≤◌, min, List, [], ◌∷◌, ◌++◌, length, take, drop}
use Rattle.va_disk.specs.Crashes.{Torn}
use Rattle.va_disk.specs.declared.call.Call.{Call}
use Rattle.va_disk.specs.declared.call.Call.TheVariants.{Read, Write, Sync, Give}

-- the image of the last sync, the ranges written since, the image as read, what was given, and what was read
pub record State : Type 0 where
  pub stable : List ℕ
  pub pending : List (ℕ × ℕ)
  pub image : List ℕ
  pub given : List ℕ
  pub reads : List (ℕ × ℕ)

-- the image is stable, and nothing was given or read
abbrev pub started : List ℕ → State
started first = record { stable = first; pending = []; image = first; given = []; reads = [] }

-- the image with these bytes from there on
abbrev pub overwritten : List ℕ → ℕ → List ℕ → List ℕ
overwritten image at bytes = take at image ++ bytes ++ drop (at + length bytes) image

-- a write that would begin past the end begins at the end
abbrev pub step : State → Call → State
step s (Read at len) = record s { reads = s.reads ++ (at, len) ∷ [] }
step s (Write at bytes) = record s { pending = s.pending ++ (min at (length s.image), length bytes) ∷ []; image = overwritten s.image (min at (length s.image)) bytes }
step s Sync = record s { stable = s.image; pending = [] }
step s (Give bytes) = record s { given = s.given ++ bytes }

abbrev pub replay_from : State → List Call → State
replay_from s [] = s
replay_from s (call ∷ calls) = replay_from (step s call) calls

abbrev pub replay : List ℕ → List Call → State
replay first calls = replay_from (started first) calls

-- each range in turn may be torn
abbrev pub TornInTurn : List ℕ → List (ℕ × ℕ) → List ℕ → Type 0
TornInTurn stable [] outcome = outcome ≡ stable
TornInTurn stable (range ∷ later) outcome = (mid : List ℕ) × Torn range.0 range.1 stable mid × TornInTurn mid later outcome

-- the image of the last sync, with each range written since maybe torn
abbrev pub MayLeave : List ℕ → List Call → List ℕ → Type 0
MayLeave first calls outcome = let s = replay first calls in TornInTurn s.stable s.pending outcome

-- a crash after the first n calls, n being the moment or more
abbrev pub LeftSince : List ℕ → List Call → ℕ → List ℕ → List ℕ → Type 0
LeftSince first calls moment outcome given = (n : ℕ) × (moment ≤ n) × (n ≤ length calls) × MayLeave first (take n calls) outcome × (given ≡ (replay first (take n calls)).given)
