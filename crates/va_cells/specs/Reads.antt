-- A range that is read in pieces.
use Rattle.std.specs.Prelude.{◌≡◌, ℕ, ◌+◌, ◌-◌, ◌<◌, min, List, [], ◌∷◌, ◌++◌}
use Rattle.va_disk.specs.declared.storage.Storage.{Ghosts}

-- The pieces of a range from one offset to another, in order and each once: so many bytes each, and what is left of
-- the range where that is fewer.
abbrev pub ArePieces : ℕ → ℕ → ℕ → ℕ → List (ℕ × ℕ) → Type 0
ArePieces most end from to [] = from ≡ to
ArePieces most end from to (read ∷ reads) = (from < end) × (read ≡ (from, min most (end - from))) × ArePieces most end (from + read.1) to reads

-- the disk gained the reads of these pieces, and no others
pub record ReadsRange {D : Type 0} (g : Ghosts D) (most end from to : ℕ) (old new : D) : Type 0 where
  pub pieces : List (ℕ × ℕ)
  pub are : ArePieces most end from to pieces
  pub added : g.told → g.reads new ≡ g.reads old ++ pieces

-- a range of n bytes was read whole, in pieces of at most 4,096 bytes
abbrev pub ReadsWhole : {D : Type 0} → Ghosts D → ℕ → ℕ → D → D → Type 0
ReadsWhole g at n old new = ReadsRange g 4096 (at + n) at (at + n) old new

-- none, some or all of these reads were made, the first of them first
abbrev pub ReadsFront : {D : Type 0} → Ghosts D → ℕ → ℕ → D → D → Type 0
ReadsFront g at n old new = (to : ℕ) × ReadsRange g 4096 (at + n) at to old new
