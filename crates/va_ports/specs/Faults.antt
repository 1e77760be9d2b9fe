-- What the faults of a search say.
use Rattle.std.specs.Prelude.{◌≡◌, ℕ, ◌≤◌, Result, OnOk, IfErr}
use Rattle.va_core.specs.Causes.{Rose}
use Rattle.va_ports.specs.declared.search.SearchFault.{SearchFault}
use Rattle.va_ports.specs.declared.search.SearchFault.TheVariants.{Memory, Shelf, Mismatch}

abbrev pub IfMemory : SearchFault → Type 0 → Type 0
IfMemory Memory P = P
IfMemory (Shelf fault) P = Unit {0}
IfMemory (Mismatch place dist low high) P = Unit {0}

abbrev pub IfShelf : SearchFault → Type 0 → Type 0
IfShelf Memory P = Unit {0}
IfShelf (Shelf fault) P = P
IfShelf (Mismatch place dist low high) P = Unit {0}

abbrev pub IfMismatch : SearchFault → (ℕ → ℕ → ℕ → ℕ → Type 0) → Type 0
IfMismatch Memory P = Unit {0}
IfMismatch (Shelf fault) P = Unit {0}
IfMismatch (Mismatch place dist low high) P = P place dist low high

-- the count of the shelf's faults rose where the shelf failed, and else it stayed
abbrev pub Counts : ℕ → ℕ → SearchFault → Type 0
Counts before now Memory = now ≡ before
Counts before now (Shelf fault) = Rose before now
Counts before now (Mismatch place dist low high) = now ≡ before

-- No fault of the shelf is made up, and none is passed over.
pub record CountsShelfFaults {T : Type 0} (before now : ℕ) (result : Result T SearchFault) : Type 0 where
  pub later : before ≤ now
  pub stayed : OnOk result (now ≡ before)
  pub rose : IfErr result (Counts before now)
