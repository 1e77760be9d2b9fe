-- How an input is cut into lines, and which of them a run came to.
use Rattle.std.specs.Prelude.{◌≡◌, ◌⊎◌, ℕ, List, [], map}
use Rattle.va_disk.specs.Told.{IsAtEnd}
use Rattle.va_model.specs.Lines.{Line, ended_lines, line_of, lines}

-- the lines that ended in some bytes of an input, and those of a whole input
pub record Cut : Type 0 where
  pub ended : List ℕ → List Line
  pub whole : List ℕ → List Line

abbrev pub at_newlines : Cut
at_newlines = record { ended = ended_lines; whole = lines }

-- lines that are known once the whole input was taken, and none before
abbrev pub once_taken : (List ℕ → List (List ℕ)) → Cut
once_taken parts = record { ended = λ bytes. []; whole = λ bytes. map line_of (parts bytes) }

-- The lines of the bytes that were taken: those that ended, and where the end of the input was reached all of them.
abbrev pub AreTaken : Cut → Type 0 → List ℕ → List ℕ → List Line → Type 0
AreTaken cut source bytes left all = (all ≡ cut.ended bytes) ⊎ (IsAtEnd source left × (all ≡ cut.whole bytes))
