-- The lines of an input.
use Rattle.std.specs.Prelude.{ℕ, List, [], ◌∷◌, ◌++◌, length, map, nat_le, ◌==◌, if◌then◌else◌}

-- a line, or one that is too long to be run
pub data Line : Type 0 where
  long : Line
  text : List ℕ → Line

abbrev pub line_of : List ℕ → Line
line_of part = if nat_le (length part) 65535 then text part else long

-- a list of bytes, cut at its newlines
pub record Parts : Type 0 where
  -- the parts that end at a newline, without it
  pub ended : List (List ℕ)
  -- what follows the last newline
  pub rest : List ℕ

-- the byte stands before the first part
abbrev pub onto : ℕ → List (List ℕ) → List ℕ → Parts
onto b [] rest = record { ended = []; rest = b ∷ rest }
onto b (part ∷ parts) rest = record { ended = (b ∷ part) ∷ parts; rest = rest }

abbrev pub parts : List ℕ → Parts
parts [] = record { ended = []; rest = [] }
parts (b ∷ bytes) =
    if b == 10 then record { ended = [] ∷ (parts bytes).ended; rest = (parts bytes).rest }
    else onto b (parts bytes).ended (parts bytes).rest

-- the lines that end at a newline
abbrev pub ended_lines : List ℕ → List Line
ended_lines bytes = map line_of (parts bytes).ended

-- the last line, if it has a byte
abbrev pub last_line : List ℕ → List Line
last_line [] = []
last_line (b ∷ bytes) = line_of (b ∷ bytes) ∷ []

-- the lines of a whole input
abbrev pub lines : List ℕ → List Line
lines bytes = ended_lines bytes ++ last_line (parts bytes).rest
