-- The line that is open while bytes come in.
use Rattle.std.specs.Prelude.{ℕ, Bool, true, false, List, [], ◌∷◌, ◌++◌, ◌==◌, if◌then◌else◌}
use Rattle.va_model.specs.Lines.{Line, long, text, line_of}

-- the line with a byte more, while it is open
abbrev pub extended : Line → ℕ → Line
extended long b = long
extended (text bytes) b = line_of (bytes ++ b ∷ [])

-- the lines that end by this byte, where the open line is this one
abbrev pub ended_by : ℕ → Line → List Line
ended_by b line = if b == 10 then line ∷ [] else []

-- the open line after this byte
abbrev pub open_after : ℕ → Line → Line
open_after b line = if b == 10 then text [] else extended line b

-- the lines that end in these bytes, where the open line is this one
abbrev pub ended_in : Line → List ℕ → List Line
ended_in line [] = []
ended_in line (b ∷ bytes) = ended_by b line ++ ended_in (open_after b line) bytes

-- the open line after these bytes
abbrev pub open_in : Line → List ℕ → Line
open_in line [] = line
open_in line (b ∷ bytes) = open_in (open_after b line) bytes

-- what a buffer of a line stands for
abbrev pub buffered : Bool → List ℕ → Line
buffered true bytes = long
buffered false bytes = text bytes
