-- Texts as lists of bytes.
use Rattle.std.specs.Prelude.{◌≡◌, ℕ, Bool, true, List, [], ◌∷◌, ◌&&◌, ◌==◌, not}

-- whether a text has no such byte
abbrev pub lacks : ℕ → List ℕ → Bool
lacks byte [] = true
lacks byte (b ∷ bytes) = not (b == byte) && lacks byte bytes

-- no byte is a newline
abbrev pub IsOneLine : List ℕ → Type 0
IsOneLine text = lacks 10 text ≡ true
