-- The lines of bytes that come in pieces.
use Rattle.std.proofs.Common.{◌≡◌, ℕ, List, [], ◌∷◌, ◌++◌, ap, sym, ◌∙◌, append_assoc, append-nil}
use Rattle.va_model.specs.Lines.{Line, line_of, parts, ended_lines}
use Rattle.va_serve.specs.OpenLine.{ended_by, ended_in, open_after, open_in}
use Rattle.va_serve.proofs.OpenLine.{ended_lines_more, open_line_more}

-- the lines that end in more bytes come behind those that ended
pub ended_append : (taken piece : List ℕ) → ended_lines (taken ++ piece) ≡ ended_lines taken ++ ended_in (line_of (parts taken).rest) piece
ended_append taken [] = ap ended_lines (append-nil taken) ∙ sym (append-nil (ended_lines taken))
ended_append taken (b ∷ piece) =
    let line = line_of (parts taken).rest in
    ap ended_lines (sym (append_assoc taken (b ∷ []) piece))
    ∙ ended_append (taken ++ b ∷ []) piece
    ∙ ap (λ (ls : List Line). ls ++ ended_in (line_of (parts (taken ++ b ∷ [])).rest) piece) (ended_lines_more taken b)
    ∙ ap (λ (l : Line). (ended_lines taken ++ ended_by b line) ++ ended_in l piece) (open_line_more taken b)
    ∙ append_assoc (ended_lines taken) (ended_by b line) (ended_in (open_after b line) piece)

pub open_append : (taken piece : List ℕ) → line_of (parts (taken ++ piece)).rest ≡ open_in (line_of (parts taken).rest) piece
open_append taken [] = ap (λ (bytes : List ℕ). line_of (parts bytes).rest) (append-nil taken)
open_append taken (b ∷ piece) =
    ap (λ (bytes : List ℕ). line_of (parts bytes).rest) (sym (append_assoc taken (b ∷ []) piece))
    ∙ open_append (taken ++ b ∷ []) piece
    ∙ ap (λ (l : Line). open_in l piece) (open_line_more taken b)
