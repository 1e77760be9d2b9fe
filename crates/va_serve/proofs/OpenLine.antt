-- What a byte more does to the lines of a list of bytes.
use Rattle.std.proofs.Common.{◌≡◌, ℕ, ◌<◌, Bool, true, false, List, [], ◌∷◌, ◌++◌, length, map, eqb, leb, if◌then◌else◌, refl, ap, sym, ◌∙◌, arith, length-append, append-nil}
use Rattle.std.proofs.lemmas.List.{map-append}
use Rattle.std.proofs.lemmas.Bool.{leb-false, lt-leb}
use Rattle.va_model.specs.Lines.{long, text, line_of, Parts, parts, onto, ended_lines}
use Rattle.va_serve.specs.OpenLine.{extended, ended_by, open_after}

onto_newline : (b : ℕ) (es : List (List ℕ)) (r : List ℕ) →
    onto b (es ++ r ∷ []) [] ≡ record { ended = (onto b es r).ended ++ (onto b es r).rest ∷ []; rest = [] }
onto_newline b [] r = refl
onto_newline b (e ∷ es) r = refl

onto_other : (a b : ℕ) (es : List (List ℕ)) (r : List ℕ) →
    onto a es (r ++ b ∷ []) ≡ record { ended = (onto a es r).ended; rest = (onto a es r).rest ++ b ∷ [] }
onto_other a b [] r = refl
onto_other a b (e ∷ es) r = refl

-- the parts with a byte before them, by whether it is a newline
abbrev before_parts : Bool → ℕ → Parts → Parts
before_parts c a p = if c then record { ended = [] ∷ p.ended; rest = p.rest } else onto a p.ended p.rest

abbrev newline_more : Parts → Parts
newline_more p = record { ended = p.ended ++ p.rest ∷ []; rest = [] }

abbrev other_more : ℕ → Parts → Parts
other_more b p = record { ended = p.ended; rest = p.rest ++ b ∷ [] }

newline_step : (c : Bool) (a : ℕ) (p : Parts) → before_parts c a (newline_more p) ≡ newline_more (before_parts c a p)
newline_step true a p = refl
newline_step false a p = onto_newline a p.ended p.rest

other_step : (c : Bool) (a b : ℕ) (p : Parts) → before_parts c a (other_more b p) ≡ other_more b (before_parts c a p)
other_step true a b p = refl
other_step false a b p = onto_other a b p.ended p.rest

parts_newline : (t : List ℕ) (b : ℕ) → eqb b 10 ≡ true → parts (t ++ b ∷ []) ≡ newline_more (parts t)
parts_newline [] b e = rw e refl
parts_newline (a ∷ t) b e = ap (before_parts (eqb a 10) a) (parts_newline t b e) ∙ newline_step (eqb a 10) a (parts t)

parts_other : (t : List ℕ) (b : ℕ) → eqb b 10 ≡ false → parts (t ++ b ∷ []) ≡ other_more b (parts t)
parts_other [] b e = rw e refl
parts_other (a ∷ t) b e = ap (before_parts (eqb a 10) a) (parts_other t b e) ∙ other_step (eqb a 10) a b (parts t)

extended_at : (c : Bool) (r : List ℕ) (b : ℕ) → leb (length r) 65535 ≡ c →
    extended (if c then text r else long) b ≡ line_of (r ++ b ∷ [])
extended_at true r b e = refl
extended_at false r b e =
    let above : 65535 < length (r ++ b ∷ []) = omega (arith, length-append r (b ∷ []), leb-false (length r) 65535 e) in
    rw (lt-leb (length (r ++ b ∷ [])) 65535 above) refl

extended_line : (r : List ℕ) (b : ℕ) → extended (line_of r) b ≡ line_of (r ++ b ∷ [])
extended_line r b = extended_at (leb (length r) 65535) r b refl

ended_at : (c : Bool) (t : List ℕ) (b : ℕ) → eqb b 10 ≡ c →
    ended_lines (t ++ b ∷ []) ≡ ended_lines t ++ (if c then line_of (parts t).rest ∷ [] else [])
ended_at true t b e = ap (λ (p : Parts). map line_of p.ended) (parts_newline t b e) ∙ map-append line_of (parts t).ended ((parts t).rest ∷ [])
ended_at false t b e = ap (λ (p : Parts). map line_of p.ended) (parts_other t b e) ∙ sym (append-nil (ended_lines t))

-- the lines that end by a byte more are those that it ends
pub ended_lines_more : (t : List ℕ) (b : ℕ) → ended_lines (t ++ b ∷ []) ≡ ended_lines t ++ ended_by b (line_of (parts t).rest)
ended_lines_more t b = ended_at (eqb b 10) t b refl

open_at : (c : Bool) (t : List ℕ) (b : ℕ) → eqb b 10 ≡ c →
    line_of (parts (t ++ b ∷ [])).rest ≡ (if c then text [] else extended (line_of (parts t).rest) b)
open_at true t b e = ap (λ (p : Parts). line_of p.rest) (parts_newline t b e)
open_at false t b e = ap (λ (p : Parts). line_of p.rest) (parts_other t b e) ∙ sym (extended_line (parts t).rest b)

-- the open line with a byte more
pub open_line_more : (t : List ℕ) (b : ℕ) → line_of (parts (t ++ b ∷ [])).rest ≡ open_after b (line_of (parts t).rest)
open_line_more t b = open_at (eqb b 10) t b refl
