-- A line, field by field.
use Rattle.std.proofs.Common.{◌≡◌, ℕ, zero, suc, ◌+◌, ◌<◌, List, [], ◌∷◌, ◌++◌, length, drop, refl, ap, sym, ◌∙◌, append_assoc, add-one, arith, codes}
use Rattle.std.proofs.lemmas.List.{append-nil}
use Rattle.std.specs.Prelude.{unwrap_or}
use Rattle.std.specs.List.{flat_map, join_with_byte}
use Rattle.csv.specs.Records.{field_at}
use Rattle.va_csv.specs.Lines.{line_of}

-- the coordinates behind the first one
abbrev pub behind : List (List ℕ) → List ℕ
behind = flat_map (λ field. 44 ∷ field)

abbrev pub field_or_none : List (List ℕ) → ℕ → List ℕ
field_or_none fields place = unwrap_or (field_at fields place) []

joined : (first : List ℕ) (rest : List (List ℕ)) → first ++ behind rest ≡ join_with_byte 44 (first ∷ rest)
joined first [] = append-nil first
joined first (next ∷ rest) = ap (λ t. first ++ 44 ∷ t) (joined next rest)

-- what stands before the second coordinate
pub begun : (fields : List (List ℕ))
    → (((codes "insert " ++ field_or_none fields 0) ++ 32 ∷ []) ++ field_or_none fields 1) ++ behind (drop 2 fields) ≡ line_of fields
unfolding field_at
begun [] = refl
begun (id ∷ []) =
    append-nil _ ∙ append-nil _ ∙ append_assoc (codes "insert ") id (32 ∷ [])
begun (id ∷ first ∷ rest) =
    append_assoc ((codes "insert " ++ id) ++ 32 ∷ []) first (behind rest)
    ∙ append_assoc (codes "insert " ++ id) (32 ∷ []) (first ++ behind rest)
    ∙ append_assoc (codes "insert ") id (32 ∷ (first ++ behind rest))
    ∙ ap (λ t. codes "insert " ++ (id ++ 32 ∷ t)) (joined first rest)

-- the coordinate at a place, and those behind it
next : (fields : List (List ℕ)) (place : ℕ) → place < length fields →
    behind (drop place fields) ≡ (44 ∷ field_or_none fields place) ++ behind (drop (suc place) fields)
unfolding field_at
next [] place less = absurd (omega arith)
next (field ∷ fields) zero less = refl
next (field ∷ fields) (suc place) less = next fields place (omega arith)

-- a coordinate more
pub more : (fields : List (List ℕ)) (place : ℕ) (line whole : List ℕ) → place < length fields →
    line ++ behind (drop place fields) ≡ whole →
    ((line ++ 44 ∷ []) ++ field_or_none fields place) ++ behind (drop (place + 1) fields) ≡ whole
more fields place line whole less e =
    let field = field_or_none fields place in
    rw (add-one place) (append_assoc (line ++ 44 ∷ []) field (behind (drop (suc place) fields))
    ∙ append_assoc line (44 ∷ []) (field ++ behind (drop (suc place) fields))
    ∙ ap (λ t. line ++ t) (sym (next fields place less)) ∙ e)
