-- The text of a vector, as its first number and the others behind it.
use Rattle.std.proofs.Common.{◌≡◌, ℕ, ◌+◌, ◌<◌, ◌≤◌, List, [], ◌∷◌, ◌++◌, length, drop, get_or, decimal, ap, ◌∙◌, sym, append-nil, append_assoc, arith}
use Rattle.std.specs.List.{flat_map}
use Rattle.std.proofs.lemmas.List.{at_drop_all, at_drop_more}
use Rattle.va_script.specs.Script.{vector_text}

abbrev pub behind : ℕ → List ℕ
behind n = 44 ∷ decimal n

joined : (n : ℕ) (numbers : List ℕ) → decimal n ++ flat_map behind numbers ≡ vector_text (n ∷ numbers)
joined n [] = append-nil (decimal n)
joined n (m ∷ numbers) = ap (λ (l : List ℕ). decimal n ++ 44 ∷ l) (joined m numbers)

-- the first number stands behind a text
pub begun : (text numbers : List ℕ) → 1 ≤ length numbers →
    (text ++ decimal (get_or numbers 0 0)) ++ flat_map behind (drop 1 numbers) ≡ text ++ vector_text numbers
begun text [] some = absurd (omega arith)
begun text (n ∷ numbers) some =
    append_assoc text (decimal n) (flat_map behind numbers) ∙ ap (λ (l : List ℕ). text ++ l) (joined n numbers)

-- a number more
pub more : (text numbers whole : List ℕ) (place : ℕ) → place < length numbers →
    text ++ flat_map behind (drop place numbers) ≡ whole →
    ((text ++ 44 ∷ []) ++ decimal (get_or numbers place 0)) ++ flat_map behind (drop (place + 1) numbers) ≡ whole
more text numbers whole place less e =
    let number = get_or numbers place 0 in
    let left = flat_map behind (drop (place + 1) numbers) in
    append_assoc (text ++ 44 ∷ []) (decimal number) left
    ∙ append_assoc text (44 ∷ []) (decimal number ++ left)
    ∙ ap (λ (l : List ℕ). text ++ l) (sym (at_drop_more (flat_map behind) numbers place 0 less))
    ∙ e

-- no number is left
pub spent : (text numbers whole : List ℕ) (place : ℕ) → length numbers ≤ place →
    text ++ flat_map behind (drop place numbers) ≡ whole → text ≡ whole
spent text numbers whole place all e =
    sym (append-nil text) ∙ ap (λ (l : List ℕ). text ++ l) (sym (at_drop_all (flat_map behind) numbers place all)) ∙ e
