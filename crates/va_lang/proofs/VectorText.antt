-- A list of numbers, as its first number and the others behind it.
use Rattle.std.proofs.Common.{◌≡◌, ℕ, ◌≤◌, List, [], ◌∷◌, ◌++◌, length, drop, get_or, decimal, ap, ◌∙◌, append-nil, append_assoc, arith}
use Rattle.std.specs.List.{flat_map}
use Rattle.va_lang.specs.Spelling.{list_text}

abbrev pub behind : ℕ → List ℕ
behind n = 44 ∷ decimal n

list_after : (n : ℕ) (numbers : List ℕ) → decimal n ++ flat_map behind numbers ≡ list_text (n ∷ numbers)
list_after n [] = append-nil (decimal n)
list_after n (m ∷ numbers) = ap (λ (l : List ℕ). decimal n ++ 44 ∷ l) (list_after m numbers)

pub first_and_others : (numbers : List ℕ) → 1 ≤ length numbers → decimal (get_or numbers 0 0) ++ flat_map behind (drop 1 numbers) ≡ list_text numbers
first_and_others [] some = absurd (omega arith)
first_and_others (n ∷ numbers) some = list_after n numbers

-- a text with the first number and the others behind it
pub list_behind : (text now numbers : List ℕ) (first : ℕ) → now ≡ text ++ decimal first → first ≡ get_or numbers 0 0 → 1 ≤ length numbers →
    now ++ flat_map behind (drop 1 numbers) ≡ text ++ list_text numbers
list_behind text now numbers first is same some =
    rw (is, same) (append_assoc text (decimal (get_or numbers 0 0)) (flat_map behind (drop 1 numbers)) ∙ ap (λ (l : List ℕ). text ++ l) (first_and_others numbers some))
