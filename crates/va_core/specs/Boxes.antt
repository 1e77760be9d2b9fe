-- Boxes of vectors, and the least and the greatest value of a distance over all vectors of a box.
use Rattle.std.specs.Prelude.{ℕ, zero, suc, ◌-◌, ◌≤◌, min, max, List, [], ◌∷◌, ◌==◌, map, if◌then◌else◌}
use Rattle.std.specs.List.{flat_map}

-- the values from low to high
pub record Span : Type 0 where
  pub low : ℕ
  pub high : ℕ

-- the vector lies between the ends of the box in each dimension
abbrev pub Lies : List Span → List ℕ → Type 0
Lies [] [] = Unit {0}
Lies [] (v ∷ x) = ⊥
Lies (s ∷ box) [] = ⊥
Lies (s ∷ box) (v ∷ x) = (s.low ≤ v) × (v ≤ s.high) × Lies box x

-- so many numbers from the first on
abbrev pub numbers : ℕ → ℕ → List ℕ
numbers first zero = []
numbers first (suc n) = first ∷ numbers (suc first) n

-- all vectors of a box, in lexicographic order
abbrev pub vectors : List Span → List (List ℕ)
vectors [] = [] ∷ []
vectors (s ∷ box) = flat_map (λ v. map (λ x. v ∷ x) (vectors box)) (numbers s.low (suc s.high - s.low))

abbrev pub least_with : (List ℕ → ℕ) → ℕ → List (List ℕ) → ℕ
least_with f n [] = n
least_with f n (x ∷ xs) = min (f x) (least_with f n xs)

-- the least f of the vectors of a list that isn't empty
abbrev pub least_of : (List ℕ → ℕ) → List (List ℕ) → ℕ
least_of f [] = 0
least_of f (x ∷ xs) = least_with f (f x) xs

abbrev pub greatest_with : (List ℕ → ℕ) → ℕ → List (List ℕ) → ℕ
greatest_with f n [] = n
greatest_with f n (x ∷ xs) = max (f x) (greatest_with f n xs)

abbrev pub greatest_of : (List ℕ → ℕ) → List (List ℕ) → ℕ
greatest_of f [] = 0
greatest_of f (x ∷ xs) = greatest_with f (f x) xs

-- the first of the vectors at which f is n
abbrev pub first_at : (List ℕ → ℕ) → ℕ → List (List ℕ) → List ℕ
first_at f n [] = []
first_at f n (x ∷ xs) = if f x == n then x else first_at f n xs

unfoldable pub low_of : (List ℕ → ℕ) → List Span → ℕ
low_of f box = least_of f (vectors box)

unfoldable pub high_of : (List ℕ → ℕ) → List Span → ℕ
high_of f box = greatest_of f (vectors box)

unfoldable pub lowest : (List ℕ → ℕ) → List Span → List ℕ
lowest f box = first_at f (low_of f box) (vectors box)

unfoldable pub highest : (List ℕ → ℕ) → List Span → List ℕ
highest f box = first_at f (high_of f box) (vectors box)

-- the box between these ends
abbrev pub box_between : List ℕ → List ℕ → List Span
box_between [] highs = []
box_between (l ∷ lows) [] = []
box_between (l ∷ lows) (h ∷ highs) = record { low = l; high = h } ∷ box_between lows highs

-- the vector of a box that shows that a vector of it must be known: the lowest, or the highest where it is at the least distance
abbrev pub substitute : (List ℕ → ℕ) → List Span → List ℕ → List ℕ
substitute f box x = if f x == low_of f box then highest f box else lowest f box
