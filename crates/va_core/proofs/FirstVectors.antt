-- The first vector of a box at the least sum of parts has the first value of the least part in each dimension.
use Rattle.std.proofs.Common.{◌≡◌, ℕ, zero, suc, ◌+◌, ◌-◌, ◌<◌, ◌≤◌, Bool, true, false, List, [], ◌∷◌, ◌++◌, map, length, eqb, ltb, if◌then◌else◌, refl, ap, sym, ◌∙◌, inl, inr, arith}
use Rattle.std.specs.Prelude.{min, max}
use Rattle.std.specs.List.{flat_map, AllByRecursion}
use Rattle.std.proofs.lemmas.Bool.Decides.{nat_tests}
use Rattle.va_core.specs.Boxes.{Span, Lies, numbers, vectors, first_at, low_of, high_of, lowest, highest}
use Rattle.va_core.specs.Parts.{joined, least_part, greatest_part, least_value, greatest_value, joined_least, joined_greatest, least_values, greatest_values, HasVectors}
use Rattle.va_core.proofs.Members.{IsAmong}
use Rattle.va_core.proofs.Boxes.{IsAttained, in_vectors, vectors_lie, low_least, high_greatest, lowest_found, highest_found}
use Rattle.va_core.proofs.PartBounds.{least_values_lie, greatest_values_lie, low_is_joined, high_is_joined}
use Rattle.va_core.proofs.DistanceBounds.{sum_is_join}
use Rattle.va_core.specs.DistanceParts.{added}

-- no vector of the list has the value
abbrev pub NoneAt : (List ℕ → ℕ) → ℕ → List (List ℕ) → Type 0
NoneAt f n xs = AllByRecursion (λ x. f x ≡ n → ⊥) xs

first_left : (f : List ℕ → ℕ) (n : ℕ) (xs ys : List (List ℕ)) → IsAttained f n xs → first_at f n (xs ++ ys) ≡ first_at f n xs
first_left f n [] ys h = absurd h
first_left f n (x ∷ xs) ys (inl e) = let t : eqb (f x) n ≡ true = grind (arith, nat_tests) in rw t refl
first_left f n (x ∷ xs) ys (inr h) = elim (eqb (f x) n) as (λ c. (if c then x else first_at f n (xs ++ ys)) ≡ (if c then x else first_at f n xs)) [ true ↦ refl | false ↦ first_left f n xs ys h ]

first_right : (f : List ℕ → ℕ) (n : ℕ) (xs ys : List (List ℕ)) → NoneAt f n xs → first_at f n (xs ++ ys) ≡ first_at f n ys
first_right f n [] ys h = refl
first_right f n (x ∷ xs) ys h = let ne : f x ≡ n → ⊥ = h.0 in let t : eqb (f x) n ≡ false = grind (arith, nat_tests) in rw t (first_right f n xs ys h.1)

-- the block of the vectors that begin with v, under a value that is p and a rest
block_tests : (a b c : ℕ) → eqb (a + b) (a + c) ≡ eqb b c
block_tests a b c = grind (arith, nat_tests)

first_block : (f g : List ℕ → ℕ) (p v l n : ℕ) (xs : List (List ℕ)) → ((x : List ℕ) → f (v ∷ x) ≡ p + g x) → n ≡ p + l → IsAttained g l xs → first_at f n (map (λ x. v ∷ x) xs) ≡ v ∷ first_at g l xs
first_block f g p v l n [] is e h = absurd h
first_block f g p v l n (x ∷ xs) is e (inl h) = let t : eqb (f (v ∷ x)) n ≡ true = rw (is x, e, h) (let s : eqb (p + l) (p + l) ≡ true = grind (arith, nat_tests) in s) in let u : eqb (g x) l ≡ true = grind (arith, nat_tests) in rw (t, u) refl
first_block f g p v l n (x ∷ xs) is e (inr h) = let same : eqb (f (v ∷ x)) n ≡ eqb (g x) l = rw (is x, e) (block_tests p (g x) l) in let rest : first_at f n (map (λ y. v ∷ y) xs) ≡ v ∷ first_at g l xs = first_block f g p v l n xs is e h in
    rw same (elim (eqb (g x) l) as (λ c. (if c then v ∷ x else first_at f n (map (λ y. v ∷ y) xs)) ≡ v ∷ (if c then x else first_at g l xs)) [ true ↦ refl | false ↦ rest ])

block_attained : (f g : List ℕ → ℕ) (p v l n : ℕ) (xs : List (List ℕ)) → ((x : List ℕ) → f (v ∷ x) ≡ p + g x) → n ≡ p + l → IsAttained g l xs → IsAttained f n (map (λ x. v ∷ x) xs)
block_attained f g p v l n [] is e h = absurd h
block_attained f g p v l n (x ∷ xs) is e (inl h) = inl (is x ∙ (ap (λ (m : ℕ). p + m) h ∙ sym e))
block_attained f g p v l n (x ∷ xs) is e (inr h) = inr (block_attained f g p v l n xs is e h)

block_none : (f g : List ℕ → ℕ) (p v l n : ℕ) (xs : List (List ℕ)) → ((x : List ℕ) → f (v ∷ x) ≡ p + g x) → n < p + l → AllByRecursion (λ x. l ≤ g x) xs → NoneAt f n (map (λ x. v ∷ x) xs)
block_none f g p v l n [] is e h = tt
block_none f g p v l n (x ∷ xs) is e h = (λ s. let a : f (v ∷ x) ≡ p + g x = is x in let b : l ≤ g x = h.0 in absurd (omega (arith, a, b, e, s)), block_none f g p v l n xs is e h.1)

first_numbers : (f g : List ℕ → ℕ) (p : ℕ → ℕ) (l : ℕ) (xs : List (List ℕ)) → ((v : ℕ) (x : List ℕ) → f (v ∷ x) ≡ p v + g x) → IsAttained g l xs → AllByRecursion (λ x. l ≤ g x) xs → (first m : ℕ) →
    first_at f (least_part p first m + l) (flat_map (λ v. map (λ x. v ∷ x) xs) (numbers first (suc m))) ≡ least_value p first m ∷ first_at g l xs
first_numbers f g p l xs is at low first zero =
    first_left f (p first + l) (map (λ x. first ∷ x) xs) [] (block_attained f g (p first) first l (p first + l) xs (is first) refl at)
    ∙ first_block f g (p first) first l (p first + l) xs (is first) refl at
first_numbers f g p l xs is at low first (suc m) = elim (ltb (least_part p (suc first) m) (p first)) as (λ c. ltb (least_part p (suc first) m) (p first) ≡ c →
    first_at f (min (p first) (least_part p (suc first) m) + l) (flat_map (λ v. map (λ x. v ∷ x) xs) (numbers first (suc (suc m)))) ≡ (if c then least_value p (suc first) m else first) ∷ first_at g l xs) [
      | true ↦ λ e. let h : least_part p (suc first) m < p first = grind (arith, nat_tests, e) in
          let same : min (p first) (least_part p (suc first) m) ≡ least_part p (suc first) m = omega (arith, h) in
          let none : NoneAt f (least_part p (suc first) m + l) (map (λ x. first ∷ x) xs) = block_none f g (p first) first l (least_part p (suc first) m + l) xs (is first) (omega (arith, h)) low in
          ap (λ (n : ℕ). first_at f (n + l) (flat_map (λ v. map (λ x. v ∷ x) xs) (numbers first (suc (suc m))))) same
          ∙ (first_right f (least_part p (suc first) m + l) (map (λ x. first ∷ x) xs) (flat_map (λ v. map (λ x. v ∷ x) xs) (numbers (suc first) (suc m))) none
          ∙ first_numbers f g p l xs is at low (suc first) m)
      | false ↦ λ e. let h : p first ≤ least_part p (suc first) m = grind (arith, nat_tests, e) in
          let same : min (p first) (least_part p (suc first) m) ≡ p first = omega (arith, h) in
          ap (λ (n : ℕ). first_at f (n + l) (flat_map (λ v. map (λ x. v ∷ x) xs) (numbers first (suc (suc m))))) same
          ∙ (first_left f (p first + l) (map (λ x. first ∷ x) xs) (flat_map (λ v. map (λ x. v ∷ x) xs) (numbers (suc first) (suc m))) (block_attained f g (p first) first l (p first + l) xs (is first) refl at)
          ∙ first_block f g (p first) first l (p first + l) xs (is first) refl at)
    ] refl

-- the same for the greatest
block_none_above : (f g : List ℕ → ℕ) (p v l n : ℕ) (xs : List (List ℕ)) → ((x : List ℕ) → f (v ∷ x) ≡ p + g x) → p + l < n → AllByRecursion (λ x. g x ≤ l) xs → NoneAt f n (map (λ x. v ∷ x) xs)
block_none_above f g p v l n [] is e h = tt
block_none_above f g p v l n (x ∷ xs) is e h = (λ s. let a : f (v ∷ x) ≡ p + g x = is x in let b : g x ≤ l = h.0 in absurd (omega (arith, a, b, e, s)), block_none_above f g p v l n xs is e h.1)

first_numbers_above : (f g : List ℕ → ℕ) (p : ℕ → ℕ) (l : ℕ) (xs : List (List ℕ)) → ((v : ℕ) (x : List ℕ) → f (v ∷ x) ≡ p v + g x) → IsAttained g l xs → AllByRecursion (λ x. g x ≤ l) xs → (first m : ℕ) →
    first_at f (greatest_part p first m + l) (flat_map (λ v. map (λ x. v ∷ x) xs) (numbers first (suc m))) ≡ greatest_value p first m ∷ first_at g l xs
first_numbers_above f g p l xs is at low first zero =
    first_left f (p first + l) (map (λ x. first ∷ x) xs) [] (block_attained f g (p first) first l (p first + l) xs (is first) refl at)
    ∙ first_block f g (p first) first l (p first + l) xs (is first) refl at
first_numbers_above f g p l xs is at low first (suc m) = elim (ltb (p first) (greatest_part p (suc first) m)) as (λ c. ltb (p first) (greatest_part p (suc first) m) ≡ c →
    first_at f (max (p first) (greatest_part p (suc first) m) + l) (flat_map (λ v. map (λ x. v ∷ x) xs) (numbers first (suc (suc m)))) ≡ (if c then greatest_value p (suc first) m else first) ∷ first_at g l xs) [
      | true ↦ λ e. let h : p first < greatest_part p (suc first) m = grind (arith, nat_tests, e) in
          let same : max (p first) (greatest_part p (suc first) m) ≡ greatest_part p (suc first) m = omega (arith, h) in
          let none : NoneAt f (greatest_part p (suc first) m + l) (map (λ x. first ∷ x) xs) = block_none_above f g (p first) first l (greatest_part p (suc first) m + l) xs (is first) (omega (arith, h)) low in
          ap (λ (n : ℕ). first_at f (n + l) (flat_map (λ v. map (λ x. v ∷ x) xs) (numbers first (suc (suc m))))) same
          ∙ (first_right f (greatest_part p (suc first) m + l) (map (λ x. first ∷ x) xs) (flat_map (λ v. map (λ x. v ∷ x) xs) (numbers (suc first) (suc m))) none
          ∙ first_numbers_above f g p l xs is at low (suc first) m)
      | false ↦ λ e. let h : greatest_part p (suc first) m ≤ p first = grind (arith, nat_tests, e) in
          let same : max (p first) (greatest_part p (suc first) m) ≡ p first = omega (arith, h) in
          ap (λ (n : ℕ). first_at f (n + l) (flat_map (λ v. map (λ x. v ∷ x) xs) (numbers first (suc (suc m))))) same
          ∙ (first_left f (p first + l) (map (λ x. first ∷ x) xs) (flat_map (λ v. map (λ x. v ∷ x) xs) (numbers (suc first) (suc m))) (block_attained f g (p first) first l (p first + l) xs (is first) refl at)
          ∙ first_block f g (p first) first l (p first + l) xs (is first) refl at)
    ] refl

-- a sum from another beginning
joined_from : (a b : ℕ) (parts : List (ℕ → ℕ)) (x : List ℕ) → joined added (a + b) parts x ≡ b + joined added a parts x
joined_from a b [] x = omega arith
joined_from a b (p ∷ parts) [] = omega arith
joined_from a b (p ∷ parts) (v ∷ x) = let e : (a + b) + p v ≡ (a + p v) + b = omega arith in ap (λ (n : ℕ). joined added n parts x) e ∙ joined_from (a + p v) b parts x

least_from : (a b : ℕ) (parts : List (ℕ → ℕ)) (box : List Span) → joined_least added (a + b) parts box ≡ b + joined_least added a parts box
least_from a b [] box = omega arith
least_from a b (p ∷ parts) [] = omega arith
least_from a b (p ∷ parts) (s ∷ box) = let m = least_part p s.low (s.high - s.low) in let e : (a + b) + least_part p s.low (s.high - s.low) ≡ (a + least_part p s.low (s.high - s.low)) + b = omega arith in
    ap (λ (n : ℕ). joined_least added n parts box) e ∙ least_from (a + m) b parts box

greatest_from : (a b : ℕ) (parts : List (ℕ → ℕ)) (box : List Span) → joined_greatest added (a + b) parts box ≡ b + joined_greatest added a parts box
greatest_from a b [] box = omega arith
greatest_from a b (p ∷ parts) [] = omega arith
greatest_from a b (p ∷ parts) (s ∷ box) = let m = greatest_part p s.low (s.high - s.low) in let e : (a + b) + greatest_part p s.low (s.high - s.low) ≡ (a + greatest_part p s.low (s.high - s.low)) + b = omega arith in
    ap (λ (n : ℕ). joined_greatest added n parts box) e ∙ greatest_from (a + m) b parts box

all_least : (f : List ℕ → ℕ) (l : ℕ) (xs : List (List ℕ)) → ((x : List ℕ) → IsAmong x xs → l ≤ f x) → AllByRecursion (λ x. l ≤ f x) xs
all_least f l [] h = tt
all_least f l (x ∷ xs) h = (h x (inl refl), all_least f l xs (λ y g. h y (inr g)))

all_greatest : (f : List ℕ → ℕ) (l : ℕ) (xs : List (List ℕ)) → ((x : List ℕ) → IsAmong x xs → f x ≤ l) → AllByRecursion (λ x. f x ≤ l) xs
all_greatest f l [] h = tt
all_greatest f l (x ∷ xs) h = (h x (inl refl), all_greatest f l xs (λ y g. h y (inr g)))

attained_at : (f : List ℕ → ℕ) (n : ℕ) (x : List ℕ) (xs : List (List ℕ)) → IsAmong x xs → f x ≡ n → IsAttained f n xs
attained_at f n x [] h e = absurd h
attained_at f n x (y ∷ xs) (inl s) e = inl (ap f (sym s) ∙ e)
attained_at f n x (y ∷ xs) (inr h) e = inr (attained_at f n x xs h e)

same_either : (c : Bool) (x : List ℕ) → (if c then x else x) ≡ x
same_either true x = refl
same_either false x = refl

lowest_empty : (f : List ℕ → ℕ) → lowest f [] ≡ []
unfolding lowest
lowest_empty f = same_either (eqb (f []) (low_of f [])) []

-- The first vector of a box at the least sum has the first value of the least part in each dimension.
pub lowest_is : (a : ℕ) (parts : List (ℕ → ℕ)) (box : List Span) → length parts ≡ length box → HasVectors box → lowest (joined added a parts) box ≡ least_values parts box
unfolding lowest
lowest_is a [] [] e h = lowest_empty (joined added a [])
lowest_is a [] (s ∷ box) e h = absurd (omega (arith, e))
lowest_is a (p ∷ parts) [] e h = absurd (omega (arith, e))
lowest_is a (p ∷ parts) (s ∷ box) e h =
    let f = joined added a (p ∷ parts) in
    let g = joined added a parts in
    let l : ℕ = low_of (joined added a parts) box in
    let lies : Lies box (least_values parts box) = least_values_lie parts box h.1 in
    let found = lowest_found (joined added a parts) box (least_values parts box) lies in
    let at : IsAttained g l (vectors box) = attained_at g l (lowest (joined added a parts) box) (vectors box) (in_vectors box (lowest (joined added a parts) box) found.0) found.1 in
    let low : AllByRecursion (λ x. l ≤ g x) (vectors box) = all_least g l (vectors box) (λ x i. low_least (joined added a parts) box x (vectors_lie box x i)) in
    let is : (v : ℕ) (x : List ℕ) → f (v ∷ x) ≡ p v + g x = λ v x. joined_from a (p v) parts x in
    let n : low_of f (s ∷ box) ≡ least_part p s.low (s.high - s.low) + l = low_is_joined added sum_is_join a (p ∷ parts) (s ∷ box) h ∙ (least_from a (least_part p s.low (s.high - s.low)) parts box ∙ ap (λ (m : ℕ). least_part p s.low (s.high - s.low) + m) (sym (low_is_joined added sum_is_join a parts box h.1))) in
    let wide : s.low ≤ s.high = h.0 in
    let count : suc s.high - s.low ≡ suc (s.high - s.low) = omega (arith, wide) in
    let rest : lowest (joined added a parts) box ≡ least_values parts box = lowest_is a parts box (omega (arith, e)) h.1 in
    ap (λ (m : ℕ). first_at f m (flat_map (λ v. map (λ x. v ∷ x) (vectors box)) (numbers s.low (suc s.high - s.low)))) n
    ∙ (ap (λ (m : ℕ). first_at f (least_part p s.low (s.high - s.low) + l) (flat_map (λ v. map (λ x. v ∷ x) (vectors box)) (numbers s.low m))) count
    ∙ (first_numbers f g p l (vectors box) is at low s.low (s.high - s.low)
    ∙ ap (λ (x : List ℕ). least_value p s.low (s.high - s.low) ∷ x) rest))

highest_empty : (f : List ℕ → ℕ) → highest f [] ≡ []
unfolding highest
highest_empty f = same_either (eqb (f []) (high_of f [])) []

-- The first vector of a box at the greatest sum has the first value of the greatest part in each dimension.
pub highest_is : (a : ℕ) (parts : List (ℕ → ℕ)) (box : List Span) → length parts ≡ length box → HasVectors box → highest (joined added a parts) box ≡ greatest_values parts box
unfolding highest
highest_is a [] [] e h = highest_empty (joined added a [])
highest_is a [] (s ∷ box) e h = absurd (omega (arith, e))
highest_is a (p ∷ parts) [] e h = absurd (omega (arith, e))
highest_is a (p ∷ parts) (s ∷ box) e h =
    let f = joined added a (p ∷ parts) in
    let g = joined added a parts in
    let l : ℕ = high_of (joined added a parts) box in
    let lies : Lies box (greatest_values parts box) = greatest_values_lie parts box h.1 in
    let found = highest_found (joined added a parts) box (greatest_values parts box) lies in
    let at : IsAttained g l (vectors box) = attained_at g l (highest (joined added a parts) box) (vectors box) (in_vectors box (highest (joined added a parts) box) found.0) found.1 in
    let low : AllByRecursion (λ x. g x ≤ l) (vectors box) = all_greatest g l (vectors box) (λ x i. high_greatest (joined added a parts) box x (vectors_lie box x i)) in
    let is : (v : ℕ) (x : List ℕ) → f (v ∷ x) ≡ p v + g x = λ v x. joined_from a (p v) parts x in
    let n : high_of f (s ∷ box) ≡ greatest_part p s.low (s.high - s.low) + l = high_is_joined added sum_is_join a (p ∷ parts) (s ∷ box) h ∙ (greatest_from a (greatest_part p s.low (s.high - s.low)) parts box ∙ ap (λ (m : ℕ). greatest_part p s.low (s.high - s.low) + m) (sym (high_is_joined added sum_is_join a parts box h.1))) in
    let wide : s.low ≤ s.high = h.0 in
    let count : suc s.high - s.low ≡ suc (s.high - s.low) = omega (arith, wide) in
    let rest : highest (joined added a parts) box ≡ greatest_values parts box = highest_is a parts box (omega (arith, e)) h.1 in
    ap (λ (m : ℕ). first_at f m (flat_map (λ v. map (λ x. v ∷ x) (vectors box)) (numbers s.low (suc s.high - s.low)))) n
    ∙ (ap (λ (m : ℕ). first_at f (greatest_part p s.low (s.high - s.low) + l) (flat_map (λ v. map (λ x. v ∷ x) (vectors box)) (numbers s.low m))) count
    ∙ (first_numbers_above f g p l (vectors box) is at low s.low (s.high - s.low)
    ∙ ap (λ (x : List ℕ). greatest_value p s.low (s.high - s.low) ∷ x) rest))
