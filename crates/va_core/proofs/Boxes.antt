-- The vectors of a box, and the least and the greatest of a function over them.
use Rattle.std.proofs.Common.{◌≡◌, ℕ, zero, suc, ◌+◌, ◌-◌, ◌<◌, ◌≤◌, true, false, List, [], ◌∷◌, ◌++◌, length, map, eqb, leb, if◌then◌else◌, refl, ap, sym, ◌∙◌, subst, ◌⊎◌, inl, inr, arith}
use Rattle.std.specs.Prelude.{min, max}
use Rattle.std.specs.List.{flat_map}
use Rattle.std.proofs.lemmas.Bool.Decides.{nat_tests}
use Rattle.va_core.specs.Boxes.{Span, Lies, numbers, vectors, least_with, least_of, greatest_with, greatest_of, first_at, low_of, high_of, lowest, highest, box_between, substitute}
use Rattle.va_core.proofs.Members.{IsAmong}

in_left : {X : Type 0} (x : X) (xs ys : List X) → IsAmong x xs → IsAmong x (xs ++ ys)
in_left x [] ys h = absurd h
in_left x (y ∷ xs) ys (inl e) = inl e
in_left x (y ∷ xs) ys (inr h) = inr (in_left x xs ys h)

in_right : {X : Type 0} (x : X) (xs ys : List X) → IsAmong x ys → IsAmong x (xs ++ ys)
in_right x [] ys h = h
in_right x (y ∷ xs) ys h = inr (in_right x xs ys h)

in_append_next : {X : Type 0} (x y : X) (xs ys : List X) → IsAmong x xs ⊎ IsAmong x ys → IsAmong x (y ∷ xs) ⊎ IsAmong x ys
in_append_next x y xs ys (inl h) = inl (inr h)
in_append_next x y xs ys (inr h) = inr h

in_append : {X : Type 0} (x : X) (xs ys : List X) → IsAmong x (xs ++ ys) → IsAmong x xs ⊎ IsAmong x ys
in_append x [] ys h = inr h
in_append x (y ∷ xs) ys (inl e) = inl (inl e)
in_append x (y ∷ xs) ys (inr h) = in_append_next x y xs ys (in_append x xs ys h)

in_flat : (f : ℕ → List (List ℕ)) (y : List ℕ) (v : ℕ) (vs : List ℕ) → IsAmong v vs → IsAmong y (f v) → IsAmong y (flat_map f vs)
in_flat f y v [] h g = absurd h
in_flat f y v (w ∷ vs) (inl e) g = in_left y (f w) (flat_map f vs) (subst (λ (n : ℕ). IsAmong y (f n)) e g)
in_flat f y v (w ∷ vs) (inr h) g = in_right y (f w) (flat_map f vs) (in_flat f y v vs h g)

in_prefixed : (v : ℕ) (x : List ℕ) (xs : List (List ℕ)) → IsAmong x xs → IsAmong (v ∷ x) (map (λ y. v ∷ y) xs)
in_prefixed v x [] h = absurd h
in_prefixed v x (y ∷ xs) (inl e) = inl (ap (λ z. v ∷ z) e)
in_prefixed v x (y ∷ xs) (inr h) = inr (in_prefixed v x xs h)

in_numbers_at : (first n v : ℕ) → first ≤ v → v < first + suc n → (first ≡ v) ⊎ (first < v) → ((suc first ≤ v) → (v < suc first + n) → IsAmong v (numbers (suc first) n)) → IsAmong v (numbers first (suc n))
in_numbers_at first n v a b (inl e) rest = inl (sym e)
in_numbers_at first n v a b (inr h) rest = inr (rest (omega arith) (omega arith))

pub equal_or_below : (a b : ℕ) → a ≤ b → (a ≡ b) ⊎ (a < b)
equal_or_below a b h = elim (eqb a b) as (λ c. eqb a b ≡ c → (a ≡ b) ⊎ (a < b)) [
  | true ↦ λ e. inl (grind (arith, nat_tests))
  | false ↦ λ e. inr (grind (arith, nat_tests))
] refl

in_numbers : (first n v : ℕ) → first ≤ v → v < first + n → IsAmong v (numbers first n)
in_numbers first zero v a b = absurd (omega arith)
in_numbers first (suc n) v a b = in_numbers_at first n v a b (equal_or_below first v a) (λ c d. in_numbers (suc first) n v c d)

pub in_vectors : (box : List Span) (x : List ℕ) → Lies box x → IsAmong x (vectors box)
in_vectors [] [] h = inl refl
in_vectors [] (v ∷ x) h = absurd h
in_vectors (s ∷ box) [] h = absurd h
in_vectors (s ∷ box) (v ∷ x) h = in_flat (λ w. map (λ y. w ∷ y) (vectors box)) (v ∷ x) v (numbers s.low (suc s.high - s.low))
    (in_numbers s.low (suc s.high - s.low) v h.0 (let a : v ≤ s.high = h.1 in let b : s.low ≤ v = h.0 in omega (arith, a, b))) (in_prefixed v x (vectors box) (in_vectors box x h.2))

-- each of them lies in the box
numbers_within : (first n v : ℕ) → IsAmong v (numbers first n) → (first ≤ v) × (v < first + n)
numbers_within first zero v h = absurd h
numbers_within first (suc n) v (inl e) = (omega arith, omega arith)
numbers_within first (suc n) v (inr h) = let r = numbers_within (suc first) n v h in let a : suc first ≤ v = r.0 in let b : v < suc first + n = r.1 in (omega (arith, a), omega (arith, b))

lies_prefixed : (s : Span) (box : List Span) (v : ℕ) (x : List ℕ) (xs : List (List ℕ)) → s.low ≤ v → v ≤ s.high → ((y : List ℕ) → IsAmong y xs → Lies box y) → IsAmong x (map (λ y. v ∷ y) xs) → Lies (s ∷ box) x
lies_prefixed s box v x [] a b all h = absurd h
lies_prefixed s box v x (y ∷ xs) a b all (inl e) = subst (λ (z : List ℕ). Lies (s ∷ box) z) (sym e) (a, b, all y (inl refl))
lies_prefixed s box v x (y ∷ xs) a b all (inr h) = lies_prefixed s box v x xs a b (λ z g. all z (inr g)) h

lies_flat_at : (s : Span) (box : List Span) (x : List ℕ) (v : ℕ) (vs : List ℕ) → ((w : ℕ) → IsAmong w (v ∷ vs) → (s.low ≤ w) × (w ≤ s.high)) → ((y : List ℕ) → IsAmong y (vectors box) → Lies box y) →
    (IsAmong x (flat_map (λ w. map (λ y. w ∷ y) (vectors box)) vs) → Lies (s ∷ box) x) →
    IsAmong x (map (λ y. v ∷ y) (vectors box)) ⊎ IsAmong x (flat_map (λ w. map (λ y. w ∷ y) (vectors box)) vs) → Lies (s ∷ box) x
lies_flat_at s box x v vs b all rest (inl h) = lies_prefixed s box v x (vectors box) (b v (inl refl)).0 (b v (inl refl)).1 all h
lies_flat_at s box x v vs b all rest (inr h) = rest h

lies_flat : (s : Span) (box : List Span) (x : List ℕ) (vs : List ℕ) → ((v : ℕ) → IsAmong v vs → (s.low ≤ v) × (v ≤ s.high)) → ((y : List ℕ) → IsAmong y (vectors box) → Lies box y) →
    IsAmong x (flat_map (λ w. map (λ y. w ∷ y) (vectors box)) vs) → Lies (s ∷ box) x
lies_flat s box x [] b all h = absurd h
lies_flat s box x (v ∷ vs) b all h = lies_flat_at s box x v vs b all (λ g. lies_flat s box x vs (λ w i. b w (inr i)) all g)
    (in_append x (map (λ y. v ∷ y) (vectors box)) (flat_map (λ w. map (λ y. w ∷ y) (vectors box)) vs) h)

span_within : (s : Span) (v : ℕ) → IsAmong v (numbers s.low (suc s.high - s.low)) → (s.low ≤ v) × (v ≤ s.high)
span_within s v h = let r = numbers_within s.low (suc s.high - s.low) v h in let a : s.low ≤ v = r.0 in let b : v < s.low + (suc s.high - s.low) = r.1 in (a, omega (arith, a, b))

lies_empty : (x : List ℕ) → IsAmong x (vectors []) → Lies [] x
lies_empty x (inl e) = subst (λ (z : List ℕ). Lies [] z) (sym e) tt
lies_empty x (inr h) = absurd h

pub vectors_lie : (box : List Span) (x : List ℕ) → IsAmong x (vectors box) → Lies box x
vectors_lie [] x h = lies_empty x h
vectors_lie (s ∷ box) x h = lies_flat s box x (numbers s.low (suc s.high - s.low)) (λ v i. span_within s v i) (λ y i. vectors_lie box y i) h

-- the least with n
with_least : (f : List ℕ → ℕ) (n : ℕ) (xs : List (List ℕ)) → least_with f n xs ≤ n
with_least f n [] = omega arith
with_least f n (x ∷ xs) = let r : least_with f n xs ≤ n = with_least f n xs in omega (arith, r)

in_least : (f : List ℕ → ℕ) (n : ℕ) (x : List ℕ) (xs : List (List ℕ)) → IsAmong x xs → least_with f n xs ≤ f x
in_least f n x [] h = absurd h
in_least f n x (y ∷ xs) (inl e) = let e' : f x ≡ f y = ap f e in omega (arith, e')
in_least f n x (y ∷ xs) (inr h) = let r : least_with f n xs ≤ f x = in_least f n x xs h in omega (arith, r)

pub least_below : (f : List ℕ → ℕ) (x : List ℕ) (xs : List (List ℕ)) → IsAmong x xs → least_of f xs ≤ f x
least_below f x [] h = absurd h
least_below f x (y ∷ xs) (inl e) = let e' : f x ≡ f y = ap f e in let r : least_with f (f y) xs ≤ f y = with_least f (f y) xs in omega (arith, r, e')
least_below f x (y ∷ xs) (inr h) = in_least f (f y) x xs h

with_greatest : (f : List ℕ → ℕ) (n : ℕ) (xs : List (List ℕ)) → n ≤ greatest_with f n xs
with_greatest f n [] = omega arith
with_greatest f n (x ∷ xs) = let r : n ≤ greatest_with f n xs = with_greatest f n xs in omega (arith, r)

in_greatest : (f : List ℕ → ℕ) (n : ℕ) (x : List ℕ) (xs : List (List ℕ)) → IsAmong x xs → f x ≤ greatest_with f n xs
in_greatest f n x [] h = absurd h
in_greatest f n x (y ∷ xs) (inl e) = let e' : f x ≡ f y = ap f e in omega (arith, e')
in_greatest f n x (y ∷ xs) (inr h) = let r : f x ≤ greatest_with f n xs = in_greatest f n x xs h in omega (arith, r)

pub greatest_above : (f : List ℕ → ℕ) (x : List ℕ) (xs : List (List ℕ)) → IsAmong x xs → f x ≤ greatest_of f xs
greatest_above f x [] h = absurd h
greatest_above f x (y ∷ xs) (inl e) = let e' : f x ≡ f y = ap f e in let r : f y ≤ greatest_with f (f y) xs = with_greatest f (f y) xs in omega (arith, r, e')
greatest_above f x (y ∷ xs) (inr h) = in_greatest f (f y) x xs h

-- some vector of the list has the value
abbrev pub IsAttained : (List ℕ → ℕ) → ℕ → List (List ℕ) → Type 0
IsAttained f n [] = ⊥
IsAttained f n (x ∷ xs) = (f x ≡ n) ⊎ IsAttained f n xs

min_cases : (a b : ℕ) → (min a b ≡ a) ⊎ (min a b ≡ b)
min_cases a b = elim (leb a b) as (λ c. leb a b ≡ c → (min a b ≡ a) ⊎ (min a b ≡ b)) [
  | true ↦ λ e. let h : a ≤ b = grind (arith, nat_tests) in inl (omega arith)
  | false ↦ λ e. let h : b < a = grind (arith, nat_tests) in inr (omega arith)
] refl

max_cases : (a b : ℕ) → (max a b ≡ a) ⊎ (max a b ≡ b)
max_cases a b = elim (leb a b) as (λ c. leb a b ≡ c → (max a b ≡ a) ⊎ (max a b ≡ b)) [
  | true ↦ λ e. let h : a ≤ b = grind (arith, nat_tests) in inr (omega arith)
  | false ↦ λ e. let h : b < a = grind (arith, nat_tests) in inl (omega arith)
] refl

-- a value that is n or attained
least_next : (f : List ℕ → ℕ) (n : ℕ) (x : List ℕ) (xs : List (List ℕ)) → (min (f x) (least_with f n xs) ≡ f x) ⊎ (min (f x) (least_with f n xs) ≡ least_with f n xs) →
    (least_with f n xs ≡ n) ⊎ IsAttained f (least_with f n xs) xs → (least_with f n (x ∷ xs) ≡ n) ⊎ IsAttained f (least_with f n (x ∷ xs)) (x ∷ xs)
least_next f n x xs (inl e) h = inr (inl (sym e))
least_next f n x xs (inr e) (inl h) = inl (e ∙ h)
least_next f n x xs (inr e) (inr h) = inr (inr (subst (λ (m : ℕ). IsAttained f m xs) (sym e) h))

least_with_attained : (f : List ℕ → ℕ) (n : ℕ) (xs : List (List ℕ)) → (least_with f n xs ≡ n) ⊎ IsAttained f (least_with f n xs) xs
least_with_attained f n [] = inl refl
least_with_attained f n (x ∷ xs) = least_next f n x xs (min_cases (f x) (least_with f n xs)) (least_with_attained f n xs)

least_attained_at : (f : List ℕ → ℕ) (x : List ℕ) (xs : List (List ℕ)) → (least_with f (f x) xs ≡ f x) ⊎ IsAttained f (least_with f (f x) xs) xs → IsAttained f (least_of f (x ∷ xs)) (x ∷ xs)
least_attained_at f x xs (inl e) = inl (sym e)
least_attained_at f x xs (inr h) = inr h

pub least_attained : (f : List ℕ → ℕ) (y : List ℕ) (xs : List (List ℕ)) → IsAmong y xs → IsAttained f (least_of f xs) xs
least_attained f y [] h = absurd h
least_attained f y (x ∷ xs) h = least_attained_at f x xs (least_with_attained f (f x) xs)

greatest_next : (f : List ℕ → ℕ) (n : ℕ) (x : List ℕ) (xs : List (List ℕ)) → (max (f x) (greatest_with f n xs) ≡ f x) ⊎ (max (f x) (greatest_with f n xs) ≡ greatest_with f n xs) →
    (greatest_with f n xs ≡ n) ⊎ IsAttained f (greatest_with f n xs) xs → (greatest_with f n (x ∷ xs) ≡ n) ⊎ IsAttained f (greatest_with f n (x ∷ xs)) (x ∷ xs)
greatest_next f n x xs (inl e) h = inr (inl (sym e))
greatest_next f n x xs (inr e) (inl h) = inl (e ∙ h)
greatest_next f n x xs (inr e) (inr h) = inr (inr (subst (λ (m : ℕ). IsAttained f m xs) (sym e) h))

greatest_with_attained : (f : List ℕ → ℕ) (n : ℕ) (xs : List (List ℕ)) → (greatest_with f n xs ≡ n) ⊎ IsAttained f (greatest_with f n xs) xs
greatest_with_attained f n [] = inl refl
greatest_with_attained f n (x ∷ xs) = greatest_next f n x xs (max_cases (f x) (greatest_with f n xs)) (greatest_with_attained f n xs)

greatest_attained_at : (f : List ℕ → ℕ) (x : List ℕ) (xs : List (List ℕ)) → (greatest_with f (f x) xs ≡ f x) ⊎ IsAttained f (greatest_with f (f x) xs) xs → IsAttained f (greatest_of f (x ∷ xs)) (x ∷ xs)
greatest_attained_at f x xs (inl e) = inl (sym e)
greatest_attained_at f x xs (inr h) = inr h

pub greatest_attained : (f : List ℕ → ℕ) (y : List ℕ) (xs : List (List ℕ)) → IsAmong y xs → IsAttained f (greatest_of f xs) xs
greatest_attained f y [] h = absurd h
greatest_attained f y (x ∷ xs) h = greatest_attained_at f x xs (greatest_with_attained f (f x) xs)

first_moved : (f : List ℕ → ℕ) (n : ℕ) (y : List ℕ) (xs : List (List ℕ)) (z : List ℕ) → z ≡ y → IsAmong y xs → f y ≡ n → IsAmong z xs × (f z ≡ n)
first_moved f n y xs z e h g = (subst (λ (w : List ℕ). IsAmong w xs) (sym e) h, ap f e ∙ g)

-- the first vector at an attained value is in the list and has it
pub first_found : (f : List ℕ → ℕ) (n : ℕ) (xs : List (List ℕ)) → IsAttained f n xs → IsAmong (first_at f n xs) xs × (f (first_at f n xs) ≡ n)
first_found f n [] h = absurd h
first_found f n (x ∷ xs) (inl e) = let t : eqb (f x) n ≡ true = grind (arith, nat_tests) in rw t (inl refl, e)
first_found f n (x ∷ xs) (inr h) = let r = first_found f n xs h in
    elim (eqb (f x) n) as (λ c. eqb (f x) n ≡ c → IsAmong (first_at f n (x ∷ xs)) (x ∷ xs) × (f (first_at f n (x ∷ xs)) ≡ n)) [
      | true ↦ λ e. let t : f x ≡ n = grind (arith, nat_tests) in first_moved f n x (x ∷ xs) (first_at f n (x ∷ xs)) (rw e refl) (inl refl) t
      | false ↦ λ e. first_moved f n (first_at f n xs) (x ∷ xs) (first_at f n (x ∷ xs)) (rw e refl) (inr r.0) r.1
    ] refl

pub low_least : (f : List ℕ → ℕ) (box : List Span) (x : List ℕ) → Lies box x → low_of f box ≤ f x
unfolding low_of
low_least f box x h = least_below f x (vectors box) (in_vectors box x h)

pub high_greatest : (f : List ℕ → ℕ) (box : List Span) (x : List ℕ) → Lies box x → f x ≤ high_of f box
unfolding high_of
high_greatest f box x h = greatest_above f x (vectors box) (in_vectors box x h)

-- the lowest vector of a box with a vector lies in it and attains the bound
pub lowest_found : (f : List ℕ → ℕ) (box : List Span) (x : List ℕ) → Lies box x → Lies box (lowest f box) × (f (lowest f box) ≡ low_of f box)
unfolding low_of lowest
lowest_found f box x h = let r = first_found f (least_of f (vectors box)) (vectors box) (least_attained f x (vectors box) (in_vectors box x h)) in
    (vectors_lie box (first_at f (least_of f (vectors box)) (vectors box)) r.0, r.1)

pub highest_found : (f : List ℕ → ℕ) (box : List Span) (x : List ℕ) → Lies box x → Lies box (highest f box) × (f (highest f box) ≡ high_of f box)
unfolding high_of highest
highest_found f box x h = let r = first_found f (greatest_of f (vectors box)) (vectors box) (greatest_attained f x (vectors box) (in_vectors box x h)) in
    (vectors_lie box (first_at f (greatest_of f (vectors box)) (vectors box)) r.0, r.1)

pub lies_length : (b : List Span) (x : List ℕ) → Lies b x → length x ≡ length b
lies_length [] [] h = refl
lies_length [] (v ∷ x) h = absurd h
lies_length (s ∷ b) [] h = absurd h
lies_length (s ∷ b) (v ∷ x) h = ap suc (lies_length b x h.2)

-- a box is what lies between its ends
pub box_between_ends : (b : List Span) → box_between (map (λ (s : Span). s.low) b) (map (λ (s : Span). s.high) b) ≡ b
box_between_ends [] = refl
box_between_ends (s ∷ b) = ap (λ ss. s ∷ ss) (box_between_ends b)

-- the substitute lies in the box, at the other bound
pub substitute_found : (f : List ℕ → ℕ) (b : List Span) (x : List ℕ) → Lies b x → Lies b (substitute f b x) × (f (substitute f b x) ≡ (if eqb (f x) (low_of f b) then high_of f b else low_of f b))
substitute_found f b x h = elim (eqb (f x) (low_of f b)) as (λ c. Lies b (if c then highest f b else lowest f b) × (f (if c then highest f b else lowest f b) ≡ (if c then high_of f b else low_of f b))) [
  | true ↦ highest_found f b x h
  | false ↦ lowest_found f b x h
]
