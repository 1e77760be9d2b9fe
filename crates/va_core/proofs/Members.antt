-- The members of a list, and of the part that passes a test.
use Rattle.std.proofs.Common.{◌≡◌, ℕ, zero, suc, ◌<◌, ◌≤◌, Bool, true, false, List, [], ◌∷◌, ◌++◌, Option, Some, slice_get, length, map, get_or, Contains, ◌⊎◌, inl, inr, if◌then◌else◌, refl, sym, subst, ap, ◌∙◌, arith}
use Rattle.std.specs.List.{filter, AllByRecursion}

pub contains_first : {X : Type 0} (x : X) (l : List X) → Contains (x ∷ l) x
contains_first x l = (zero, omega arith, refl)

pub contains_later : {X : Type 0} (x y : X) (l : List X) → Contains l y → Contains (x ∷ l) y
contains_later x y l h = (suc h.0, (let g = h.1 in omega arith), h.2)

first_or_later : {X : Type 0} (x y : X) (l : List X) (k : ℕ) → k < suc (length l) → get_or (x ∷ l) k y ≡ y → (x ≡ y) ⊎ Contains l y
first_or_later x y l zero h e = inl e
first_or_later x y l (suc k) h e = inr (k, omega arith, e)

pub contains_cases : {X : Type 0} (x y : X) (l : List X) → Contains (x ∷ l) y → (x ≡ y) ⊎ Contains l y
contains_cases x y l h = first_or_later x y l h.0 h.1 h.2

pub contains_none : {X : Type 0} (x : X) → Contains [] x → ⊥
contains_none x h = let g = h.1 in omega arith

-- the members of the part are the members that pass
filtered_first : {X : Type 0} (test : X → Bool) (x : X) (l : List X) → test x ≡ true → Contains (filter test (x ∷ l)) x
filtered_first test x l e = rw e (contains_first x (filter test l))

filtered_later : {X : Type 0} (test : X → Bool) (x y : X) (l : List X) → Contains (filter test l) y → Contains (filter test (x ∷ l)) y
filtered_later test x y l h = elim (test x) as (λ c. Contains (if c then x ∷ filter test l else filter test l) y) [
  | true ↦ contains_later x y (filter test l) h
  | false ↦ h
]

filtered_at : {X : Type 0} (test : X → Bool) (x y : X) (l : List X) → test y ≡ true → (x ≡ y) ⊎ Contains (filter test l) y → Contains (filter test (x ∷ l)) y
filtered_at test x y l e (inl same) = subst (λ (z : _). Contains (filter test (z ∷ l)) y) (sym same) (filtered_first test y l e)
filtered_at test x y l e (inr h) = filtered_later test x y l h

later_filtered : {X : Type 0} (test : X → Bool) (x y : X) (l : List X) → (Contains l y → Contains (filter test l) y) → (x ≡ y) ⊎ Contains l y → (x ≡ y) ⊎ Contains (filter test l) y
later_filtered test x y l rest (inl same) = inl same
later_filtered test x y l rest (inr h) = inr (rest h)

pub contains_filtered : {X : Type 0} (test : X → Bool) (l : List X) (y : X) → Contains l y → test y ≡ true → Contains (filter test l) y
contains_filtered test [] y h e = absurd (contains_none y h)
contains_filtered test (x ∷ l) y h e = filtered_at test x y l e (later_filtered test x y l (λ g. contains_filtered test l y g e) (contains_cases x y l h))

again : {X : Type 0} (test : X → Bool) (x y : X) (l : List X) → (Contains (filter test l) y → Contains l y) → (x ≡ y) ⊎ Contains (filter test l) y → Contains (x ∷ l) y
again test x y l rest (inl same) = (zero, omega arith, same)
again test x y l rest (inr h) = contains_later x y l (rest h)

pub contains_unfiltered : {X : Type 0} (test : X → Bool) (l : List X) (y : X) → Contains (filter test l) y → Contains l y
contains_unfiltered test [] y h = h
contains_unfiltered test (x ∷ l) y h = (elim (test x) as (λ c. Contains (if c then x ∷ filter test l else filter test l) y → Contains (x ∷ l) y) [
  | true ↦ λ g. again test x y l (contains_unfiltered test l y) (contains_cases x y (filter test l) g)
  | false ↦ λ g. contains_later x y l (contains_unfiltered test l y g)
]) h

-- tests that agree at each member keep the same part
pub filter_same : {X : Type 0} (p q : X → Bool) (l : List X) → AllByRecursion (λ x. p x ≡ q x) l → filter p l ≡ filter q l
filter_same p q [] h = refl
filter_same p q (x ∷ l) h = let rest : filter p l ≡ filter q l = filter_same p q l h.1 in rw (h.0, rest) refl

-- x is one of the members
abbrev pub IsAmong : {X : Type 0} → X → List X → Type 0
IsAmong x [] = ⊥
IsAmong x (y ∷ l) = (x ≡ y) ⊎ IsAmong x l

-- what holds of all holds of each, and the other way round
pub all_from : {X : Type 0} (P : X → Type 0) (l : List X) → ((x : X) → IsAmong x l → P x) → AllByRecursion P l
all_from P [] h = tt
all_from P (x ∷ l) h = (h x (inl refl), all_from P l (λ y g. h y (inr g)))

pub all_at : {X : Type 0} (P : X → Type 0) (l : List X) (x : X) → AllByRecursion P l → IsAmong x l → P x
all_at P [] x h g = absurd g
all_at P (y ∷ l) x h (inl e) = subst P (sym e) h.0
all_at P (y ∷ l) x h (inr g) = all_at P l x h.1 g

pub among_filter : {X : Type 0} (test : X → Bool) (x : X) (l : List X) → IsAmong x l → test x ≡ true → IsAmong x (filter test l)
among_filter test x [] h t = absurd h
among_filter test x (y ∷ l) (inl e) t = let t' : test y ≡ true = ap test (sym e) ∙ t in rw t' (inl e)
among_filter test x (y ∷ l) (inr h) t = elim (test y) as (λ c. IsAmong x (if c then y ∷ filter test l else filter test l)) [
  | true ↦ inr (among_filter test x l h t)
  | false ↦ among_filter test x l h t
]

some_is : {X : Type 0} (x y : X) → ◌≡◌ {A = Option X} (Some x) (Some y) → x ≡ y
some_is x y h = cc

-- what holds of all holds of the one at a place
pub all_get : {X : Type 0} (P : X → Type 0) (l : List X) (i : ℕ) (x : X) → AllByRecursion P l → slice_get l i ≡ Some x → P x
all_get P [] i x h e = cc
all_get P (y ∷ l) zero x h e = subst P (some_is y x e) h.0
all_get P (y ∷ l) (suc i) x h e = all_get P l i x h.1 e

pub all_append : {X : Type 0} (P : X → Type 0) (l m : List X) → AllByRecursion P l → AllByRecursion P m → AllByRecursion P (l ++ m)
all_append P [] m h g = g
all_append P (x ∷ l) m h g = (h.0, all_append P l m h.1 g)

-- numbers that are below an end wherever they are read
pub all_below : (end : ℕ) (xs : List ℕ) → ((i : ℕ) → get_or xs i 0 < end) → AllByRecursion (λ x. x < end) xs
all_below end [] h = tt
all_below end (x ∷ xs) h = (h 0, all_below end xs (λ i. h (suc i)))

-- a member has what another one has, mapped
pub all_mapped : {X Y : Type 0} (P : X → Type 0) (Q : Y → Type 0) (f : X → Y) (l : List X) → ((x : X) → P x → Q (f x)) → AllByRecursion P l → AllByRecursion Q (map f l)
all_mapped P Q f [] h all = tt
all_mapped P Q f (x ∷ l) h all = (h x all.0, all_mapped P Q f l h all.1)

pub all_both : {X : Type 0} (P Q : X → Type 0) (l : List X) → AllByRecursion P l → AllByRecursion Q l → AllByRecursion (λ x. P x × Q x) l
all_both P Q [] a b = tt
all_both P Q (x ∷ l) a b = ((a.0, b.0), all_both P Q l a.1 b.1)

-- no more pass a test than there are
pub filter_few : {X : Type 0} (test : X → Bool) (l : List X) → length (filter test l) ≤ length l
filter_few test [] = omega arith
filter_few test (x ∷ l) =
    let rest : length (filter test l) ≤ length l = filter_few test l in
    elim (test x) as (λ c. length (if c then x ∷ filter test l else filter test l) ≤ suc (length l)) [
      | true ↦ omega (arith, rest)
      | false ↦ omega (arith, rest)
    ]
