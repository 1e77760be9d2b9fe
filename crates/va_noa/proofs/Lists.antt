-- Members of lists, and lists in two parts.
use Rattle.std.proofs.Common.{◌≡◌, ◌≢◌, ℕ, suc, ◌+◌, Bool, true, false, List, [], ◌∷◌, ◌++◌, length, map, filter, Contains, ◌⊎◌, inl, inr, if◌then◌else◌, refl, sym, subst, ap, ◌∙◌, arith}
use Rattle.std.specs.List.{AllByRecursion, sum_by}
use Rattle.std.specs.List.Sorted.{IsPermutation}
use Rattle.std.proofs.lemmas.List.Recursion.{is_sum_by}
use Rattle.std.proofs.lemmas.List.Sorted.{sum_by-IsPermutation}
use Rattle.va_core.specs.declared.pair.Pair.{Pair}
use Rattle.va_core.specs.Approximations.{NamesDiffer}
use Rattle.va_core.specs.Sorting.{IsInOrder}
use Rattle.va_core.proofs.Members.{contains_cases, contains_first, contains_later, contains_none}

at_case : {X : Type 0} (P : X → Type 0) (x y : X) (l : List X) → P x → (Contains l y → P y) → (x ≡ y) ⊎ Contains l y → P y
at_case P x y l here rest (inl e) = subst P e here
at_case P x y l here rest (inr h) = rest h

-- what holds of all holds of a member
pub at_member : {X : Type 0} (P : X → Type 0) (l : List X) (y : X) → AllByRecursion P l → Contains l y → P y
at_member P [] y all h = absurd (contains_none y h)
at_member P (x ∷ l) y all h = at_case P x y l all.0 (at_member P l y all.1) (contains_cases x y l h)

pub contains_right : {X : Type 0} (a b : List X) (y : X) → Contains b y → Contains (a ++ b) y
contains_right [] b y h = h
contains_right (x ∷ a) b y h = contains_later x y (a ++ b) (contains_right a b y h)

pub all_right : {X : Type 0} (P : X → Type 0) (a b : List X) → AllByRecursion P (a ++ b) → AllByRecursion P b
all_right P [] b h = h
all_right P (x ∷ a) b h = all_right P a b h.1

pub order_right : {X : Type 0} (key : X → Pair) (a b : List X) → IsInOrder key (a ++ b) → IsInOrder key b
order_right key [] b h = h
order_right key (x ∷ a) b h = order_right key a b h.1

-- members with one name are the same
two_at : {X : Type 0} (name : X → ℕ) (x a b : X) (l : List X) → AllByRecursion (λ y. name y ≢ name x) l → (Contains l a → Contains l b → a ≡ b) → name a ≡ name b → (x ≡ a) ⊎ Contains l a → (x ≡ b) ⊎ Contains l b → a ≡ b
two_at name x a b l others rest e (inl p) (inl q) = sym p ∙ q
two_at name x a b l others rest e (inl p) (inr q) = absurd (at_member (λ y. name y ≢ name x) l b others q (sym e ∙ ap name (sym p)))
two_at name x a b l others rest e (inr p) (inl q) = absurd (at_member (λ y. name y ≢ name x) l a others p (e ∙ ap name (sym q)))
two_at name x a b l others rest e (inr p) (inr q) = rest p q

pub one_of_name : {X : Type 0} (name : X → ℕ) (l : List X) (a b : X) → NamesDiffer name l → Contains l a → Contains l b → name a ≡ name b → a ≡ b
one_of_name name [] a b differ p q e = absurd (contains_none a p)
one_of_name name (x ∷ l) a b differ p q e = two_at name x a b l differ.0 (λ p' q'. one_of_name name l a b differ.1 p' q' e) e (contains_cases x a l p) (contains_cases x b l q)

-- a member of a mapped list, and whose image it is
pub record IsImage {X Y : Type 0} (f : X → Y) (l : List X) (y : Y) : Type 0 where
  pub of : X
  pub member : Contains l of
  pub is : f of ≡ y

image_at : {X Y : Type 0} (f : X → Y) (x : X) (l : List X) (y : Y) → (Contains (map f l) y → IsImage f l y) → (f x ≡ y) ⊎ Contains (map f l) y → IsImage f (x ∷ l) y
image_at f x l y rest (inl e) = record { of = x; member = contains_first x l; is = e }
image_at f x l y rest (inr h) = let r = rest h in record { of = r.of; member = contains_later x r.of l r.member; is = r.is }

pub image_of : {X Y : Type 0} (f : X → Y) (l : List X) (y : Y) → Contains (map f l) y → IsImage f l y
image_of f [] y h = absurd (contains_none y h)
image_of f (x ∷ l) y h = image_at f x l y (image_of f l y) (contains_cases (f x) y (map f l) h)

abbrev pub tail : {X : Type 0} → List X → List X
tail [] = []
tail (x ∷ l) = l

pub filter_filter : {X : Type 0} (test wider : X → Bool) (l : List X) → ((i : X) → test i ≡ true → wider i ≡ true) → filter test l ≡ filter test (filter wider l)
filter_filter test wider [] h = refl
filter_filter test wider (x ∷ l) h = let rest : filter test l ≡ filter test (filter wider l) = filter_filter test wider l h in
    elim (test x) as (λ c. test x ≡ c → (if c then x ∷ filter test l else filter test l) ≡ filter test (filter wider (x ∷ l))) [
      | true ↦ λ e. rw (h x e, e) (ap (λ xs. x ∷ xs) rest)
      | false ↦ λ e. elim (wider x) as (λ c. filter test l ≡ filter test (if c then x ∷ filter wider l else filter wider l)) [ true ↦ rw e rest | false ↦ rest ]
    ] refl

pub filter_mapped : {X Y : Type 0} (f : X → Y) (p : Y → Bool) (q : X → Bool) (l : List X) → ((x : X) → p (f x) ≡ q x) → length (filter p (map f l)) ≡ length (filter q l)
filter_mapped f p q [] h = refl
filter_mapped f p q (x ∷ l) h = let rest : length (filter p (map f l)) ≡ length (filter q l) = filter_mapped f p q l h in
    let same : p (f x) ≡ q x = h x in
    rw same (elim (q x) as (λ c. length (if c then f x ∷ filter p (map f l) else filter p (map f l)) ≡ length (if c then x ∷ filter q l else filter q l)) [ true ↦ ap suc rest | false ↦ rest ])

-- a permutation has as many members that pass
passed_summed : {X : Type 0} (p : X → Bool) (l : List X) → length (filter p l) ≡ sum_by (λ x. if p x then 1 else 0) l
passed_summed {X} p l = is_sum_by (λ (m : List X). length (filter p m)) (λ x. if p x then 1 else 0) refl (λ x m. one_more x m (p x)) l
  where
    one_more : (x : X) (m : List X) (b : Bool) → length (if b then x ∷ filter p m else filter p m) ≡ (if b then 1 else 0) + length (filter p m)
    one_more x m true = omega arith
    one_more x m false = omega arith

pub passed_permuted : {X : Type 0} (p : X → Bool) (l m : List X) → IsPermutation l m → length (filter p m) ≡ length (filter p l)
passed_permuted p l m h = passed_summed p m ∙ (sum_by-IsPermutation (λ x. if p x then 1 else 0) l m h ∙ sym (passed_summed p l))
