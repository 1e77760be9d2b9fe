-- Lists that are filtered, and lists of names that differ.
use Rattle.std.proofs.Common.{◌≡◌, ◌≢◌, ℕ, suc, ◌≤◌, Bool, true, false, ◌&&◌, List, [], ◌∷◌, ◌++◌, length, None, Some, slice_get, Contains, if◌then◌else◌, refl, ap, sym, arith}
use Rattle.std.specs.List.{filter, AllByRecursion}
use Rattle.va_core.specs.declared.pair.Pair.{Pair}
use Rattle.va_core.specs.Approximations.{NamesDiffer}
use Rattle.va_core.specs.Ranking.{is_less}
use Rattle.va_core.specs.Sorting.{ascending_by, placed_by}
use Rattle.va_core.proofs.Members.{contains_first, contains_later}
use Rattle.va_core.proofs.Sorting.{all_ascending_by, all_placed_by}

-- what holds of all, from what holds of every one, and what is weaker
pub all_of : {X : Type 0} (P : X → Type 0) → ((x : X) → P x) → (l : List X) → AllByRecursion P l
all_of P f [] = tt
all_of P f (x ∷ l) = (f x, all_of P f l)

pub all_weaker : {X : Type 0} (P Q : X → Type 0) → ((x : X) → P x → Q x) → (l : List X) → AllByRecursion P l → AllByRecursion Q l
all_weaker P Q f [] h = tt
all_weaker P Q f (x ∷ l) h = (f x h.0, all_weaker P Q f l h.1)

pub all_members : {X : Type 0} (l : List X) → AllByRecursion (λ x. Contains l x) l
all_members [] = tt
all_members (x ∷ l) = (contains_first x l, all_weaker (λ y. Contains l y) (λ y. Contains (x ∷ l) y) (λ y h. contains_later x y l h) l (all_members l))

pub placed_not_empty : {X : Type 0} (key : X → Pair) (x : X) (l : List X) → placed_by key x l ≡ [] → ⊥
placed_not_empty key x [] h = cc
placed_not_empty key x (y ∷ l) h = (elim (is_less (key y) (key x)) as (λ c. (if c then y ∷ placed_by key x l else x ∷ (y ∷ l)) ≡ [] → ⊥) [
  | true ↦ λ g. cc
  | false ↦ λ g. cc
]) h

pub length_placed_by : {X : Type 0} (key : X → Pair) (x : X) (l : List X) → length (placed_by key x l) ≡ suc (length l)
length_placed_by key x [] = refl
length_placed_by key x (y ∷ l) = elim (is_less (key y) (key x)) as (λ c. length (if c then y ∷ placed_by key x l else x ∷ (y ∷ l)) ≡ suc (suc (length l))) [
  | true ↦ ap suc (length_placed_by key x l)
  | false ↦ refl
]

pub filter_all : {X : Type 0} (test : X → Bool) (l : List X) → AllByRecursion (λ x. test x ≡ true) l → filter test l ≡ l
filter_all test [] h = refl
filter_all test (x ∷ l) h = rw h.0 (ap (λ xs. x ∷ xs) (filter_all test l h.1))

pub filter_none : {X : Type 0} (test : X → Bool) (l : List X) → AllByRecursion (λ x. test x ≡ false) l → filter test l ≡ []
filter_none test [] h = refl
filter_none test (x ∷ l) h = rw h.0 (filter_none test l h.1)

pub filter_both : {X : Type 0} (p q : X → Bool) (l : List X) → filter (λ x. p x && q x) l ≡ filter q (filter p l)
filter_both p q [] = refl
filter_both p q (x ∷ l) = let rest : filter (λ y. p y && q y) l ≡ filter q (filter p l) = filter_both p q l in
    elim (p x) as (λ c. (if c && q x then x ∷ filter (λ y. p y && q y) l else filter (λ y. p y && q y) l) ≡ filter q (if c then x ∷ filter p l else filter p l)) [
      | true ↦ rw rest refl
      | false ↦ rest
    ]

-- what doesn't pass doesn't matter
pub filter_without : {X : Type 0} (key : X → Pair) (test : X → Bool) (x : X) (l : List X) → test x ≡ false → filter test (placed_by key x l) ≡ filter test l
filter_without key test x [] h = rw h refl
filter_without key test x (y ∷ l) h = let rest : filter test (placed_by key x l) ≡ filter test l = filter_without key test x l h in
    elim (is_less (key y) (key x)) as (λ c. filter test (if c then y ∷ placed_by key x l else x ∷ (y ∷ l)) ≡ filter test (y ∷ l)) [
      | true ↦ rw rest refl
      | false ↦ rw h refl
    ]

-- names that differ do so in any order of keys
pub differ_placed : {X : Type 0} (name : X → ℕ) (key : X → Pair) (x : X) (l : List X) → AllByRecursion (λ y. name y ≢ name x) l → NamesDiffer name l → NamesDiffer name (placed_by key x l)
differ_placed name key x [] h g = (tt, tt)
differ_placed name key x (y ∷ l) h g = elim (is_less (key y) (key x)) as (λ c. NamesDiffer name (if c then y ∷ placed_by key x l else x ∷ (y ∷ l))) [
  | true ↦ (all_placed_by (λ z. name z ≢ name y) key x l (λ e. h.0 (sym e)) g.0, differ_placed name key x l h.1 g.1)
  | false ↦ (h, g)
]

pub differ_ascending : {X : Type 0} (name : X → ℕ) (key : X → Pair) (l : List X) → NamesDiffer name l → NamesDiffer name (ascending_by key l)
differ_ascending name key [] h = tt
differ_ascending name key (x ∷ l) h =
    differ_placed name key x (ascending_by key l) (all_ascending_by (λ y. name y ≢ name x) key l h.0) (differ_ascending name key l h.1)

-- the one behind a list, and the end
pub get_behind : {X : Type 0} (l m : List X) (x : X) → slice_get (l ++ x ∷ m) (length l) ≡ Some x
get_behind [] m x = refl
get_behind (y ∷ l) m x = get_behind l m x

pub get_end : {X : Type 0} (l : List X) → slice_get l (length l) ≡ None
get_end [] = refl
get_end (x ∷ l) = get_end l
