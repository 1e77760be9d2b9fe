-- A list in the order of keys that differ is the only one.
use Rattle.std.proofs.Common.{◌≡◌, List, [], ◌∷◌, map, Contains, true, false, if◌then◌else◌, refl, ap, sym, ◌∙◌}
use Rattle.std.specs.List.{AllByRecursion}
use Rattle.std.specs.List.Sorted.{IsPermutation}
use Rattle.std.proofs.lemmas.List.Sorted.{IsPermutation-map, IsPermutation-sym, Contains-permutation}
use Rattle.va_core.specs.declared.pair.Pair.{Pair}
use Rattle.va_core.specs.Ranking.{is_less}
use Rattle.va_core.specs.Sorting.{placed_by, ascending_by, IsFloor, IsInOrder}
use Rattle.va_core.proofs.Members.{contains_first, contains_later}
use Rattle.va_core.proofs.Ranking.{ascending_is_only}
use Rattle.va_core.proofs.Sorting.{placed_by_twice, all_ascending_by, ascending_by_permutes, ascending_by_in_order}

keyed_floor : {X : Type 0} (key : X → Pair) (x : X) (l : List X) → IsFloor key x l → IsFloor (λ (q : Pair). q) (key x) (map key l)
keyed_floor key x [] f = tt
keyed_floor key x (y ∷ l) f = (f.0, keyed_floor key x l f.1)

keyed_order : {X : Type 0} (key : X → Pair) (l : List X) → IsInOrder key l → IsInOrder (λ (q : Pair). q) (map key l)
keyed_order key [] s = tt
keyed_order key (x ∷ l) s = (keyed_floor key x l s.0, keyed_order key l s.1)

first_of : {A : Type 0} (a b : A) (l m : List A) → a ∷ l ≡ b ∷ m → a ≡ b
first_of a b l m h = cc

rest_of : {A : Type 0} (a b : A) (l m : List A) → a ∷ l ≡ b ∷ m → l ≡ m
rest_of a b l m h = cc

same_by_keys : {X : Type 0} (key : X → Pair) (P : X → Type 0) → ((a b : X) → P a → P b → key a ≡ key b → a ≡ b) → (l m : List X) → AllByRecursion P l → AllByRecursion P m → map key l ≡ map key m → l ≡ m
same_by_keys key P one [] [] h g e = refl
same_by_keys key P one [] (y ∷ m) h g e = cc
same_by_keys key P one (x ∷ l) [] h g e = cc
same_by_keys key P one (x ∷ l) (y ∷ m) h g e =
    let here : x ≡ y = one x y h.0 g.0 (first_of (key x) (key y) (map key l) (map key m) e) in
    let rest : l ≡ m = same_by_keys key P one l m h.1 g.1 (rest_of (key x) (key y) (map key l) (map key m) e) in cc

moved_all : {X : Type 0} (P Q : X → Type 0) → ((x : X) → P x → Q x) → (l : List X) → AllByRecursion P l → AllByRecursion Q l
moved_all P Q h [] g = tt
moved_all P Q h (x ∷ l) g = (h x g.0, moved_all P Q h l g.1)

all_self : {X : Type 0} (l : List X) → AllByRecursion (λ x. Contains l x) l
all_self [] = tt
all_self (x ∷ l) = (contains_first x l, moved_all (λ y. Contains l y) (λ y. Contains (x ∷ l) y) (λ y h. contains_later x y l h) l (all_self l))

all_of : {X : Type 0} (l m : List X) → IsPermutation l m → AllByRecursion (λ x. Contains l x) m
all_of l m moved = moved_all (λ x. Contains m x) (λ x. Contains l x) (λ x h. Contains-permutation m l x (IsPermutation-sym l m moved) h) m (all_self m)

-- a permutation in the order of keys that differ is the sorted list
pub ascending_by_is_only : {X : Type 0} (key : X → Pair) (l m : List X) → IsPermutation l m → IsInOrder key m → ((a b : X) → Contains l a → Contains l b → key a ≡ key b → a ≡ b) → m ≡ ascending_by key l
ascending_by_is_only key l m moved s one =
    let keys : map key m ≡ map key (ascending_by key l) =
    ascending_is_only (map key l) (map key m) (IsPermutation-map key l m moved) (keyed_order key m s)
    ∙ sym (ascending_is_only (map key l) (map key (ascending_by key l)) (IsPermutation-map key l (ascending_by key l) (ascending_by_permutes key l)) (keyed_order key (ascending_by key l) (ascending_by_in_order key l))) in
    same_by_keys key (λ x. Contains l x) one m (ascending_by key l) (all_of l m moved) (all_of l (ascending_by key l) (ascending_by_permutes key l)) keys

-- an order that was there before doesn't matter where the keys differ
resorted_once : {X : Type 0} (first key : X → Pair) (x : X) (l : List X) → AllByRecursion (λ y. key y ≡ key x → y ≡ x) l → ascending_by key (placed_by first x l) ≡ placed_by key x (ascending_by key l)
resorted_once first key x [] h = refl
resorted_once first key x (y ∷ l) h = elim (is_less (first y) (first x)) as (λ c. ascending_by key (if c then y ∷ placed_by first x l else x ∷ (y ∷ l)) ≡ placed_by key x (placed_by key y (ascending_by key l))) [
  | true ↦ ap (placed_by key y) (resorted_once first key x l h.1) ∙ placed_by_twice key y x (ascending_by key l) h.0
  | false ↦ refl
]

-- the keys of the members differ
abbrev pub KeysDiffer : {X : Type 0} → (X → Pair) → List X → Type 0
KeysDiffer key [] = Unit {0}
KeysDiffer key (x ∷ l) = AllByRecursion (λ y. key y ≡ key x → y ≡ x) l × KeysDiffer key l

pub resorted : {X : Type 0} (first key : X → Pair) (l : List X) → KeysDiffer key l → ascending_by key (ascending_by first l) ≡ ascending_by key l
resorted first key [] h = refl
resorted first key (x ∷ l) h =
    resorted_once first key x (ascending_by first l) (all_ascending_by (λ y. key y ≡ key x → y ≡ x) first l h.0)
    ∙ ap (placed_by key x) (resorted first key l h.1)
