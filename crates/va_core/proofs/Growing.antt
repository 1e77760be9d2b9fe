-- What is needed for one pair more is what was needed, and then what is next.
use Rattle.std.proofs.Common.{◌≡◌, ℕ, suc, ◌<◌, ◌≤◌, Bool, true, false, ◌&&◌, List, [], ◌∷◌, ◌++◌, eqb, ltb, if◌then◌else◌, refl, ap, sym, ◌∙◌, arith}
use Rattle.std.specs.List.{filter, AllByRecursion}
use Rattle.std.proofs.lemmas.Bool.Decides.{nat_tests}
use Rattle.va_core.specs.declared.pair.Pair.{Pair}
use Rattle.va_core.specs.Ranking.{lesser}
use Rattle.va_core.specs.Approximations.{Approximations, pairs, is_wide, is_next, is_needed, low_pair, need, need_next}
use Rattle.va_core.specs.Sorting.{ascending_by, IsFloor, IsInOrder}
use Rattle.va_core.proofs.Counting.{lesser_rises}
use Rattle.va_core.proofs.Sorting.{ascending_by_in_order, filter_ascending_by}

and_is : (w b : Bool) → b ≡ true → (w && b) ≡ w
and_is true b h = h
and_is false b h = refl

and_none : (w b : Bool) → b ≡ false → (w && b) ≡ false
and_none true b h = h
and_none false b h = refl

few_false : (n k : ℕ) → k ≤ n → ltb n k ≡ false
few_false n k h = grind (arith, nat_tests)

few_equal : (n k : ℕ) → k ≤ n → ltb n (suc k) ≡ eqb n k
few_equal n k h = grind (arith, nat_tests)

test_cases : (w : Bool) (n k : ℕ) → n < k → ((w && ltb n (suc k)) ≡ w) × ((w && ltb n k) ≡ w) × ((w && eqb n k) ≡ false)
test_cases w n k h = (and_is w (ltb n (suc k)) (let t : ltb n (suc k) ≡ true = grind (arith, nat_tests, h) in t), and_is w (ltb n k) (let t : ltb n k ≡ true = grind (arith, nat_tests, h) in t), and_none w (eqb n k) (let t : eqb n k ≡ false = grind (arith, nat_tests, h) in t))

later_none : {X : Type 0} (s : Approximations X) (c : X → ℕ) (k : ℕ) (l : List X) → AllByRecursion (λ y. k ≤ c y) l → filter (λ i. is_wide s i && ltb (c i) k) l ≡ []
later_none s c k [] h = refl
later_none s c k (x ∷ l) h = let t : ltb (c x) k ≡ false = few_false (c x) k h.0 in let n : (is_wide s x && ltb (c x) k) ≡ false = and_none (is_wide s x) (ltb (c x) k) t in rw n (later_none s c k l h.1)

later_same : {X : Type 0} (s : Approximations X) (c : X → ℕ) (k : ℕ) (l : List X) → AllByRecursion (λ y. k ≤ c y) l → filter (λ i. is_wide s i && ltb (c i) (suc k)) l ≡ filter (λ i. is_wide s i && eqb (c i) k) l
later_same s c k [] h = refl
later_same s c k (x ∷ l) h = let t : ltb (c x) (suc k) ≡ eqb (c x) k = few_equal (c x) k h.0 in let rest : filter (λ i. is_wide s i && ltb (c i) (suc k)) l ≡ filter (λ i. is_wide s i && eqb (c i) k) l = later_same s c k l h.1 in rw (t, rest) refl

-- a count that rises along the list splits it
Rising : {X : Type 0} → (X → ℕ) → List X → Type 0
Rising c [] = Unit {0}
Rising c (x ∷ l) = AllByRecursion (λ y. c x ≤ c y) l × Rising c l

at_least : {X : Type 0} (c : X → ℕ) (k n : ℕ) (l : List X) → k ≤ n → AllByRecursion (λ y. n ≤ c y) l → AllByRecursion (λ y. k ≤ c y) l
at_least c k n [] a h = tt
at_least c k n (y ∷ l) a h = (let g : n ≤ c y = h.0 in omega (arith, a, g), at_least c k n l a h.1)

split_at_count : {X : Type 0} (s : Approximations X) (c : X → ℕ) (k : ℕ) (l : List X) → Rising c l →
    filter (λ i. is_wide s i && ltb (c i) (suc k)) l ≡ filter (λ i. is_wide s i && ltb (c i) k) l ++ filter (λ i. is_wide s i && eqb (c i) k) l
unfolding Rising
split_at_count s c k [] r = refl
split_at_count s c k (x ∷ l) r = elim (ltb (c x) k) as (λ b. ltb (c x) k ≡ b → filter (λ i. is_wide s i && ltb (c i) (suc k)) (x ∷ l) ≡ filter (λ i. is_wide s i && ltb (c i) k) (x ∷ l) ++ filter (λ i. is_wide s i && eqb (c i) k) (x ∷ l)) [
  | true ↦ λ e. let h : c x < k = grind (arith, nat_tests, e) in let t = test_cases (is_wide s x) (c x) k h in
      let rest : filter (λ i. is_wide s i && ltb (c i) (suc k)) l ≡ filter (λ i. is_wide s i && ltb (c i) k) l ++ filter (λ i. is_wide s i && eqb (c i) k) l = split_at_count s c k l r.1 in
      let a : (is_wide s x && ltb (c x) (suc k)) ≡ is_wide s x = t.0 in let b : (is_wide s x && ltb (c x) k) ≡ is_wide s x = t.1 in let d : (is_wide s x && eqb (c x) k) ≡ false = t.2 in
      rw (a, b, d) (elim (is_wide s x) as (λ w. (if w then x ∷ filter (λ i. is_wide s i && ltb (c i) (suc k)) l else filter (λ i. is_wide s i && ltb (c i) (suc k)) l) ≡ (if w then x ∷ filter (λ i. is_wide s i && ltb (c i) k) l else filter (λ i. is_wide s i && ltb (c i) k) l) ++ filter (λ i. is_wide s i && eqb (c i) k) l) [ true ↦ ap (λ xs. x ∷ xs) rest | false ↦ rest ])
  | false ↦ λ e. let h : k ≤ c x = grind (arith, nat_tests, e) in
      let all : AllByRecursion (λ y. k ≤ c y) (x ∷ l) = (h, at_least c k (c x) l h r.0) in
      later_same s c k (x ∷ l) all ∙ ap (λ xs. xs ++ filter (λ i. is_wide s i && eqb (c i) k) (x ∷ l)) (sym (later_none s c k (x ∷ l) all))
] refl

floor_rising : {X : Type 0} (s : Approximations X) (ps : List Pair) (x : X) (l : List X) → IsFloor (low_pair s) x l → AllByRecursion (λ y. lesser ps (low_pair s x) ≤ lesser ps (low_pair s y)) l
floor_rising s ps x [] f = tt
floor_rising s ps x (y ∷ l) f = (lesser_rises ps (low_pair s x) (low_pair s y) f.0, floor_rising s ps x l f.1)

sorted_rising : {X : Type 0} (s : Approximations X) (ps : List Pair) (l : List X) → IsInOrder (low_pair s) l → Rising (λ i. lesser ps (low_pair s i)) l
unfolding Rising
sorted_rising s ps [] h = tt
sorted_rising s ps (x ∷ l) h = (floor_rising s ps x l h.0, sorted_rising s ps l h.1)

-- What is needed for k + 1 pairs is what is needed for k, and then what is next.
pub need_grows : {X : Type 0} (s : Approximations X) (ms : List X) (d : X → ℕ) (k : ℕ) → need s ms d (suc k) ≡ need s ms d k ++ need_next s ms d k
need_grows s ms d k =
    sym (filter_ascending_by (low_pair s) (is_needed s ms d (suc k)) ms)
    ∙ (split_at_count s (λ i. lesser (pairs s.name d ms) (low_pair s i)) k (ascending_by (low_pair s) ms) (sorted_rising s (pairs s.name d ms) (ascending_by (low_pair s) ms) (ascending_by_in_order (low_pair s) ms))
    ∙ (ap (λ l. l ++ filter (is_next s ms d k) (ascending_by (low_pair s) ms)) (filter_ascending_by (low_pair s) (is_needed s ms d k) ms)
    ∙ ap (λ l. need s ms d k ++ l) (filter_ascending_by (low_pair s) (is_next s ms d k) ms)))
