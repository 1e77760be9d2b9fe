-- Lists in the order of their keys.
use Rattle.std.proofs.Common.{◌≡◌, ℕ, zero, suc, Bool, true, false, List, [], ◌∷◌, ◌++◌, take, if◌then◌else◌, refl, ap, sym, ◌∙◌}
use Rattle.std.specs.List.{filter, AllByRecursion}
use Rattle.std.specs.List.Sorted.{IsPermutation}
use Rattle.std.proofs.lemmas.List.Sorted.{IsPermutation-refl, IsPermutation-sym, IsPermutation-cons, IsPermutation-trans, IsPermutation-middle}
use Rattle.va_core.specs.declared.pair.Pair.{Pair}
use Rattle.va_core.specs.Ranking.{is_less}
use Rattle.va_core.specs.Sorting.{placed_by, ascending_by, IsFloor, IsInOrder}
use Rattle.va_core.proofs.Order.{Trichotomy, less, same, more, order, less_after, at_most_through, not_above}

-- two placements commute, where members with one key are the same
apart : {X : Type 0} (key : X → Pair) (p q : X) (l : List X) → (key p ≡ key q → p ≡ q) → Trichotomy (key p) (key q) →
    (if is_less (key q) (key p) then q ∷ (p ∷ l) else p ∷ (q ∷ l)) ≡ (if is_less (key p) (key q) then p ∷ (q ∷ l) else q ∷ (p ∷ l))
apart key p q l one (less a b) = rw (a, b) refl
apart key p q l one (same e) = let h : p ≡ q = one e in cc
apart key p q l one (more a b) = rw (a, b) refl

pub placed_by_twice : {X : Type 0} (key : X → Pair) (p q : X) (l : List X) → (key p ≡ key q → p ≡ q) → placed_by key p (placed_by key q l) ≡ placed_by key q (placed_by key p l)
placed_by_twice key p q [] one = apart key p q [] one (order (key p) (key q))
placed_by_twice key p q (r ∷ l) one = elim (is_less (key r) (key p)) as (λ c. is_less (key r) (key p) ≡ c → placed_by key p (placed_by key q (r ∷ l)) ≡ placed_by key q (placed_by key p (r ∷ l))) [
  | true ↦ λ rp. elim (is_less (key r) (key q)) as (λ c. is_less (key r) (key q) ≡ c → placed_by key p (placed_by key q (r ∷ l)) ≡ placed_by key q (placed_by key p (r ∷ l))) [
    | true ↦ λ rq. simp (rp, rq) (ap (λ xs. r ∷ xs) (placed_by_twice key p q l one))
    | false ↦ λ rq. let h = less_after (key p) (key q) (key r) rq rp in simp (rp, rq, h)
  ] refl
  | false ↦ λ rp. elim (is_less (key r) (key q)) as (λ c. is_less (key r) (key q) ≡ c → placed_by key p (placed_by key q (r ∷ l)) ≡ placed_by key q (placed_by key p (r ∷ l))) [
    | true ↦ λ rq. let h = less_after (key q) (key p) (key r) rp rq in simp (rp, rq, h)
    | false ↦ λ rq. simp (rp, rq) (apart key p q (r ∷ l) one (order (key p) (key q)))
  ] refl
] refl

-- one member more at the end of what is put in order
pub ascending_by_more : {X : Type 0} (key : X → Pair) (l : List X) (x : X) → AllByRecursion (λ y. key y ≡ key x → y ≡ x) l → ascending_by key (l ++ x ∷ []) ≡ placed_by key x (ascending_by key l)
ascending_by_more key [] x h = refl
ascending_by_more key (y ∷ l) x h = ap (placed_by key y) (ascending_by_more key l x h.1) ∙ placed_by_twice key y x (ascending_by key l) h.0

-- what isn't among the first k now will not be among them later
take_less : {X : Type 0} (k : ℕ) (l : List X) → take k (take (suc k) l) ≡ take k l
take_less zero l = refl
take_less (suc k) [] = refl
take_less (suc k) (x ∷ l) = ap (λ xs. x ∷ xs) (take_less k l)

take_behind : {X : Type 0} (k : ℕ) (l : List X) (x : X) → take k (x ∷ take k l) ≡ take k (x ∷ l)
take_behind zero l x = refl
take_behind (suc k) l x = ap (λ xs. x ∷ xs) (take_less k l)

pub take_placed_by : {X : Type 0} (key : X → Pair) (k : ℕ) (x : X) (l : List X) → take k (placed_by key x (take k l)) ≡ take k (placed_by key x l)
take_placed_by key zero x l = refl
take_placed_by key (suc k) x [] = refl
take_placed_by key (suc k) x (y ∷ l) = elim (is_less (key y) (key x)) as (λ c. take (suc k) (if c then y ∷ placed_by key x (take k l) else x ∷ (y ∷ take k l)) ≡ take (suc k) (if c then y ∷ placed_by key x l else x ∷ (y ∷ l))) [
  | true ↦ ap (λ xs. y ∷ xs) (take_placed_by key k x l)
  | false ↦ ap (λ xs. x ∷ xs) (take_behind k l y)
]

-- what is put in order is in order
pub floor_through : {X : Type 0} (key : X → Pair) (p q : X) (l : List X) → is_less (key q) (key p) ≡ false → IsFloor key q l → IsFloor key p l
floor_through key p q [] h f = tt
floor_through key p q (r ∷ l) h f = (at_most_through (key r) (key p) (key q) h f.0, floor_through key p q l h f.1)

-- what holds of each member holds in any order, and of a part
pub all_placed_by : {X : Type 0} (P : X → Type 0) (key : X → Pair) (x : X) (l : List X) → P x → AllByRecursion P l → AllByRecursion P (placed_by key x l)
all_placed_by P key x [] h g = (h, tt)
all_placed_by P key x (y ∷ l) h g = elim (is_less (key y) (key x)) as (λ c. AllByRecursion P (if c then y ∷ placed_by key x l else x ∷ (y ∷ l))) [
  | true ↦ (g.0, all_placed_by P key x l h g.1)
  | false ↦ (h, g)
]

pub all_ascending_by : {X : Type 0} (P : X → Type 0) (key : X → Pair) (l : List X) → AllByRecursion P l → AllByRecursion P (ascending_by key l)
all_ascending_by P key [] h = tt
all_ascending_by P key (x ∷ l) h = all_placed_by P key x (ascending_by key l) h.0 (all_ascending_by P key l h.1)

pub all_filter : {X : Type 0} (P : X → Type 0) (test : X → Bool) (l : List X) → AllByRecursion P l → AllByRecursion P (filter test l)
all_filter P test [] h = tt
all_filter P test (x ∷ l) h = elim (test x) as (λ c. AllByRecursion P (if c then x ∷ filter test l else filter test l)) [
  | true ↦ (h.0, all_filter P test l h.1)
  | false ↦ all_filter P test l h.1
]

pub placed_by_in_order : {X : Type 0} (key : X → Pair) (p : X) (l : List X) → IsInOrder key l → IsInOrder key (placed_by key p l)
placed_by_in_order key p [] s = (tt, tt)
placed_by_in_order key p (r ∷ l) s = elim (is_less (key r) (key p)) as (λ c. is_less (key r) (key p) ≡ c → IsInOrder key (if c then r ∷ placed_by key p l else p ∷ (r ∷ l))) [
  | true ↦ λ e. (all_placed_by (λ y. is_less (key y) (key r) ≡ false) key p l (not_above (key r) (key p) e) s.0, placed_by_in_order key p l s.1)
  | false ↦ λ e. ((e, floor_through key p r l e s.0), s)
] refl

pub ascending_by_in_order : {X : Type 0} (key : X → Pair) (l : List X) → IsInOrder key (ascending_by key l)
ascending_by_in_order key [] = tt
ascending_by_in_order key (x ∷ l) = placed_by_in_order key x (ascending_by key l) (ascending_by_in_order key l)

-- what is in order already stays as it is
pub placed_by_first : {X : Type 0} (key : X → Pair) (x : X) (l : List X) → IsFloor key x l → placed_by key x l ≡ x ∷ l
placed_by_first key x [] f = refl
placed_by_first key x (y ∷ l) f = rw f.0 refl

pub ascending_by_same : {X : Type 0} (key : X → Pair) (l : List X) → IsInOrder key l → ascending_by key l ≡ l
ascending_by_same key [] s = refl
ascending_by_same key (x ∷ l) s = ap (placed_by key x) (ascending_by_same key l s.1) ∙ placed_by_first key x l s.0

-- a filter commutes with the sort
filter_placed_by : {X : Type 0} (key : X → Pair) (test : X → Bool) (p : X) (l : List X) → IsInOrder key l → filter test (placed_by key p l) ≡ (if test p then placed_by key p (filter test l) else filter test l)
filter_placed_by key test p [] s = refl
filter_placed_by key test p (r ∷ l) s = elim (is_less (key r) (key p)) as (λ c. is_less (key r) (key p) ≡ c → filter test (if c then r ∷ placed_by key p l else p ∷ (r ∷ l)) ≡ (if test p then placed_by key p (filter test (r ∷ l)) else filter test (r ∷ l))) [
  | true ↦ λ e. let rest : filter test (placed_by key p l) ≡ (if test p then placed_by key p (filter test l) else filter test l) = filter_placed_by key test p l s.1 in
      elim (test r) as (λ c. test r ≡ c → filter test (r ∷ placed_by key p l) ≡ (if test p then placed_by key p (filter test (r ∷ l)) else filter test (r ∷ l))) [
        | true ↦ λ t. rw (t, rest) (elim (test p) as (λ c. r ∷ (if c then placed_by key p (filter test l) else filter test l) ≡ (if c then placed_by key p (r ∷ filter test l) else r ∷ filter test l)) [
          | true ↦ rw e refl
          | false ↦ refl
        ])
        | false ↦ λ t. rw t rest
      ] refl
  | false ↦ λ e. elim (test p) as (λ c. (if c then p ∷ filter test (r ∷ l) else filter test (r ∷ l)) ≡ (if c then placed_by key p (filter test (r ∷ l)) else filter test (r ∷ l))) [
    | true ↦ sym (placed_by_first key p (filter test (r ∷ l)) (all_filter (λ y. is_less (key y) (key p) ≡ false) test (r ∷ l) (e, floor_through key p r l e s.0)))
    | false ↦ refl
  ]
] refl

pub filter_ascending_by : {X : Type 0} (key : X → Pair) (test : X → Bool) (l : List X) → filter test (ascending_by key l) ≡ ascending_by key (filter test l)
filter_ascending_by key test [] = refl
filter_ascending_by key test (x ∷ l) = let rest : filter test (ascending_by key l) ≡ ascending_by key (filter test l) = filter_ascending_by key test l in
    filter_placed_by key test x (ascending_by key l) (ascending_by_in_order key l) ∙ elim (test x) as (λ c. (if c then placed_by key x (filter test (ascending_by key l)) else filter test (ascending_by key l)) ≡ ascending_by key (if c then x ∷ filter test l else filter test l)) [
      | true ↦ ap (placed_by key x) rest
      | false ↦ rest
    ]

-- a sort only moves members
placed_by_permutes : {X : Type 0} (key : X → Pair) (x : X) (l : List X) → IsPermutation (x ∷ l) (placed_by key x l)
placed_by_permutes key x [] = IsPermutation-refl (x ∷ [])
placed_by_permutes key x (y ∷ l) = elim (is_less (key y) (key x)) as (λ c. IsPermutation (x ∷ (y ∷ l)) (if c then y ∷ placed_by key x l else x ∷ (y ∷ l))) [
  | true ↦ IsPermutation-trans (x ∷ (y ∷ l)) (y ∷ (x ∷ l)) (y ∷ placed_by key x l)
      (IsPermutation-sym (y ∷ (x ∷ l)) (x ∷ (y ∷ l)) (IsPermutation-middle (y ∷ []) x l))
      (IsPermutation-cons y (x ∷ l) (placed_by key x l) (placed_by_permutes key x l))
  | false ↦ IsPermutation-refl (x ∷ (y ∷ l))
]

pub ascending_by_permutes : {X : Type 0} (key : X → Pair) (l : List X) → IsPermutation l (ascending_by key l)
ascending_by_permutes key [] = IsPermutation-refl []
ascending_by_permutes key (x ∷ l) = IsPermutation-trans (x ∷ l) (x ∷ ascending_by key l) (placed_by key x (ascending_by key l))
    (IsPermutation-cons x l (ascending_by key l) (ascending_by_permutes key l))
    (placed_by_permutes key x (ascending_by key l))
