-- The k least of the pairs that are held and of one more, and what the last of them tells.
use Rattle.std.proofs.Common.{◌≡◌, ℕ, zero, suc, ◌+◌, ◌-◌, ◌<◌, ◌≤◌, true, false, not, List, [], ◌∷◌, length, take, Option, Some, None, IfSome, slice_get, get_or, ◌↔◌, ltb, if◌then◌else◌, refl, ap, sym, ◌∙◌, take_all, arith}
use Rattle.std.proofs.lemmas.Bool.Decides.{nat_tests}
use Rattle.std.proofs.lemmas.Option.{slice_get-get_or}
use Rattle.va_core.specs.declared.pair.Pair.{Pair}
use Rattle.va_core.specs.Ranking.{is_less, lesser, placed}
use Rattle.va_core.specs.Sorting.{IsFloor, IsInOrder}
use Rattle.va_core.proofs.Order.{less_after}
use Rattle.va_core.proofs.Sorting.{floor_through}
use Rattle.va_core.proofs.Counting.{lesser_floor}
use Rattle.va_core.proofs.Ranking.{length_placed}
use Rattle.va_core.specs.Kth.{is_beyond}
use Rattle.va_keep.specs.Kept.{Kept, worst}

pub same_kept : (m n : ℕ) (ps qs : List Pair) → m ≡ n → ps ≡ qs → ◌≡◌ {A = Kept} (record { most = m; pairs = ps }) (record { most = n; pairs = qs })
same_kept m n ps qs a b =
    let with_most : ℕ → Kept = λ k. record { most = k; pairs = ps } in
    let with_pairs : List Pair → Kept = λ l. record { most = n; pairs = l } in
    ap with_most a ∙ ap with_pairs b

-- while there is room, one more is held
pub one_more : (most : ℕ) (p : Pair) (held : List Pair) → length held < most → placed p held ≡ take most (placed p held)
one_more most p held room = sym (take_all most (placed p held) (omega (arith, length_placed p held)))

-- a pair that the last isn't less than takes the place of the last
instead_of_last : (n : ℕ) (p : Pair) (held : List Pair) → length held ≡ suc n → is_beyond (slice_get held n) p ≡ false → placed p (take n held) ≡ take (suc n) (placed p held)
instead_of_last n p [] h e = absurd (omega arith)
instead_of_last zero p (q ∷ held) h e = rw e refl
instead_of_last (suc n) p (q ∷ held) h e = elim (is_less q p) as (λ c. (if c then q ∷ placed p (take n held) else p ∷ (q ∷ take n held)) ≡ take (suc (suc n)) (if c then q ∷ placed p held else p ∷ (q ∷ held))) [
  | true ↦ ap (λ ps. q ∷ ps) (instead_of_last n p held (omega arith) e)
  | false ↦ refl
]

-- a pair that the last is less than isn't held
first_below : (n : ℕ) (p q : Pair) (held : List Pair) → IsFloor (λ r. r) q held → is_beyond (slice_get held n) p ≡ true → is_less q p ≡ true
first_below n p q [] f e = cc
first_below zero p q (r ∷ held) f e = less_after p q r f.0 e
first_below (suc n) p q (r ∷ held) f e = first_below n p q held f.1 e

beyond_last : (n : ℕ) (p : Pair) (held : List Pair) → IsInOrder (λ r. r) held → length held ≡ suc n → is_beyond (slice_get held n) p ≡ true → held ≡ take (suc n) (placed p held)
beyond_last n p [] s h e = absurd (omega arith)
beyond_last zero p (q ∷ []) s h e = rw e refl
beyond_last zero p (q ∷ (r ∷ held)) s h e = absurd (omega arith)
beyond_last (suc n) p (q ∷ held) s h e =
    rw (first_below n p q held s.0 e) (ap (λ ps. q ∷ ps) (beyond_last n p held s.1 (omega arith) e))

-- an offer to as many as may be held
pub offer_kept : (most : ℕ) (p : Pair) (held : List Pair) → 0 < most → length held ≡ most → is_beyond (slice_get held (most - 1)) p ≡ false → placed p (take (most - 1) held) ≡ take most (placed p held)
offer_kept zero p held some full e = absurd (omega arith)
offer_kept (suc n) p held some full e = let last : suc n - 1 ≡ n = omega arith in rw last (instead_of_last n p held full (rw last at e))

pub offer_refused : (most : ℕ) (p : Pair) (held : List Pair) → 0 < most → IsInOrder (λ r. r) held → length held ≡ most → is_beyond (slice_get held (most - 1)) p ≡ true → held ≡ take most (placed p held)
offer_refused zero p held some s full e = absurd (omega arith)
offer_refused (suc n) p held some s full e = let last : suc n - 1 ≡ n = omega arith in beyond_last n p held s full (rw last at e)

-- all of the pairs are less than p exactly where the last is
one_up : (m n : ℕ) → ltb m n ≡ ltb (1 + m) (suc n)
one_up m n = grind (arith, nat_tests)

none_below : (n : ℕ) → ltb 0 (suc n) ≡ true
none_below n = grind (arith, nat_tests)

not_beyond : (n : ℕ) (p q : Pair) (held : List Pair) → IsFloor (λ r. r) q held → is_less q p ≡ false → not (is_beyond (slice_get held n) p) ≡ true
not_beyond n p q held f e = elim (is_beyond (slice_get held n) p) as (λ c. is_beyond (slice_get held n) p ≡ c → not c ≡ true) [
  | true ↦ λ b. let below : is_less q p ≡ true = first_below n p q held f b in cc
  | false ↦ λ b. refl
] refl

last_tells : (n : ℕ) (p : Pair) (held : List Pair) → IsInOrder (λ r. r) held → length held ≡ suc n → ltb (lesser held p) (suc n) ≡ not (is_beyond (slice_get held n) p)
last_tells n p [] s h = absurd (omega arith)
last_tells zero p (q ∷ []) s h = elim (is_less q p) as (λ c. ltb ((if c then 1 else 0) + 0) 1 ≡ not c) [ true ↦ refl | false ↦ refl ]
last_tells zero p (q ∷ (r ∷ held)) s h = absurd (omega arith)
last_tells (suc n) p (q ∷ held) s h =
    let rest : ltb (lesser held p) (suc n) ≡ not (is_beyond (slice_get held n) p) = last_tells n p held s.1 (omega arith) in
    elim (is_less q p) as (λ c. is_less q p ≡ c → ltb ((if c then 1 else 0) + lesser held p) (suc (suc n)) ≡ not (is_beyond (slice_get held n) p)) [
      | true ↦ λ e. sym (one_up (lesser held p) (suc n)) ∙ rest
      | false ↦ λ e.
          let none : lesser held p ≡ 0 = lesser_floor p held (floor_through (λ r. r) p q held e s.0) in
          rw none (none_below (suc n) ∙ sym (not_beyond n p q held s.0 e))
    ] refl

-- the worst is none exactly while there is room, and tells where there is none
pub worst_is_none : (kept : Kept) → 0 < kept.most → (worst kept ≡ None) ↔ (length kept.pairs < kept.most)
worst_is_none kept some = elim (ltb (length kept.pairs) kept.most) as (λ c. ltb (length kept.pairs) kept.most ≡ c → ((if c then None else slice_get kept.pairs (length kept.pairs - 1)) ≡ None) ↔ (length kept.pairs < kept.most)) [
  | true ↦ λ e. (λ _. grind (arith, nat_tests), λ _. refl)
  | false ↦ λ e.
      let full : kept.most ≤ length kept.pairs = grind (arith, nat_tests) in
      let last : slice_get kept.pairs (length kept.pairs - 1) ≡ Some (get_or kept.pairs (length kept.pairs - 1) (record { dist = 0; id = 0 })) = slice_get-get_or kept.pairs (length kept.pairs - 1) (record { dist = 0; id = 0 }) (omega arith) in
      (λ none. cc, λ h. absurd (omega arith))
] refl

pub worst_of_full : (kept : Kept) → length kept.pairs ≡ kept.most → worst kept ≡ slice_get kept.pairs (length kept.pairs - 1)
worst_of_full kept full = let no : ltb (length kept.pairs) kept.most ≡ false = grind (arith, nat_tests) in rw no refl

told : (n : ℕ) (last : Option Pair) (held : List Pair) → IsInOrder (λ r. r) held → length held ≡ suc n → last ≡ slice_get held n →
    IfSome last (λ worst. (p : Pair) → ltb (lesser held p) (suc n) ≡ not (is_less worst p))
told n None held s h e = tt
told n (Some last) held s h e = λ p. last_tells n p held s h ∙ ap (λ (o : Option Pair). not (is_beyond o p)) (sym e)

pub worst_tells : (kept : Kept) (r : Option Pair) → 0 < kept.most → length kept.pairs ≡ kept.most → IsInOrder (λ r. r) kept.pairs → r ≡ worst kept →
    IfSome r (λ worst. (p : Pair) → ltb (lesser kept.pairs p) kept.most ≡ not (is_less worst p))
worst_tells kept r some full s e =
    let up : kept.most ≡ suc (length kept.pairs - 1) = omega arith in
    rw up (told (length kept.pairs - 1) r kept.pairs s (omega arith) (e ∙ worst_of_full kept full))

-- no more pairs are less than one than there are
pub lesser_few : (l : List Pair) (p : Pair) → lesser l p ≤ length l
lesser_few [] p = omega arith
lesser_few (q ∷ l) p =
    let rest : lesser l p ≤ length l = lesser_few l p in
    elim (is_less q p) as (λ c. (if c then 1 else 0) + lesser l p ≤ suc (length l)) [ true ↦ omega (arith, rest) | false ↦ omega (arith, rest) ]

pub near_with_room : (most : ℕ) (l : List Pair) (p : Pair) → length l < most → true ≡ ltb (lesser l p) most
near_with_room most l p room = let few : lesser l p ≤ length l = lesser_few l p in grind (arith, nat_tests, few, room)
