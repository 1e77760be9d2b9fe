-- The order of pairs.
use Rattle.std.proofs.Common.{◌≡◌, ℕ, ◌<◌, true, false, ltb, refl, ap, ◌∙◌, ◌⊎◌, inl, inr, arith}
use Rattle.std.proofs.lemmas.Bool.Decides.{nat_tests}
use Rattle.va_core.specs.declared.pair.Pair.{Pair}
use Rattle.va_core.specs.Ranking.{is_less}
use Rattle.va_core.specs.Laws.{IsRanking}

pub not_self : (p : Pair) → is_less p p ≡ false
not_self p = grind (arith, nat_tests)

pub not_above : (p q : Pair) → is_less p q ≡ true → is_less q p ≡ false
not_above p q h = grind (arith, nat_tests)

pub less_through : (p q r : Pair) → is_less p q ≡ true → is_less q r ≡ true → is_less p r ≡ true
less_through p q r a b = grind (arith, nat_tests)

-- q is at most r, and r less than p
pub less_after : (p q r : Pair) → is_less r q ≡ false → is_less r p ≡ true → is_less q p ≡ true
less_after p q r a b = grind (arith, nat_tests)

-- q is less than s, and s at most t
pub less_upto : (q s t : Pair) → is_less q s ≡ true → is_less t s ≡ false → is_less q t ≡ true
less_upto q s t a b = grind (arith, nat_tests)

-- s is at most t, and t at most q
pub at_most_through : (q s t : Pair) → is_less t s ≡ false → is_less q t ≡ false → is_less q s ≡ false
at_most_through q s t a b = grind (arith, nat_tests)

-- one of two pairs is less, or they are the same
pub data Trichotomy (p q : Pair) : Type 0 where
  less : is_less p q ≡ true → is_less q p ≡ false → Trichotomy p q
  same : p ≡ q → Trichotomy p q
  more : is_less p q ≡ false → is_less q p ≡ true → Trichotomy p q

same_pair : (p q : Pair) → p.dist ≡ q.dist → p.id ≡ q.id → p ≡ q
same_pair p q a b =
    let with_dist : ℕ → Pair = λ n. record { dist = n; id = p.id } in
    let with_id : ℕ → Pair = λ n. record { dist = q.dist; id = n } in
    ap with_dist a ∙ ap with_id b

compared : (a b : ℕ) → ((a < b) ⊎ (b < a)) ⊎ (a ≡ b)
compared a b = elim (ltb a b) as (λ c. ltb a b ≡ c → ((a < b) ⊎ (b < a)) ⊎ (a ≡ b)) [
  | true ↦ λ e. inl (inl (grind (arith, nat_tests)))
  | false ↦ λ e. elim (ltb b a) as (λ c. ltb b a ≡ c → ((a < b) ⊎ (b < a)) ⊎ (a ≡ b)) [
    | true ↦ λ f. inl (inr (grind (arith, nat_tests)))
    | false ↦ λ f. inr (grind (arith, nat_tests))
  ] refl
] refl

ranked : (p q : Pair) → ((p.dist < q.dist) ⊎ (q.dist < p.dist)) ⊎ (p.dist ≡ q.dist) → ((p.id < q.id) ⊎ (q.id < p.id)) ⊎ (p.id ≡ q.id) → Trichotomy p q
ranked p q (inl (inl a)) i = less (grind (arith, nat_tests)) (grind (arith, nat_tests))
ranked p q (inl (inr a)) i = more (grind (arith, nat_tests)) (grind (arith, nat_tests))
ranked p q (inr a) (inl (inl b)) = less (grind (arith, nat_tests)) (grind (arith, nat_tests))
ranked p q (inr a) (inl (inr b)) = more (grind (arith, nat_tests)) (grind (arith, nat_tests))
ranked p q (inr a) (inr b) = same (same_pair p q a b)

pub order : (p q : Pair) → Trichotomy p q
order p q = ranked p q (compared p.dist q.dist) (compared p.id q.id)

one_of_three : (p q : Pair) → Trichotomy p q → (is_less p q ≡ true) ⊎ ((p ≡ q) ⊎ (is_less q p ≡ true))
one_of_three p q (less a b) = inl a
one_of_three p q (same e) = inr (inl e)
one_of_three p q (more a b) = inr (inr b)

pub is_less_ranks : IsRanking is_less
is_less_ranks = record {
  irreflexive = not_self;
  asymmetric = not_above;
  transitive = less_through;
  total = λ p q. one_of_three p q (order p q);
}

less_of_three : (p q : Pair) → (p ≡ q → ⊥) → is_less q p ≡ false → Trichotomy p q → is_less p q ≡ true
less_of_three p q ne h (less a b) = a
less_of_three p q ne h (same e) = absurd (ne e)
less_of_three p q ne h (more a b) = cc

-- of two pairs that differ, one that is at most the other is less
pub less_where_apart : (p q : Pair) → (p ≡ q → ⊥) → is_less q p ≡ false → is_less p q ≡ true
less_where_apart p q ne h = less_of_three p q ne h (order p q)
