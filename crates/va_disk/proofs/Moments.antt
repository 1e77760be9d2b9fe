-- How a run of calls goes on.
use Rattle.std.proofs.Common.{◌≡◌, inl, inr, ⊎_elim, ℕ, List, arith}
use Rattle.va_disk.specs.Crashes.{Elapses, Leaves, OnlyStartOr}

module _ {D : Type 0} (clock : D → ℕ) (left_since : D → ℕ → List ℕ → List ℕ → Type 0) where
  -- one call more, after which each outcome has P
  pub goes_on : (old mid new : D) (P : List ℕ → List ℕ → Type 0) (may_leave : List ℕ → Type 0) (given : List ℕ) → Leaves clock left_since old mid P
      → Elapses (clock mid) (clock new) (left_since mid) (left_since new) may_leave given → ((c : List ℕ) → may_leave c → P c given) → Leaves clock left_since old new P
  goes_on old mid new P may_leave given so_far time here = record {
    later = omega (arith, so_far.later, time.later);
    each = λ t c g le left. ⊎_elim (λ was. so_far.each t c g le was) (λ now. inr (first c g now)) (time.nothing_else t c g (omega (arith, le, so_far.later)) left);
  }
    where
      first : (c g : List ℕ) → may_leave c × (g ≡ given) → P c g
      first c g now = rw now.1 (here c now.0)

  -- P may be weakened
  pub weaker : (old new : D) (P Q : List ℕ → List ℕ → Type 0) → ((c g : List ℕ) → P c g → Q c g) → Leaves clock left_since old new P → Leaves clock left_since old new Q
  weaker old new P Q leads so_far = record { later = so_far.later; each = λ t c g le left. ⊎_elim (λ was. inl was) (λ has. inr (leads c g has)) (so_far.each t c g le left) }

  -- one run after another
  pub then_leaves : (old mid new : D) (P : List ℕ → List ℕ → Type 0) → Leaves clock left_since old mid P → Leaves clock left_since mid new P → Leaves clock left_since old new P
  then_leaves old mid new P before behind = record {
    later = omega (arith, before.later, behind.later);
    each = λ t c g le left. ⊎_elim (λ was. before.each t c g le was) (λ has. inr has) (behind.each t c g (omega (arith, le, before.later)) left);
  }

  -- nothing happened
  pub nothing_leaves : (state : D) (P : List ℕ → List ℕ → Type 0) → Leaves clock left_since state state P
  nothing_leaves state P = record { later = omega arith; each = λ t c g le left. inl left }

  -- the plain form at the end of a run
  pub only_start_or : (may_leave : D → List ℕ → Type 0) (given : D → List ℕ) → ((state : D) (c g : List ℕ) → left_since state (clock state) c g → may_leave state c × (g ≡ given state))
      → (old new : D) (P : List ℕ → List ℕ → Type 0) → Leaves clock left_since old new P → OnlyStartOr (may_leave old) (given old) (left_since new (clock old)) P
  only_start_or may_leave given only_now old new P run = λ c g left. ⊎_elim (λ was. inl (only_now old c g was)) (λ has. inr has) (run.each (clock old) c g (omega arith) left)
