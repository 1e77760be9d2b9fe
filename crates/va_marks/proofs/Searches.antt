-- The least number that passes a test.
use Rattle.std.proofs.Common.{◌≡◌, ℕ, zero, suc, ◌+◌, ◌<◌, ◌≤◌, Bool, true, false, cond, sym, ap, ◌∙◌, arith, refl, ⊎_elim}
use Rattle.std.proofs.lemmas.Bool.{cases_Bool, cases_eq, cond-true, cond-false, false_from_ne_true, true≢false}
use Rattle.va_core.specs.Marks.{least_from}

-- a number that passes, where those before it don't, is the least
pub least_from_is : (test : ℕ → Bool) (k v x : ℕ) → v ≤ x → x < v + k → test x ≡ true → ((w : ℕ) → v ≤ w → w < x → test w ≡ false) → least_from test k v ≡ x
least_from_is test zero v x from inside passes before = absurd (omega arith)
least_from_is test (suc k) v x from inside passes before = ⊎_elim
    (λ (e : v ≡ x). let h : test v ≡ true = ap test e ∙ passes in cond-true (test v) v (least_from test k (v + 1)) h ∙ e)
    (λ (ne : v ≡ x → ⊥). let later : v < x = omega arith in
    cond-false (test v) v (least_from test k (v + 1)) (before v (omega arith) later) ∙ least_from_is test k (v + 1) x (omega arith) (omega arith) passes (λ w a b. before w (omega arith) b))
    (cases_eq v x)

-- tests that agree have the same least number
pub least_from_same : (test other : ℕ → Bool) (k v : ℕ) → ((w : ℕ) → w < v + k → test w ≡ other w) → least_from test k v ≡ least_from other k v
least_from_same test other zero v h = refl
least_from_same test other (suc k) v h =
    ap (λ b. cond b v (least_from test k (v + 1))) (h v (omega arith)) ∙ ap (λ n. cond (other v) v n) (least_from_same test other k (v + 1) (λ w l. h w (omega arith)))

pub least_from_at_most : (test : ℕ → Bool) (k v : ℕ) → least_from test k v ≤ v + k
least_from_at_most test zero v = omega arith
least_from_at_most test (suc k) v = ⊎_elim
    (λ (t : test v ≡ true). rw t (omega arith))
    (λ (f : test v ≡ false). let h : least_from test k (v + 1) ≤ v + 1 + k = least_from_at_most test k (v + 1) in rw f (omega arith))
    (cases_Bool (test v))

least_from_at_least : (test : ℕ → Bool) (k v : ℕ) → v ≤ least_from test k v
least_from_at_least test zero v = omega arith
least_from_at_least test (suc k) v = ⊎_elim
    (λ (t : test v ≡ true). rw t (omega arith))
    (λ (f : test v ≡ false). let h : v + 1 ≤ least_from test k (v + 1) = least_from_at_least test k (v + 1) in rw f (omega arith))
    (cases_Bool (test v))

-- a test that passes wherever another does has no greater least number
pub least_from_earlier : (test other : ℕ → Bool) → ((w : ℕ) → other w ≡ true → test w ≡ true) → (k v : ℕ) → least_from test k v ≤ least_from other k v
least_from_earlier test other h zero v = omega arith
least_from_earlier test other h (suc k) v = ⊎_elim
    (λ (t : test v ≡ true). rw t (least_from_at_least other (suc k) v))
    (λ (f : test v ≡ false). let g : other v ≡ false = false_from_ne_true (other v) (λ t. true≢false (sym (h v t) ∙ f)) in rw (f, g) (least_from_earlier test other h k (v + 1)))
    (cases_Bool (test v))
