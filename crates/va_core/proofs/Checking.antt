-- What decides whether an answer stays when one distance changes, and whether the known pairs have the answer of all.
use Rattle.std.proofs.Common.{◌≡◌, ◌≢◌, ℕ, ◌+◌, ◌<◌, ◌≤◌, Bool, true, false, not, List, [], ◌∷◌, eqb, ltb, if◌then◌else◌, refl, ap, sym, ◌∙◌, subst, ◌⊎◌, inl, inr, arith}
use Rattle.std.specs.List.{filter, AllByRecursion}
use Rattle.std.proofs.lemmas.Bool.Decides.{nat_tests}
use Rattle.va_core.specs.declared.pair.Pair.{Pair}
use Rattle.va_core.specs.Ranking.{is_less, lesser, answer}
use Rattle.va_core.specs.Approximations.{paired, pairs}
use Rattle.va_core.proofs.Order.{not_self, not_above}
use Rattle.va_core.proofs.Counting.{lesser_rises}
use Rattle.va_core.proofs.Knowing.{Covers, part_answers, same_known, lesser_known}
use Rattle.va_core.proofs.Members.{IsAmong}
use Rattle.va_core.proofs.Telling.{NamesOnly, told_apart}

-- the distances are those that they were, but for i's
abbrev pub Elsewhere : {X : Type 0} → (X → ℕ) → (X → ℕ) → X → List X → Type 0
Elsewhere d e i ms = AllByRecursion (λ j. (j ≡ i) ⊎ (e j ≡ d j)) ms

left_at : {X : Type 0} (name d e : X → ℕ) (i j : X) (n m : ℕ) → n ≤ m → (j ≡ i) ⊎ (e j ≡ d j) →
    (if is_less (paired (e j) (name j)) (paired (e i) (name i)) then 1 else 0) + n ≤ (if is_less (paired (d j) (name j)) (paired (e i) (name i)) then 1 else 0) + m
left_at name d e i j n m h (inl s) = let no : is_less (paired (e j) (name j)) (paired (e i) (name i)) ≡ false = rw s (not_self (paired (e i) (name i))) in rw no (omega (arith, h))
left_at name d e i j n m h (inr s) = rw s (omega (arith, h))

-- the pair that i has now had at least as many lesser pairs before
lesser_left : {X : Type 0} (name d e : X → ℕ) (i : X) (ms : List X) → Elsewhere d e i ms → lesser (pairs name e ms) (paired (e i) (name i)) ≤ lesser (pairs name d ms) (paired (e i) (name i))
lesser_left name d e i [] h = omega arith
lesser_left name d e i (j ∷ ms) h = left_at name d e i j (lesser (pairs name e ms) (paired (e i) (name i))) (lesser (pairs name d ms) (paired (e i) (name i))) (lesser_left name d e i ms h.1) h.0

-- what an answer rests on: i's distance is the same, or the k least pairs are below both
abbrev pub Unmoved : {X : Type 0} → (name d e : X → ℕ) → X → ℕ → List X → Type 0
Unmoved name d e i k ms = (e i ≡ d i) ⊎ ((k ≤ lesser (pairs name d ms) (paired (d i) (name i))) × (k ≤ lesser (pairs name d ms) (paired (e i) (name i))))

few_or_many : (n k : ℕ) → (n < k) ⊎ (k ≤ n)
few_or_many n k = elim (ltb n k) as (λ c. ltb n k ≡ c → (n < k) ⊎ (k ≤ n)) [
  | true ↦ λ e. inl (grind (arith, nat_tests))
  | false ↦ λ e. inr (grind (arith, nat_tests))
] refl

same_or_not : (n m : ℕ) → (n ≡ m) ⊎ (n ≢ m)
same_or_not n m = elim (eqb n m) as (λ c. eqb n m ≡ c → (n ≡ m) ⊎ (n ≢ m)) [
  | true ↦ λ e. inl (grind (arith, nat_tests))
  | false ↦ λ e. inr (λ s. grind (arith, nat_tests, e, s))
] refl

many : (n k : ℕ) → (n < k → ⊥) → k ≤ n
many n k h = elim (few_or_many n k) [ inl g ↦ absurd (h g) | inr g ↦ g ]

back_at : {X : Type 0} (d e : X → ℕ) (i j : X) → (j ≡ i) ⊎ (e j ≡ d j) → (j ≡ i) ⊎ (d j ≡ e j)
back_at d e i j (inl s) = inl s
back_at d e i j (inr s) = inr (sym s)

back : {X : Type 0} (d e : X → ℕ) (i : X) (ms : List X) → Elsewhere d e i ms → Elsewhere e d i ms
back d e i [] h = tt
back d e i (j ∷ ms) h = (back_at d e i j h.0, back d e i ms h.1)

pub unmoved_from : {X : Type 0} (name d e : X → ℕ) (i : X) (k : ℕ) (ms : List X) → IsAmong i ms → NamesOnly name i ms → Elsewhere d e i ms →
    answer (pairs name e ms) k ≡ answer (pairs name d ms) k → Unmoved name d e i k ms
unmoved_from name d e i k ms in' only else' same = elim (same_or_not (e i) (d i)) [
  | inl s ↦ inl s
  | inr ne ↦ inr (
    many (lesser (pairs name d ms) (paired (d i) (name i))) k (λ few. told_apart name d e i k ms in' only ne few same),
    many (lesser (pairs name d ms) (paired (e i) (name i))) k (λ few.
        let left : lesser (pairs name e ms) (paired (e i) (name i)) ≤ lesser (pairs name d ms) (paired (e i) (name i)) = lesser_left name d e i ms else' in
        told_apart name e d i k ms in' only (λ s. ne (sym s)) (omega (arith, left, few)) (sym same)),
  )
]

-- the others
is_other : {X : Type 0} → (X → ℕ) → X → X → Bool
is_other name i j = not (eqb (name j) (name i))

other_cases : {X : Type 0} (name : X → ℕ) (i j : X) → (name j ≡ name i → j ≡ i) → (is_other name i j ≡ true) ⊎ (j ≡ i)
unfolding is_other
other_cases name i j only = elim (eqb (name j) (name i)) as (λ c. eqb (name j) (name i) ≡ c → (not c ≡ true) ⊎ (j ≡ i)) [
  | true ↦ λ e. let n : name j ≡ name i = grind (arith, nat_tests, e) in inr (only n)
  | false ↦ λ e. inl refl
] refl

other_is : {X : Type 0} (name : X → ℕ) (i j : X) → is_other name i j ≡ true → j ≡ i → ⊥
unfolding is_other
other_is name i j h s = let e : eqb (name j) (name i) ≡ true = rw s (let t : eqb (name i) (name i) ≡ true = grind (arith, nat_tests) in t) in let h' : false ≡ true = rw e at h in cc

known_at : {X : Type 0} (name d : X → ℕ) (i j : X) (t : Pair) → is_less (paired (d i) (name i)) t ≡ false → (is_other name i j ≡ true) ⊎ (j ≡ i) → (is_other name i j ≡ true) ⊎ (is_less (paired (d j) (name j)) t ≡ false)
known_at name d i j t h (inl o) = inl o
known_at name d i j t h (inr s) = inr (rw s h)

others_known : {X : Type 0} (name d : X → ℕ) (i : X) (t : Pair) (ms : List X) → NamesOnly name i ms → is_less (paired (d i) (name i)) t ≡ false → AllByRecursion (λ j. (is_other name i j ≡ true) ⊎ (is_less (paired (d j) (name j)) t ≡ false)) ms
others_known name d i t [] only h = tt
others_known name d i t (j ∷ ms) only h = (known_at name d i j t h (other_cases name i j only.0), others_known name d i t ms only.1 h)

cover_at : {X : Type 0} (name e : X → ℕ) (i j : X) (all : List X) (k : ℕ) → k ≤ lesser (pairs name e (filter (is_other name i) all)) (paired (e i) (name i)) → (is_other name i j ≡ true) ⊎ (j ≡ i) →
    (is_other name i j ≡ true) ⊎ (k ≤ lesser (pairs name e (filter (is_other name i) all)) (paired (e j) (name j)))
cover_at name e i j all k h (inl o) = inl o
cover_at name e i j all k h (inr s) = inr (rw s h)

covers : {X : Type 0} (name e : X → ℕ) (i : X) (all : List X) (k : ℕ) (ms : List X) → NamesOnly name i ms → k ≤ lesser (pairs name e (filter (is_other name i) all)) (paired (e i) (name i)) → Covers name e (is_other name i) all k ms
covers name e i all k [] only h = tt
covers name e i all k (j ∷ ms) only h = (cover_at name e i j all k h (other_cases name i j only.0), covers name e i all k ms only.1 h)

others_same_at : {X : Type 0} (name d e : X → ℕ) (i j : X) → (j ≡ i) ⊎ (e j ≡ d j) → is_other name i j ≡ true → e j ≡ d j
others_same_at name d e i j (inl s) o = absurd (other_is name i j o s)
others_same_at name d e i j (inr s) o = s

others_same : {X : Type 0} (name d e : X → ℕ) (i : X) (ms : List X) → Elsewhere d e i ms → AllByRecursion (λ j. is_other name i j ≡ true → e j ≡ d j) ms
others_same name d e i [] h = tt
others_same name d e i (j ∷ ms) h = (others_same_at name d e i j h.0, others_same name d e i ms h.1)

-- every distance is the same
all_same_at : {X : Type 0} (d e : X → ℕ) (i j : X) → e i ≡ d i → (j ≡ i) ⊎ (e j ≡ d j) → e j ≡ d j
all_same_at d e i j h (inl s) = rw s h
all_same_at d e i j h (inr s) = s

pub pairs_same : {X : Type 0} (name d e : X → ℕ) (ms : List X) → AllByRecursion (λ j. e j ≡ d j) ms → pairs name e ms ≡ pairs name d ms
pairs_same name d e [] h = refl
pairs_same name d e (j ∷ ms) h = let rest : pairs name e ms ≡ pairs name d ms = pairs_same name d e ms h.1 in rw (h.0, rest) refl

all_same : {X : Type 0} (d e : X → ℕ) (i : X) (ms : List X) → e i ≡ d i → Elsewhere d e i ms → AllByRecursion (λ j. e j ≡ d j) ms
all_same d e i [] h g = tt
all_same d e i (j ∷ ms) h g = (all_same_at d e i j h g.0, all_same d e i ms h g.1)

still_many : {X : Type 0} (name d : X → ℕ) (i : X) (s : Pair) (k : ℕ) (ms : List X) → NamesOnly name i ms → k ≤ lesser (pairs name d ms) (paired (d i) (name i)) → k ≤ lesser (pairs name d ms) s →
    k ≤ lesser (pairs name d (filter (is_other name i) ms)) s
still_many name d i s k ms only own its =
    let p = paired (d i) (name i) in
    let same : lesser (pairs name d ms) (paired (d i) (name i)) ≡ lesser (pairs name d (filter (is_other name i) ms)) (paired (d i) (name i)) = lesser_known name d (is_other name i) ms (paired (d i) (name i)) (others_known name d i (paired (d i) (name i)) ms only (not_self (paired (d i) (name i)))) in
    elim (is_less (paired (d i) (name i)) s) as (λ c. is_less (paired (d i) (name i)) s ≡ c → k ≤ lesser (pairs name d (filter (is_other name i) ms)) s) [
      | true ↦ λ e. let up : lesser (pairs name d (filter (is_other name i) ms)) (paired (d i) (name i)) ≤ lesser (pairs name d (filter (is_other name i) ms)) s = lesser_rises (pairs name d (filter (is_other name i) ms)) (paired (d i) (name i)) s (not_above (paired (d i) (name i)) s e) in omega (arith, same, up, own)
      | false ↦ λ e. let now : lesser (pairs name d ms) s ≡ lesser (pairs name d (filter (is_other name i) ms)) s = lesser_known name d (is_other name i) ms s (others_known name d i s ms only e) in omega (arith, now, its)
    ] refl

pub unmoved_same : {X : Type 0} (name d e : X → ℕ) (i : X) (k : ℕ) (ms : List X) → NamesOnly name i ms → Elsewhere d e i ms → Unmoved name d e i k ms → answer (pairs name e ms) k ≡ answer (pairs name d ms) k
unmoved_same name d e i k ms only else' (inl s) = ap (λ (ps : List Pair). answer ps k) (pairs_same name d e ms (all_same d e i ms s else'))
unmoved_same name d e i k ms only else' (inr h) =
    let rest : pairs name e (filter (is_other name i) ms) ≡ pairs name d (filter (is_other name i) ms) = same_known name d e (is_other name i) ms (others_same name d e i ms else') in
    let old : k ≤ lesser (pairs name d (filter (is_other name i) ms)) (paired (d i) (name i)) = still_many name d i (paired (d i) (name i)) k ms only h.0 h.0 in
    let new : k ≤ lesser (pairs name d (filter (is_other name i) ms)) (paired (e i) (name i)) = still_many name d i (paired (e i) (name i)) k ms only h.0 h.1 in
    let new' : k ≤ lesser (pairs name e (filter (is_other name i) ms)) (paired (e i) (name i)) = subst (λ (ps : List Pair). k ≤ lesser ps (paired (e i) (name i))) (sym rest) new in
    part_answers name e (is_other name i) ms k (covers name e i ms k ms only new')
    ∙ (ap (λ (ps : List Pair). answer ps k) rest
    ∙ sym (part_answers name d (is_other name i) ms k (covers name d i ms k ms only old)))
