-- What of a list decides which pairs have fewer than k lesser ones.
use Rattle.std.proofs.Common.{◌≡◌, ℕ, ◌<◌, ◌≤◌, Bool, true, false, List, [], ◌∷◌, ltb, refl, ap, sym, ◌∙◌, ◌⊎◌, inl, inr, arith}
use Rattle.std.specs.List.{filter, AllByRecursion}
use Rattle.std.proofs.lemmas.Bool.Decides.{nat_tests}
use Rattle.va_core.specs.declared.pair.Pair.{Pair}
use Rattle.va_core.specs.Ranking.{is_less, lesser, ascending, answer}
use Rattle.va_core.specs.Approximations.{paired, pairs}
use Rattle.va_core.proofs.Order.{at_most_through, not_self, not_above}
use Rattle.va_core.proofs.Counting.{lesser_rises}

-- a part of a list has at most as many lesser pairs
pub lesser_part : {X : Type 0} (name d : X → ℕ) (known : X → Bool) (ms : List X) (t : Pair) → lesser (pairs name d (filter known ms)) t ≤ lesser (pairs name d ms) t
lesser_part name d known [] t = omega arith
lesser_part name d known (i ∷ ms) t = let r : lesser (pairs name d (filter known ms)) t ≤ lesser (pairs name d ms) t = lesser_part name d known ms t in
    elim (known i) as (λ c. known i ≡ c → lesser (pairs name d (filter known (i ∷ ms))) t ≤ lesser (pairs name d (i ∷ ms)) t) [
      | true ↦ λ e. rw e (omega (arith, r))
      | false ↦ λ e. rw e (omega (arith, r))
    ] refl

-- where no unknown member is less than t, the known ones count
pub lesser_known : {X : Type 0} (name d : X → ℕ) (known : X → Bool) (ms : List X) (t : Pair) →
    AllByRecursion (λ i. (known i ≡ true) ⊎ (is_less (paired (d i) (name i)) t ≡ false)) ms →
    lesser (pairs name d ms) t ≡ lesser (pairs name d (filter known ms)) t
lesser_known name d known [] t h = refl
lesser_known name d known (i ∷ ms) t h = let r : lesser (pairs name d ms) t ≡ lesser (pairs name d (filter known ms)) t = lesser_known name d known ms t h.1 in
    elim (known i) as (λ c. known i ≡ c → lesser (pairs name d (i ∷ ms)) t ≡ lesser (pairs name d (filter known (i ∷ ms))) t) [
      | true ↦ λ e. rw e (omega (arith, r))
      | false ↦ λ e. let out : is_less (paired (d i) (name i)) t ≡ false = grind (arith, h.0, e) in rw (e, out) (omega (arith, r))
    ] refl

-- k known pairs are less than the pair of each unknown member
abbrev pub Covers : {X : Type 0} → (name d : X → ℕ) → (known : X → Bool) → (all : List X) → ℕ → List X → Type 0
Covers name d known all k ms = AllByRecursion (λ i. (known i ≡ true) ⊎ (k ≤ lesser (pairs name d (filter known all)) (paired (d i) (name i)))) ms

out_below : {X : Type 0} (name d : X → ℕ) (known : X → Bool) (all : List X) (k : ℕ) (t : Pair) (i : X) → lesser (pairs name d (filter known all)) t < k →
    (known i ≡ true) ⊎ (k ≤ lesser (pairs name d (filter known all)) (paired (d i) (name i))) →
    (known i ≡ true) ⊎ (is_less (paired (d i) (name i)) t ≡ false)
out_below name d known all k t i few (inl h) = inl h
out_below name d known all k t i few (inr h) = elim (is_less (paired (d i) (name i)) t) as (λ c. is_less (paired (d i) (name i)) t ≡ c → (known i ≡ true) ⊎ (is_less (paired (d i) (name i)) t ≡ false)) [
  | true ↦ λ e. let no : is_less t (paired (d i) (name i)) ≡ false = not_above (paired (d i) (name i)) t e in
      let r : lesser (pairs name d (filter known all)) (paired (d i) (name i)) ≤ lesser (pairs name d (filter known all)) t = lesser_rises (pairs name d (filter known all)) (paired (d i) (name i)) t no in
      absurd (omega (arith, r, few, h))
  | false ↦ λ e. inr e
] refl

covers_out : {X : Type 0} (name d : X → ℕ) (known : X → Bool) (all : List X) (k : ℕ) (t : Pair) (ms : List X) → lesser (pairs name d (filter known all)) t < k → Covers name d known all k ms →
    AllByRecursion (λ i. (known i ≡ true) ⊎ (is_less (paired (d i) (name i)) t ≡ false)) ms
covers_out name d known all k t [] few h = tt
covers_out name d known all k t (i ∷ ms) few h = (out_below name d known all k t i few h.0, covers_out name d known all k t ms few h.1)

-- the whole list and its known part agree on which pairs have fewer than k lesser ones
pub same_test : {X : Type 0} (name d : X → ℕ) (known : X → Bool) (ms : List X) (k : ℕ) → Covers name d known ms k ms → (t : Pair) →
    ltb (lesser (pairs name d ms) t) k ≡ ltb (lesser (pairs name d (filter known ms)) t) k
same_test name d known ms k h t = elim (ltb (lesser (pairs name d (filter known ms)) t) k) as (λ c. ltb (lesser (pairs name d (filter known ms)) t) k ≡ c → ltb (lesser (pairs name d ms) t) k ≡ c) [
  | true ↦ λ e. let few : lesser (pairs name d (filter known ms)) t < k = grind (arith, nat_tests, e) in
      let same : lesser (pairs name d ms) t ≡ lesser (pairs name d (filter known ms)) t = lesser_known name d known ms t (covers_out name d known ms k t ms few h) in
      rw same e
  | false ↦ λ e. let more : lesser (pairs name d (filter known ms)) t ≤ lesser (pairs name d ms) t = lesser_part name d known ms t in
      grind (arith, nat_tests, e, more)
] refl

kept_known : {X : Type 0} (name d : X → ℕ) (known : X → Bool) (all : List X) (k : ℕ) → Covers name d known all k all → (ms : List X) → Covers name d known all k ms →
    filter (λ p. ltb (lesser (pairs name d all) p) k) (pairs name d ms) ≡ filter (λ p. ltb (lesser (pairs name d (filter known all)) p) k) (pairs name d (filter known ms))
kept_known name d known all k h [] g = refl
kept_known name d known all k h (i ∷ ms) g =
    let rest : filter (λ p. ltb (lesser (pairs name d all) p) k) (pairs name d ms) ≡ filter (λ p. ltb (lesser (pairs name d (filter known all)) p) k) (pairs name d (filter known ms)) = kept_known name d known all k h ms g.1 in
    let same : ltb (lesser (pairs name d all) (paired (d i) (name i))) k ≡ ltb (lesser (pairs name d (filter known all)) (paired (d i) (name i))) k = same_test name d known all k h (paired (d i) (name i)) in
    elim (known i) as (λ c. known i ≡ c → filter (λ p. ltb (lesser (pairs name d all) p) k) (pairs name d (i ∷ ms)) ≡ filter (λ p. ltb (lesser (pairs name d (filter known all)) p) k) (pairs name d (filter known (i ∷ ms)))) [
      | true ↦ λ e. rw (e, same, rest) refl
      | false ↦ λ e. let many : k ≤ lesser (pairs name d (filter known all)) (paired (d i) (name i)) = grind (arith, g.0, e) in
          let out : ltb (lesser (pairs name d (filter known all)) (paired (d i) (name i))) k ≡ false = grind (arith, nat_tests, many) in
          rw (e, same, out) rest
    ] refl

-- the known part of a list has the answer of the whole
pub part_answers : {X : Type 0} (name d : X → ℕ) (known : X → Bool) (ms : List X) (k : ℕ) → Covers name d known ms k ms →
    answer (pairs name d ms) k ≡ answer (pairs name d (filter known ms)) k
part_answers name d known ms k h = ap ascending (kept_known name d known ms k h ms h)

-- a bound below t that still has k lesser pairs, and that no least pair of an unknown member is below
record Floor {X : Type 0} (ps : List Pair) (name low : X → ℕ) (known : X → Bool) (k : ℕ) (t : Pair) (ms : List X) : Type 0 where
  at : Pair
  below : is_less t at ≡ false
  enough : k ≤ lesser ps at
  above : AllByRecursion (λ i. (known i ≡ true) ⊎ (is_less (paired (low i) (name i)) at ≡ false)) ms

lowered : {X : Type 0} (ps : List Pair) (name low : X → ℕ) (known : X → Bool) (k : ℕ) (s t : Pair) (i : X) (ms : List X) → is_less t s ≡ false → (known i ≡ true) ⊎ (is_less (paired (low i) (name i)) s ≡ false) →
    Floor ps name low known k s ms → Floor ps name low known k t (i ∷ ms)
lowered ps name low known k s t i ms h (inl g) f = record { at = f.at; below = at_most_through t f.at s f.below h; enough = f.enough; above = (inl g, f.above) }
lowered ps name low known k s t i ms h (inr g) f = record { at = f.at; below = at_most_through t f.at s f.below h; enough = f.enough; above = (inr (at_most_through (paired (low i) (name i)) f.at s f.below g), f.above) }

floor_at : {X : Type 0} (ps : List Pair) (name low : X → ℕ) (known : X → Bool) (k : ℕ) (t : Pair) (i : X) (ms : List X) → k ≤ lesser ps t →
    (known i ≡ true) ⊎ (k ≤ lesser ps (paired (low i) (name i))) → ((s : Pair) → k ≤ lesser ps s → Floor ps name low known k s ms) → Floor ps name low known k t (i ∷ ms)
floor_at ps name low known k t i ms h (inl g) rest = lowered ps name low known k t t i ms (not_self t) (inl g) (rest t h)
floor_at ps name low known k t i ms h (inr g) rest = elim (is_less (paired (low i) (name i)) t) as (λ c. is_less (paired (low i) (name i)) t ≡ c → Floor ps name low known k t (i ∷ ms)) [
  | true ↦ λ e. lowered ps name low known k (paired (low i) (name i)) t i ms (not_above (paired (low i) (name i)) t e) (inr (not_self (paired (low i) (name i)))) (rest (paired (low i) (name i)) g)
  | false ↦ λ e. lowered ps name low known k t t i ms (not_self t) (inr e) (rest t h)
] refl

floor : {X : Type 0} (ps : List Pair) (name low : X → ℕ) (known : X → Bool) (k : ℕ) (t : Pair) (ms : List X) → k ≤ lesser ps t →
    AllByRecursion (λ i. (known i ≡ true) ⊎ (k ≤ lesser ps (paired (low i) (name i)))) ms → Floor ps name low known k t ms
floor ps name low known k t [] h g = record { at = t; below = not_self t; enough = h; above = tt }
floor ps name low known k t (i ∷ ms) h g = floor_at ps name low known k t i ms h g.0 (λ s e. floor ps name low known k s ms e g.1)

pub raised : (n low d : ℕ) (t : Pair) → low ≤ d → is_less (paired low n) t ≡ false → is_less (paired d n) t ≡ false
raised n low d t h e = grind (arith, nat_tests)

raised_or : (n low d : ℕ) (c : Bool) (t : Pair) → low ≤ d → (c ≡ true) ⊎ (is_less (paired low n) t ≡ false) → (c ≡ true) ⊎ (is_less (paired d n) t ≡ false)
raised_or n low d c t h (inl g) = inl g
raised_or n low d c t h (inr g) = inr (raised n low d t h g)

raised_all : {X : Type 0} (name low d : X → ℕ) (known : X → Bool) (t : Pair) (ms : List X) → AllByRecursion (λ i. low i ≤ d i) ms →
    AllByRecursion (λ i. (known i ≡ true) ⊎ (is_less (paired (low i) (name i)) t ≡ false)) ms →
    AllByRecursion (λ i. (known i ≡ true) ⊎ (is_less (paired (d i) (name i)) t ≡ false)) ms
raised_all name low d known t [] h g = tt
raised_all name low d known t (i ∷ ms) h g = (raised_or (name i) (low i) (d i) (known i) t h.0 g.0, raised_all name low d known t ms h.1 g.1)

-- what is known of the members: their pairs are at least their least pairs, and the unknown ones have k lesser pairs
abbrev pub Beyond : {X : Type 0} → (name low d : X → ℕ) → (known : X → Bool) → (all : List X) → ℕ → List X → Type 0
Beyond name low d known all k ms = AllByRecursion (λ i. (known i ≡ true) ⊎ (k ≤ lesser (pairs name d all) (paired (low i) (name i)))) ms

-- where k pairs are less than t, k known pairs are
pub known_enough : {X : Type 0} (name low d : X → ℕ) (known : X → Bool) (ms : List X) (k : ℕ) (t : Pair) → AllByRecursion (λ i. low i ≤ d i) ms →
    Beyond name low d known ms k ms → k ≤ lesser (pairs name d ms) t → k ≤ lesser (pairs name d (filter known ms)) t
known_enough name low d known ms k t h g many =
    let f = floor (pairs name d ms) name low known k t ms many g in
    let same : lesser (pairs name d ms) f.at ≡ lesser (pairs name d (filter known ms)) f.at = lesser_known name d known ms f.at (raised_all name low d known f.at ms h f.above) in
    let up : lesser (pairs name d (filter known ms)) f.at ≤ lesser (pairs name d (filter known ms)) t = lesser_rises (pairs name d (filter known ms)) f.at t f.below in
    let enough : k ≤ lesser (pairs name d ms) f.at = f.enough in
    omega (arith, same, up, enough)

covers_at : {X : Type 0} (name low d e : X → ℕ) (known : X → Bool) (all : List X) (k : ℕ) (i : X) → AllByRecursion (λ i. low i ≤ d i) all → Beyond name low d known all k all → low i ≤ e i →
    pairs name e (filter known all) ≡ pairs name d (filter known all) →
    (known i ≡ true) ⊎ (k ≤ lesser (pairs name d all) (paired (low i) (name i))) →
    (known i ≡ true) ⊎ (k ≤ lesser (pairs name e (filter known all)) (paired (e i) (name i)))
covers_at name low d e known all k i h g up same (inl b) = inl b
covers_at name low d e known all k i h g up same (inr b) =
    let many : k ≤ lesser (pairs name d (filter known all)) (paired (low i) (name i)) = known_enough name low d known all k (paired (low i) (name i)) h g b in
    let rise : lesser (pairs name d (filter known all)) (paired (low i) (name i)) ≤ lesser (pairs name d (filter known all)) (paired (e i) (name i)) =
    lesser_rises (pairs name d (filter known all)) (paired (low i) (name i)) (paired (e i) (name i)) (raised (name i) (low i) (e i) (paired (low i) (name i)) up (not_self (paired (low i) (name i)))) in
    inr (rw same (omega (arith, many, rise)))

pub covers_all : {X : Type 0} (name low d e : X → ℕ) (known : X → Bool) (all : List X) (k : ℕ) (ms : List X) → AllByRecursion (λ i. low i ≤ d i) all → Beyond name low d known all k all → AllByRecursion (λ i. low i ≤ e i) ms →
    pairs name e (filter known all) ≡ pairs name d (filter known all) → Beyond name low d known all k ms → Covers name e known all k ms
covers_all name low d e known all k [] h g up same b = tt
covers_all name low d e known all k (i ∷ ms) h g up same b = (covers_at name low d e known all k i h g up.0 same b.0, covers_all name low d e known all k ms h g up.1 same b.1)

-- the same distances where they are known
pub same_known : {X : Type 0} (name d e : X → ℕ) (known : X → Bool) (ms : List X) → AllByRecursion (λ i. known i ≡ true → e i ≡ d i) ms →
    pairs name e (filter known ms) ≡ pairs name d (filter known ms)
same_known name d e known [] h = refl
same_known name d e known (i ∷ ms) h = let rest : pairs name e (filter known ms) ≡ pairs name d (filter known ms) = same_known name d e known ms h.1 in
    elim (known i) as (λ c. known i ≡ c → pairs name e (filter known (i ∷ ms)) ≡ pairs name d (filter known (i ∷ ms))) [
      | true ↦ λ t. let now : e i ≡ d i = h.0 t in rw (t, now, rest) refl
      | false ↦ λ t. rw t rest
    ] refl

-- What is known determines the answer: distances that are the same where known, and nowhere below the least ones, give the same answer.
pub answer_determined : {X : Type 0} (name low d e : X → ℕ) (known : X → Bool) (ms : List X) (k : ℕ) →
    AllByRecursion (λ i. low i ≤ d i) ms → AllByRecursion (λ i. low i ≤ e i) ms → AllByRecursion (λ i. known i ≡ true → e i ≡ d i) ms →
    Beyond name low d known ms k ms → answer (pairs name e ms) k ≡ answer (pairs name d ms) k
answer_determined name low d e known ms k below under same b =
    let known_same = same_known name d e known ms same in
    part_answers name e known ms k (covers_all name low d e known ms k ms below b under known_same b)
    ∙ (ap (λ (ps : List Pair). answer ps k) known_same
    ∙ sym (part_answers name d known ms k (covers_all name low d d known ms k ms below b below refl b)))

-- A checker's premise: where each unknown member has k known pairs below its least pair, the known part has the answer, whatever the unknown distances are.
covered_at : {X : Type 0} (name low e : X → ℕ) (known : X → Bool) (all : List X) (k : ℕ) (i : X) → low i ≤ e i → (known i ≡ true) ⊎ (k ≤ lesser (pairs name e (filter known all)) (paired (low i) (name i))) →
    (known i ≡ true) ⊎ (k ≤ lesser (pairs name e (filter known all)) (paired (e i) (name i)))
covered_at name low e known all k i h (inl b) = inl b
covered_at name low e known all k i h (inr b) = let up : lesser (pairs name e (filter known all)) (paired (low i) (name i)) ≤ lesser (pairs name e (filter known all)) (paired (e i) (name i)) =
    lesser_rises (pairs name e (filter known all)) (paired (low i) (name i)) (paired (e i) (name i)) (raised (name i) (low i) (e i) (paired (low i) (name i)) h (not_self (paired (low i) (name i)))) in inr (omega (arith, up, b))

pub covered : {X : Type 0} (name low e : X → ℕ) (known : X → Bool) (all : List X) (k : ℕ) (ms : List X) → AllByRecursion (λ i. low i ≤ e i) ms →
    AllByRecursion (λ i. (known i ≡ true) ⊎ (k ≤ lesser (pairs name e (filter known all)) (paired (low i) (name i)))) ms → Covers name e known all k ms
covered name low e known all k [] h g = tt
covered name low e known all k (i ∷ ms) h g = (covered_at name low e known all k i h.0 g.0, covered name low e known all k ms h.1 g.1)

pub checked_answer : {X : Type 0} (name low e : X → ℕ) (known : X → Bool) (ms : List X) (k : ℕ) → AllByRecursion (λ i. low i ≤ e i) ms →
    AllByRecursion (λ i. (known i ≡ true) ⊎ (k ≤ lesser (pairs name e (filter known ms)) (paired (low i) (name i)))) ms → answer (pairs name e ms) k ≡ answer (pairs name e (filter known ms)) k
checked_answer name low e known ms k h g = part_answers name e known ms k (covered name low e known ms k ms h g)
