-- Which pairs an answer holds, and that a distance which may change it must be known.
use Rattle.std.proofs.Common.{◌≡◌, ◌≢◌, ℕ, ◌+◌, ◌<◌, ◌≤◌, Bool, true, false, ◌&&◌, ◌||◌, List, [], ◌∷◌, eqb, ltb, leb, if◌then◌else◌, refl, ap, sym, ◌∙◌, ◌⊎◌, inl, inr, arith}
use Rattle.std.specs.List.{filter, AllByRecursion}
use Rattle.std.proofs.lemmas.Bool.Decides.{nat_tests}
use Rattle.va_core.specs.declared.pair.Pair.{Pair}
use Rattle.va_core.specs.Ranking.{is_less, lesser, placed, ascending, answer, within}
use Rattle.va_core.specs.Approximations.{paired, pairs}
use Rattle.va_core.proofs.Members.{IsAmong}
use Rattle.va_core.proofs.Order.{not_self}

abbrev pub is_same : Pair → Pair → Bool
is_same p q = eqb p.dist q.dist && eqb p.id q.id

-- whether p is one of the pairs
abbrev pub has : Pair → List Pair → Bool
has p [] = false
has p (q ∷ ps) = is_same p q || has p ps

or_swap : (a b c : Bool) → (a || (b || c)) ≡ (b || (a || c))
or_swap true true c = refl
or_swap true false c = refl
or_swap false true c = refl
or_swap false false c = refl

has_placed : (p q : Pair) (l : List Pair) → has p (placed q l) ≡ has p (q ∷ l)
has_placed p q [] = refl
has_placed p q (r ∷ l) = elim (is_less r q) as (λ c. is_less r q ≡ c → has p (placed q (r ∷ l)) ≡ has p (q ∷ (r ∷ l))) [
  | true ↦ λ e. rw (e, has_placed p q l) (or_swap (is_same p r) (is_same p q) (has p l))
  | false ↦ λ e. rw e refl
] refl

pub has_ascending : (p : Pair) (l : List Pair) → has p (ascending l) ≡ has p l
has_ascending p [] = refl
has_ascending p (q ∷ l) = has_placed p q (ascending l) ∙ ap (λ (b : Bool). is_same p q || b) (has_ascending p l)

same_pair : (p q : Pair) → is_same p q ≡ true → p ≡ q
same_pair p q h =
    let a : p.dist ≡ q.dist = grind (arith, nat_tests, h) in
    let b : p.id ≡ q.id = grind (arith, nat_tests, h) in
    let with_dist : ℕ → Pair = λ n. record { dist = n; id = p.id } in
    let with_id : ℕ → Pair = λ n. record { dist = q.dist; id = n } in
    ap with_dist a ∙ ap with_id b

or_false : (b : Bool) → (b || false) ≡ b
or_false true = refl
or_false false = refl

-- a filter keeps p if p passes, and else drops it
has_filter : (p : Pair) (test : Pair → Bool) (ps : List Pair) → has p (filter test ps) ≡ (test p && has p ps)
has_filter p test [] = elim (test p) as (λ c. false ≡ (c && false)) [ true ↦ refl | false ↦ refl ]
has_filter p test (q ∷ ps) = let rest : has p (filter test ps) ≡ (test p && has p ps) = has_filter p test ps in
    elim (is_same p q) as (λ c. is_same p q ≡ c → has p (filter test (q ∷ ps)) ≡ (test p && has p (q ∷ ps))) [
      | true ↦ λ e. let same : p ≡ q = same_pair p q e in
          elim (test q) as (λ c. test q ≡ c → has p (filter test (q ∷ ps)) ≡ (test p && has p (q ∷ ps))) [
            | true ↦ λ t. let tp : test p ≡ true = ap test same ∙ t in rw (t, tp, e) refl
            | false ↦ λ t. let tp : test p ≡ false = ap test same ∙ t in rw (t, tp) (rw tp at rest)
          ] refl
      | false ↦ λ e. elim (test q) as (λ c. test q ≡ c → has p (filter test (q ∷ ps)) ≡ (test p && has p (q ∷ ps))) [
        | true ↦ λ t. rw (t, e) rest
        | false ↦ λ t. rw (t, e) rest
      ] refl
    ] refl

pub has_answer : (p : Pair) (ps : List Pair) (k : ℕ) → has p (answer ps k) ≡ (ltb (lesser ps p) k && has p ps)
has_answer p ps k = has_ascending p (filter (λ q. ltb (lesser ps q) k) ps) ∙ has_filter p (λ q. ltb (lesser ps q) k) ps

pub has_within : (p : Pair) (ps : List Pair) (r : ℕ) → has p (within ps r) ≡ (leb p.dist r && has p ps)
has_within p ps r = has_ascending p (filter (λ q. leb q.dist r) ps) ∙ has_filter p (λ q. leb q.dist r) ps

is_same_self : (p : Pair) → is_same p p ≡ true
is_same_self p = grind (arith, nat_tests)

pub has_pair : {X : Type 0} (name d : X → ℕ) (i : X) (ms : List X) → IsAmong i ms → has (paired (d i) (name i)) (pairs name d ms) ≡ true
has_pair name d i [] h = absurd h
has_pair name d i (j ∷ ms) (inl e) = rw (e, is_same_self (paired (d j) (name j))) refl
has_pair name d i (j ∷ ms) (inr h) = let rest : has (paired (d i) (name i)) (pairs name d ms) ≡ true = has_pair name d i ms h in
    elim (is_same (paired (d i) (name i)) (paired (d j) (name j))) as (λ c. (c || has (paired (d i) (name i)) (pairs name d ms)) ≡ true) [ true ↦ refl | false ↦ rest ]

not_same : (v n w m : ℕ) → (m ≡ n → w ≡ v → ⊥) → is_same (paired v n) (paired w m) ≡ false
not_same v n w m h = elim (is_same (paired v n) (paired w m)) as (λ c. is_same (paired v n) (paired w m) ≡ c → c ≡ false) [
  | true ↦ λ e. let a : v ≡ w = grind (arith, nat_tests, e) in let b : n ≡ m = grind (arith, nat_tests, e) in absurd (h (sym b) (sym a))
  | false ↦ λ e. refl
] refl

pub has_no_pair : {X : Type 0} (name d : X → ℕ) (v n : ℕ) (ms : List X) → AllByRecursion (λ j. name j ≡ n → d j ≡ v → ⊥) ms → has (paired v n) (pairs name d ms) ≡ false
has_no_pair name d v n [] h = refl
has_no_pair name d v n (j ∷ ms) h = let rest : has (paired v n) (pairs name d ms) ≡ false = has_no_pair name d v n ms h.1 in
    rw (not_same v n (d j) (name j) h.0, rest) refl

-- the members that have the name of i are i
abbrev pub NamesOnly : {X : Type 0} → (X → ℕ) → X → List X → Type 0
NamesOnly name i ms = AllByRecursion (λ j. name j ≡ name i → j ≡ i) ms

none_at : {X : Type 0} (name e : X → ℕ) (i : X) (v : ℕ) (ms : List X) → NamesOnly name i ms → e i ≢ v → AllByRecursion (λ j. name j ≡ name i → e j ≡ v → ⊥) ms
none_at name e i v [] only ne = tt
none_at name e i v (j ∷ ms) only ne = (λ n w. ne (sym (ap e (only.0 n)) ∙ w), none_at name e i v ms only.1 ne)

and_false : (b : Bool) → (b && false) ≡ false
and_false true = refl
and_false false = refl

not_below : (n low d : ℕ) → low ≤ d → is_less (paired d n) (paired low n) ≡ false
not_below n low d h = grind (arith, nat_tests)

-- i has the distance v in the one map and not in the other, and (v, name of i) is among the answer of the one
pub told_apart : {X : Type 0} (name d e : X → ℕ) (i : X) (k : ℕ) (ms : List X) → IsAmong i ms → NamesOnly name i ms → e i ≢ d i →
    lesser (pairs name d ms) (paired (d i) (name i)) < k → answer (pairs name e ms) k ≢ answer (pairs name d ms) k
told_apart name d e i k ms in' only ne few same =
    let p = paired (d i) (name i) in
    let passes : ltb (lesser (pairs name d ms) (paired (d i) (name i))) k ≡ true = grind (arith, nat_tests, few) in
    let here : has (paired (d i) (name i)) (answer (pairs name d ms) k) ≡ true = has_answer (paired (d i) (name i)) (pairs name d ms) k ∙ (rw passes (has_pair name d i ms in')) in
    let gone : has (paired (d i) (name i)) (pairs name e ms) ≡ false = has_no_pair name e (d i) (name i) ms (none_at name e i (d i) ms only ne) in
    let there : has (paired (d i) (name i)) (answer (pairs name e ms) k) ≡ (ltb (lesser (pairs name e ms) (paired (d i) (name i))) k && false) = has_answer (paired (d i) (name i)) (pairs name e ms) k ∙ rw gone refl in
    let no : has (paired (d i) (name i)) (answer (pairs name e ms) k) ≡ false = there ∙ and_false (ltb (lesser (pairs name e ms) (paired (d i) (name i))) k) in
    let clash : true ≡ false = sym here ∙ (sym (ap (has (paired (d i) (name i))) same) ∙ no) in cc

lesser_moved_at : {X : Type 0} (name low d e : X → ℕ) (i j : X) (ms : List X) → low i ≤ d i → e i ≡ low i →
    lesser (pairs name e ms) (paired (low i) (name i)) ≡ lesser (pairs name d ms) (paired (low i) (name i)) → (j ≡ i) ⊎ (e j ≡ d j) →
    lesser (pairs name e (j ∷ ms)) (paired (low i) (name i)) ≡ lesser (pairs name d (j ∷ ms)) (paired (low i) (name i))
lesser_moved_at name low d e i j ms h at rest (inl s) =
    let a : is_less (paired (e j) (name j)) (paired (low i) (name i)) ≡ false = rw (s, at) (not_self (paired (low i) (name i))) in
    let b : is_less (paired (d j) (name j)) (paired (low i) (name i)) ≡ false = rw s (not_below (name i) (low i) (d i) h) in
    rw (a, b) (ap (λ (n : ℕ). 0 + n) rest)
lesser_moved_at name low d e i j ms h at rest (inr s) = rw (s, rest) refl

-- other members have the distances that they had, so as many pairs are less than the least pair of i
lesser_moved : {X : Type 0} (name low d e : X → ℕ) (i : X) (ms : List X) → low i ≤ d i → e i ≡ low i → AllByRecursion (λ j. (j ≡ i) ⊎ (e j ≡ d j)) ms →
    lesser (pairs name e ms) (paired (low i) (name i)) ≡ lesser (pairs name d ms) (paired (low i) (name i))
lesser_moved name low d e i [] h at others = refl
lesser_moved name low d e i (j ∷ ms) h at others = let rest : lesser (pairs name e ms) (paired (low i) (name i)) ≡ lesser (pairs name d ms) (paired (low i) (name i)) = lesser_moved name low d e i ms h at others.1 in
    lesser_moved_at name low d e i j ms h at rest others.0

-- A wide member with fewer than k pairs below its least pair must be known: another distance of it, with all others as they are, gives another answer.
pub answer_needs : {X : Type 0} (name low high d : X → ℕ) (i : X) (k : ℕ) (ms : List X) → IsAmong i ms → NamesOnly name i ms → low i < high i → low i ≤ d i →
    lesser (pairs name d ms) (paired (low i) (name i)) < k → (e : X → ℕ) → AllByRecursion (λ j. (j ≡ i) ⊎ (e j ≡ d j)) ms →
    e i ≡ (if eqb (d i) (low i) then high i else low i) → answer (pairs name e ms) k ≢ answer (pairs name d ms) k
answer_needs name low high d i k ms in' only wide below few e others at =
    elim (eqb (d i) (low i)) as (λ c. eqb (d i) (low i) ≡ c → answer (pairs name e ms) k ≢ answer (pairs name d ms) k) [
      | true ↦ λ t. let least : d i ≡ low i = grind (arith, nat_tests, t) in
          let up : e i ≡ high i = at ∙ rw t refl in
          let few' : lesser (pairs name d ms) (paired (d i) (name i)) < k = rw least few in
          let ne : e i ≢ d i = λ same. absurd (omega (arith, least, up, same, wide)) in
          told_apart name d e i k ms in' only ne few'
      | false ↦ λ t. let other : d i ≢ low i = λ s. absurd (grind (arith, nat_tests, t, s)) in
          let down : e i ≡ low i = at ∙ rw t refl in
          let moved : lesser (pairs name e ms) (paired (low i) (name i)) ≡ lesser (pairs name d ms) (paired (low i) (name i)) = lesser_moved name low d e i ms below down others in
          let few' : lesser (pairs name e ms) (paired (e i) (name i)) < k = rw (down, moved) few in
          let ne : d i ≢ e i = λ same. other (same ∙ down) in
          λ same. told_apart name e d i k ms in' only ne few' (sym same)
    ] refl

-- the same for the pairs within a radius
pub within_told_apart : {X : Type 0} (name d e : X → ℕ) (i : X) (r : ℕ) (ms : List X) → IsAmong i ms → NamesOnly name i ms → e i ≢ d i → d i ≤ r → within (pairs name e ms) r ≢ within (pairs name d ms) r
within_told_apart name d e i r ms in' only ne few same =
    let passes : leb (d i) r ≡ true = grind (arith, nat_tests, few) in
    let here : has (paired (d i) (name i)) (within (pairs name d ms) r) ≡ true = has_within (paired (d i) (name i)) (pairs name d ms) r ∙ (rw passes (has_pair name d i ms in')) in
    let gone : has (paired (d i) (name i)) (pairs name e ms) ≡ false = has_no_pair name e (d i) (name i) ms (none_at name e i (d i) ms only ne) in
    let there : has (paired (d i) (name i)) (within (pairs name e ms) r) ≡ (leb (d i) r && false) = has_within (paired (d i) (name i)) (pairs name e ms) r ∙ rw gone refl in
    let no : has (paired (d i) (name i)) (within (pairs name e ms) r) ≡ false = there ∙ and_false (leb (d i) r) in
    let clash : true ≡ false = sym here ∙ (sym (ap (has (paired (d i) (name i))) same) ∙ no) in cc

-- distances that differ only where both are above the radius
within_kept_at : {X : Type 0} (name d e : X → ℕ) (r : ℕ) (i : X) (ms : List X) → filter (λ p. leb p.dist r) (pairs name e ms) ≡ filter (λ p. leb p.dist r) (pairs name d ms) →
    (e i ≡ d i) ⊎ ((r < d i) × (r < e i)) → filter (λ p. leb p.dist r) (pairs name e (i ∷ ms)) ≡ filter (λ p. leb p.dist r) (pairs name d (i ∷ ms))
within_kept_at name d e r i ms rest (inl h) = rw (h, rest) refl
within_kept_at name d e r i ms rest (inr h) = let a : leb (d i) r ≡ false = grind (arith, nat_tests, h.0) in let b : leb (e i) r ≡ false = grind (arith, nat_tests, h.1) in rw (a, b) rest

within_kept : {X : Type 0} (name d e : X → ℕ) (r : ℕ) (ms : List X) → AllByRecursion (λ i. (e i ≡ d i) ⊎ ((r < d i) × (r < e i))) ms → filter (λ p. leb p.dist r) (pairs name e ms) ≡ filter (λ p. leb p.dist r) (pairs name d ms)
within_kept name d e r [] h = refl
within_kept name d e r (i ∷ ms) h = within_kept_at name d e r i ms (within_kept name d e r ms h.1) h.0

pub within_determined : {X : Type 0} (name d e : X → ℕ) (r : ℕ) (ms : List X) → AllByRecursion (λ i. (e i ≡ d i) ⊎ ((r < d i) × (r < e i))) ms → within (pairs name e ms) r ≡ within (pairs name d ms) r
within_determined name d e r ms h = ap ascending (within_kept name d e r ms h)
