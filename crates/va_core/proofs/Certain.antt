-- A certificate's core: the known pairs have the answer of every map, and another distance of a known member gives another answer.
use Rattle.std.proofs.Common.{◌≡◌, ◌≢◌, ℕ, ◌<◌, ◌≤◌, Bool, true, false, not, List, [], ◌∷◌, take, Option, None, slice_get, eqb, ltb, if◌then◌else◌, refl, ap, sym, ◌∙◌, subst, ◌⊎◌, inl, inr, arith}
use Rattle.std.specs.List.{filter, AllByRecursion}
use Rattle.std.proofs.lemmas.Bool.Decides.{nat_tests}
use Rattle.va_core.specs.declared.pair.Pair.{Pair}
use Rattle.va_core.specs.Ranking.{lesser, ascending, answer}
use Rattle.va_core.specs.Approximations.{NamesDiffer, paired, pairs}
use Rattle.va_core.specs.Kth.{kth, is_before, first_before}
use Rattle.va_core.proofs.Ranking.{all_ascending}
use Rattle.va_core.proofs.Nearest.{answer_is_first}
use Rattle.va_core.proofs.Knowing.{same_known, same_test, covered, checked_answer, lesser_part}
use Rattle.va_core.proofs.Members.{IsAmong, all_from, all_at, among_filter}
use Rattle.va_core.proofs.Sorting.{all_filter}
use Rattle.va_core.proofs.Telling.{NamesOnly, has_no_pair, answer_needs}
use Rattle.va_core.proofs.Checking.{Elsewhere, Unmoved, unmoved_from, unmoved_same}
use Rattle.va_core.proofs.Covering.{only_at, names_filter, named_pairs_differ, shut_out, out_shuts, all_shut_by}

-- the first k of the pairs of the known members
abbrev pub first_known : {X : Type 0} → (X → ℕ) → (X → ℕ) → (X → Bool) → List X → ℕ → List Pair
first_known name d known ms k = take k (ascending (pairs name d (filter known ms)))

-- each unknown member has k known pairs below its least pair
abbrev pub AreCovered : {X : Type 0} → (name low d : X → ℕ) → (X → Bool) → List X → ℕ → Type 0
AreCovered name low d known ms k = AllByRecursion (λ i. (known i ≡ true) ⊎ (k ≤ lesser (pairs name d (filter known ms)) (paired (low i) (name i)))) ms

first_is_answer : {X : Type 0} (name d : X → ℕ) (known : X → Bool) (ms : List X) (k : ℕ) → NamesDiffer name ms → first_known name d known ms k ≡ answer (pairs name d (filter known ms)) k
first_is_answer name d known ms k differ = sym (answer_is_first (pairs name d (filter known ms)) k (named_pairs_differ name d (filter known ms) (names_filter name known ms differ)))

clash : (a b : Bool) → a ≡ true → a ≡ false → ⊥
clash a b h g = let e : true ≡ false = sym h ∙ g in cc

unknown_only : {X : Type 0} (name low d : X → ℕ) (known : X → Bool) (i : X) (ms : List X) → NamesOnly name i ms → known i ≡ false → AllByRecursion (λ j. name j ≡ name i → d j ≡ low i → ⊥) (filter known ms)
unknown_only name low d known i [] only out = tt
unknown_only {X} name low d known i (j ∷ ms) only out = elim (known j) as (λ c. known j ≡ c → AllByRecursion (λ n. name n ≡ name i → d n ≡ low i → ⊥) (if c then j ∷ filter known ms else filter known ms)) [
  | true ↦ λ e. (λ n v. clash (known j) true e (subst (λ (x : X). known x ≡ false) (sym (only.0 n)) out), unknown_only name low d known i ms only.1 out)
  | false ↦ λ e. unknown_only name low d known i ms only.1 out
] refl

pub pairs_at : {X : Type 0} (P : Pair → Type 0) (name d : X → ℕ) (i : X) (ms : List X) → AllByRecursion P (pairs name d ms) → IsAmong i ms → P (paired (d i) (name i))
pairs_at P name d i [] h g = absurd g
pairs_at P name d i (j ∷ ms) h (inl e) = rw e h.0
pairs_at P name d i (j ∷ ms) h (inr g) = pairs_at P name d i ms h.1 g

not_true : (b : Bool) → b ≡ false → not b ≡ true
not_true b h = rw h refl

-- The least unknown pair is kept out, and so are all.
pub covered_by : {X : Type 0} (name low d : X → ℕ) (known : X → Bool) (ms : List X) (k : ℕ) → 1 ≤ k → NamesDiffer name ms →
    first_before (kth k (first_known name d known ms k)) (slice_get (ascending (pairs name low (filter (λ i. not (known i)) ms))) 0) ≡ None → AreCovered name low d known ms k
covered_by name low d known ms k some differ shut = all_from (λ i. (known i ≡ true) ⊎ (k ≤ lesser (pairs name d (filter known ms)) (paired (low i) (name i)))) ms
    (λ i in'. elim (known i) as (λ c. known i ≡ c → (c ≡ true) ⊎ (k ≤ lesser (pairs name d (filter known ms)) (paired (low i) (name i)))) [
      | true ↦ λ e. inl refl
      | false ↦ λ e. inr (shut_out k (pairs name d (filter known ms)) (paired (low i) (name i)) some
          (has_no_pair name d (low i) (name i) (filter known ms) (unknown_only name low d known i ms (only_at name ms i differ in') e))
          (pairs_at (λ q. is_before (kth k (first_known name d known ms k)) q ≡ false) name low i (filter (λ j. not (known j)) ms)
          (all_shut_by (kth k (first_known name d known ms k)) (pairs name low (filter (λ j. not (known j)) ms)) shut)
          (among_filter (λ j. not (known j)) i ms in' (not_true (known i) e))))
    ] refl)

open_none : (o : Option Pair) (l : List Pair) → AllByRecursion (λ q. is_before o q ≡ false) l → first_before o (slice_get l 0) ≡ None
open_none o [] h = refl
open_none o (p ∷ l) h = rw h.0 refl

second : {A : Type 0} → (false ≡ true) ⊎ A → A
second (inl e) = cc
second (inr a) = a

shut_each : {X : Type 0} (name low d : X → ℕ) (known : X → Bool) (all : List X) (k : ℕ) (ms : List X) → 1 ≤ k →
    AllByRecursion (λ i. (known i ≡ true) ⊎ (k ≤ lesser (pairs name d (filter known all)) (paired (low i) (name i)))) ms →
    AllByRecursion (λ q. is_before (kth k (first_known name d known all k)) q ≡ false) (pairs name low (filter (λ i. not (known i)) ms))
shut_each name low d known all k [] some h = tt
shut_each name low d known all k (i ∷ ms) some h = elim (known i) as (λ c. (c ≡ true) ⊎ (k ≤ lesser (pairs name d (filter known all)) (paired (low i) (name i))) →
    AllByRecursion (λ q. is_before (kth k (first_known name d known all k)) q ≡ false) (pairs name low (if not c then i ∷ filter (λ j. not (known j)) ms else filter (λ j. not (known j)) ms))) [
      | true ↦ λ g. shut_each name low d known all k ms some h.1
      | false ↦ λ g. (out_shuts k (pairs name d (filter known all)) (paired (low i) (name i)) some (second g), shut_each name low d known all k ms some h.1)
    ] h.0

pub shut_by_covered : {X : Type 0} (name low d : X → ℕ) (known : X → Bool) (ms : List X) (k : ℕ) → 1 ≤ k → AreCovered name low d known ms k →
    first_before (kth k (first_known name d known ms k)) (slice_get (ascending (pairs name low (filter (λ i. not (known i)) ms))) 0) ≡ None
shut_by_covered name low d known ms k some h =
    open_none (kth k (first_known name d known ms k)) (ascending (pairs name low (filter (λ i. not (known i)) ms)))
    (all_ascending (λ q. is_before (kth k (first_known name d known ms k)) q ≡ false) (pairs name low (filter (λ i. not (known i)) ms)) (shut_each name low d known ms k ms some h))

-- Every map that is nowhere below the least distances, and has the known ones, has the known answer.
pub known_answer : {X : Type 0} (name low d w : X → ℕ) (known : X → Bool) (ms : List X) (k : ℕ) → NamesDiffer name ms →
    AllByRecursion (λ i. low i ≤ w i) ms → AllByRecursion (λ i. known i ≡ true → w i ≡ d i) ms → AreCovered name low d known ms k → answer (pairs name w ms) k ≡ first_known name d known ms k
known_answer name low d w known ms k differ above same h =
    let now : pairs name w (filter known ms) ≡ pairs name d (filter known ms) = same_known name d w known ms same in
    checked_answer name low w known ms k above (subst (λ (ps : List Pair). AllByRecursion (λ i. (known i ≡ true) ⊎ (k ≤ lesser ps (paired (low i) (name i)))) ms) (sym now) h)
    ∙ (ap (λ (ps : List Pair). answer ps k) now ∙ sym (first_is_answer name d known ms k differ))

-- whether the known list stays, by counts
pub stays_from : {X : Type 0} (name d e : X → ℕ) (known : X → Bool) (i : X) (ms : List X) (k : ℕ) → NamesDiffer name ms → IsAmong i ms → known i ≡ true → Elsewhere d e i ms →
    first_known name e known ms k ≡ first_known name d known ms k → Unmoved name d e i k (filter known ms)
stays_from name d e known i ms k differ in' on else' same =
    unmoved_from name d e i k (filter known ms) (among_filter known i ms in' on) (all_filter (λ j. name j ≡ name i → j ≡ i) known ms (only_at name ms i differ in')) (all_filter (λ j. (j ≡ i) ⊎ (e j ≡ d j)) known ms else')
    (sym (first_is_answer name e known ms k differ) ∙ (same ∙ first_is_answer name d known ms k differ))

pub stays_by : {X : Type 0} (name d e : X → ℕ) (known : X → Bool) (i : X) (ms : List X) (k : ℕ) → NamesDiffer name ms → IsAmong i ms → Elsewhere d e i ms →
    Unmoved name d e i k (filter known ms) → first_known name e known ms k ≡ first_known name d known ms k
stays_by name d e known i ms k differ in' else' h =
    first_is_answer name e known ms k differ
    ∙ (unmoved_same name d e i k (filter known ms) (all_filter (λ j. name j ≡ name i → j ≡ i) known ms (only_at name ms i differ in')) (all_filter (λ j. (j ≡ i) ⊎ (e j ≡ d j)) known ms else') h
    ∙ sym (first_is_answer name d known ms k differ))

-- as many of all pairs are less as of the known ones, up to k
many_known : {X : Type 0} (name low d w : X → ℕ) (known : X → Bool) (ms : List X) (k : ℕ) (t : Pair) → AllByRecursion (λ i. low i ≤ w i) ms → AllByRecursion (λ i. known i ≡ true → w i ≡ d i) ms → AreCovered name low d known ms k →
    k ≤ lesser (pairs name w ms) t → k ≤ lesser (pairs name d (filter known ms)) t
many_known name low d w known ms k t above same h more =
    let now : pairs name w (filter known ms) ≡ pairs name d (filter known ms) = same_known name d w known ms same in
    let c = covered name low w known ms k ms above (subst (λ (ps : List Pair). AllByRecursion (λ i. (known i ≡ true) ⊎ (k ≤ lesser ps (paired (low i) (name i)))) ms) (sym now) h) in
    let test : ltb (lesser (pairs name w ms) t) k ≡ ltb (lesser (pairs name w (filter known ms)) t) k = same_test name w known ms k c t in
    let e : ltb (lesser (pairs name w ms) t) k ≡ false = grind (arith, nat_tests, more) in
    let f : ltb (lesser (pairs name w (filter known ms)) t) k ≡ false = sym test ∙ e in
    subst (λ (ps : List Pair). k ≤ lesser ps t) now (grind (arith, nat_tests, f))

unmoved_known : {X : Type 0} (name low d e w w' : X → ℕ) (known : X → Bool) (i : X) (ms : List X) (k : ℕ) → AllByRecursion (λ j. low j ≤ w j) ms → AllByRecursion (λ j. known j ≡ true → w j ≡ d j) ms → AreCovered name low d known ms k →
    w i ≡ d i → w' i ≡ e i → Unmoved name w w' i k ms → Unmoved name d e i k (filter known ms)
unmoved_known name low d e w w' known i ms k above same h was now (inl s) = inl (sym now ∙ (s ∙ was))
unmoved_known name low d e w w' known i ms k above same h was now (inr s) = inr (
  many_known name low d w known ms k (paired (d i) (name i)) above same h (rw was at s.0),
  many_known name low d w known ms k (paired (e i) (name i)) above same h (rw now at s.1),
)

-- Where the known list changes, the answer of every such map does.
pub known_tells : {X : Type 0} (name low d e w w' : X → ℕ) (known : X → Bool) (i : X) (ms : List X) (k : ℕ) → NamesDiffer name ms → IsAmong i ms → known i ≡ true →
    AllByRecursion (λ j. low j ≤ w j) ms → AllByRecursion (λ j. known j ≡ true → w j ≡ d j) ms → AreCovered name low d known ms k →
    Elsewhere w w' i ms → Elsewhere d e i ms → w' i ≡ e i → first_known name e known ms k ≢ first_known name d known ms k → answer (pairs name w' ms) k ≢ answer (pairs name w ms) k
known_tells name low d e w w' known i ms k differ in' on above same h moved other now changes equal =
    changes (stays_by name d e known i ms k differ in' other
    (unmoved_known name low d e w w' known i ms k above same h (all_at (λ j. known j ≡ true → w j ≡ d j) ms i same in' on) now
    (unmoved_from name w w' i k ms in' (only_at name ms i differ in') moved equal)))

-- A wide member with fewer than k pairs below its least pair changes the known list by its substitute.
pub needed_tells : {X : Type 0} (name low high d e : X → ℕ) (known : X → Bool) (i : X) (ms : List X) (k : ℕ) → NamesDiffer name ms → IsAmong i ms → known i ≡ true → low i < high i → low i ≤ d i →
    lesser (pairs name d ms) (paired (low i) (name i)) < k → Elsewhere d e i ms → e i ≡ (if eqb (d i) (low i) then high i else low i) → first_known name e known ms k ≢ first_known name d known ms k
needed_tells name low high d e known i ms k differ in' on wide below few else' at same =
    let part : lesser (pairs name d (filter known ms)) (paired (low i) (name i)) ≤ lesser (pairs name d ms) (paired (low i) (name i)) = lesser_part name d known ms (paired (low i) (name i)) in
    answer_needs name low high d i k (filter known ms) (among_filter known i ms in' on) (all_filter (λ j. name j ≡ name i → j ≡ i) known ms (only_at name ms i differ in')) wide below (omega (arith, part, few)) e
    (all_filter (λ j. (j ≡ i) ⊎ (e j ≡ d j)) known ms else') at
    (sym (first_is_answer name e known ms k differ) ∙ (same ∙ first_is_answer name d known ms k differ))
