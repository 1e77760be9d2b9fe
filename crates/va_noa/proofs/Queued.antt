-- What is queued while a scan goes on has each candidate.
use Rattle.std.proofs.Common.{◌≡◌, ◌≢◌, ℕ, ◌+◌, true, false, List, [], ◌∷◌, ◌++◌, filter, append_assoc, if◌then◌else◌, refl, ap, sym, ◌∙◌, arith}
use Rattle.std.specs.List.{AllByRecursion}
use Rattle.std.proofs.lemmas.Bool.Decides.{nat_tests}
use Rattle.std.proofs.lemmas.List.{append-nil, map-append}
use Rattle.va_core.specs.declared.pair.Pair.{Pair}
use Rattle.va_core.specs.Ranking.{lesser}
use Rattle.va_core.specs.Approximations.{Approximations, NamesDiffer, candidates, is_candidate, low_pair, paired, pairs}
use Rattle.va_core.proofs.Counting.{lesser_append}
use Rattle.va_noa.specs.Filling.{queued}

module _ {X : Type 0} (s : Approximations X) (k : ℕ) where
  pub queued_joined : (before a b : List X) → queued s k before (a ++ b) ≡ queued s k before a ++ queued s k (before ++ a) b
  queued_joined before [] b = ap (λ (l : List X). queued s k l b) (sym (append-nil before))
  queued_joined before (x ∷ a) b =
      let rest : queued s k (before ++ x ∷ []) (a ++ b) ≡ queued s k (before ++ x ∷ []) a ++ queued s k (before ++ x ∷ a) b =
      queued_joined (before ++ x ∷ []) a b ∙ ap (λ (l : List X). queued s k (before ++ x ∷ []) a ++ queued s k l b) (append_assoc before (x ∷ []) a) in
      elim (is_candidate s (before ++ x ∷ []) k x) as (λ c. (if c then x ∷ queued s k (before ++ x ∷ []) (a ++ b) else queued s k (before ++ x ∷ []) (a ++ b))
      ≡ (if c then x ∷ queued s k (before ++ x ∷ []) a else queued s k (before ++ x ∷ []) a) ++ queued s k (before ++ x ∷ a) b) [
        | true ↦ ap (λ (l : List X). x ∷ l) rest
        | false ↦ rest
      ]

  -- what holds of all holds of those that are queued
  pub queued_all : (P : X → Type 0) (before l : List X) → AllByRecursion P l → AllByRecursion P (queued s k before l)
  queued_all P before [] h = tt
  queued_all P before (x ∷ l) h =
      elim (is_candidate s (before ++ x ∷ []) k x) as (λ c. AllByRecursion P (if c then x ∷ queued s k (before ++ x ∷ []) l else queued s k (before ++ x ∷ []) l)) [
        | true ↦ (h.0, queued_all P (before ++ x ∷ []) l h.1)
        | false ↦ queued_all P (before ++ x ∷ []) l h.1
      ]

  pub queued_differ : (before l : List X) → NamesDiffer s.name l → NamesDiffer s.name (queued s k before l)
  queued_differ before [] h = tt
  queued_differ before (x ∷ l) h =
      elim (is_candidate s (before ++ x ∷ []) k x) as (λ c. NamesDiffer s.name (if c then x ∷ queued s k (before ++ x ∷ []) l else queued s k (before ++ x ∷ []) l)) [
        | true ↦ (queued_all (λ y. s.name y ≢ s.name x) (before ++ x ∷ []) l h.0, queued_differ (before ++ x ∷ []) l h.1)
        | false ↦ queued_differ (before ++ x ∷ []) l h.1
      ]

  -- what is no candidate among a part of the members is none among all
  dropped : (ms part rest : List X) (x : X) → ms ≡ part ++ rest → is_candidate s part k x ≡ false → is_candidate s ms k x ≡ false
  dropped ms part rest x split far =
      let sum : lesser (pairs s.name s.high part ++ pairs s.name s.high rest) (low_pair s x) ≡ lesser (pairs s.name s.high part) (low_pair s x) + lesser (pairs s.name s.high rest) (low_pair s x) = lesser_append (pairs s.name s.high part) (pairs s.name s.high rest) (low_pair s x) in
      let all : lesser (pairs s.name s.high ms) (low_pair s x) ≡ lesser (pairs s.name s.high part ++ pairs s.name s.high rest) (low_pair s x) =
      ap (λ (l : List X). lesser (pairs s.name s.high l) (low_pair s x)) split ∙ ap (λ (ps : List Pair). lesser ps (low_pair s x)) (map-append (λ (i : X). paired (s.high i) (s.name i)) part rest) in
      grind (arith, nat_tests, sum, all, far)

  queued_has : (ms before rest : List X) → ms ≡ before ++ rest → filter (is_candidate s ms k) (queued s k before rest) ≡ filter (is_candidate s ms k) rest
  queued_has ms before [] split = refl
  queued_has ms before (x ∷ rest) split =
      let split' : ms ≡ (before ++ x ∷ []) ++ rest = split ∙ sym (append_assoc before (x ∷ []) rest) in
      let more : filter (is_candidate s ms k) (queued s k (before ++ x ∷ []) rest) ≡ filter (is_candidate s ms k) rest = queued_has ms (before ++ x ∷ []) rest split' in
      elim (is_candidate s (before ++ x ∷ []) k x) as (λ c. is_candidate s (before ++ x ∷ []) k x ≡ c →
      filter (is_candidate s ms k) (if c then x ∷ queued s k (before ++ x ∷ []) rest else queued s k (before ++ x ∷ []) rest) ≡ filter (is_candidate s ms k) (x ∷ rest)) [
        | true ↦ λ e. elim (is_candidate s ms k x) as (λ c. (if c then x ∷ filter (is_candidate s ms k) (queued s k (before ++ x ∷ []) rest) else filter (is_candidate s ms k) (queued s k (before ++ x ∷ []) rest)) ≡ (if c then x ∷ filter (is_candidate s ms k) rest else filter (is_candidate s ms k) rest)) [
          | true ↦ ap (λ (l : List X). x ∷ l) more
          | false ↦ more
        ]
        | false ↦ λ e. let far : is_candidate s ms k x ≡ false = dropped ms (before ++ x ∷ []) rest x split' e in rw far more
      ] refl

  -- so the candidates are all queued
  pub queued_candidates : (ms : List X) → filter (is_candidate s ms k) (queued s k [] ms) ≡ candidates s ms k
  queued_candidates ms = queued_has ms [] ms refl
