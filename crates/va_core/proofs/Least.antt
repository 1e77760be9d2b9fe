-- What is needed of a map determines its answer, and whatever determines the answer has what is needed.
use Rattle.std.proofs.Common.{◌≡◌, ◌≢◌, ℕ, ◌<◌, ◌≤◌, Bool, true, false, not, ◌&&◌, ◌||◌, List, eqb, leb, if◌then◌else◌, refl, ap, sym, ◌∙◌, subst, ◌⊎◌, inl, inr, arith}
use Rattle.std.specs.List.{AllByRecursion}
use Rattle.std.proofs.lemmas.Bool.Decides.{nat_tests}
use Rattle.va_core.specs.Ranking.{lesser}
use Rattle.va_core.specs.Approximations.{Approximations, NamesDiffer, paired, pairs, is_wide, is_near, is_needed, is_needed_within}
use Rattle.va_core.specs.Boxes.{Span, Lies, low_of, high_of, substitute}
use Rattle.va_core.specs.Determining.{AllLie, Agrees, Determines, IsLeast, bounded, nearest_of, within_of, replaced}
use Rattle.va_core.proofs.Knowing.{answer_determined}
use Rattle.va_core.proofs.Members.{IsAmong, all_from, all_at}
use Rattle.va_core.proofs.Covering.{only_at}
use Rattle.va_core.proofs.Boxes.{substitute_found}
use Rattle.va_core.proofs.Telling.{answer_needs, within_told_apart, within_determined}
use Rattle.va_core.proofs.Boxes.{low_least, high_greatest}

-- a box that holds the vector has it between its bounds
pub between : {X : Type 0} (name : X → ℕ) (f : List ℕ → ℕ) (boxes : X → List Span) (ids : List X) (map : X → List ℕ) → AllLie boxes ids map → (i : X) → IsAmong i ids →
    ((bounded name f boxes).low i ≤ f (map i)) × (f (map i) ≤ (bounded name f boxes).high i)
between name f boxes ids map lies i h = let l : Lies (boxes i) (map i) = all_at (λ j. Lies (boxes j) (map j)) ids i lies h in
    (low_least f (boxes i) (map i) l, high_greatest f (boxes i) (map i) l)

-- narrow, or needed
is_known : {X : Type 0} → Approximations X → List X → (X → ℕ) → ℕ → X → Bool
is_known s ids d k i = is_needed s ids d k i || not (is_wide s i)

known_same : {X : Type 0} (s : Approximations X) (ids : List X) (d e : X → ℕ) (k : ℕ) (i : X) → s.low i ≤ d i → d i ≤ s.high i → s.low i ≤ e i → e i ≤ s.high i →
    (is_needed s ids d k i ≡ true → e i ≡ d i) → is_known s ids d k i ≡ true → e i ≡ d i
unfolding is_known
known_same s ids d e k i a b c g read known = elim (is_needed s ids d k i) as (λ t. is_needed s ids d k i ≡ t → e i ≡ d i) [
  | true ↦ λ t. read t
  | false ↦ λ t. let narrow : not (is_wide s i) ≡ true = rw t at known in
      let equal : s.high i ≤ s.low i = grind (arith, nat_tests, narrow) in omega (arith, a, b, c, g, equal)
] refl

known_or_beyond : {X : Type 0} (s : Approximations X) (ids : List X) (d : X → ℕ) (k : ℕ) (i : X) → (is_known s ids d k i ≡ true) ⊎ (k ≤ lesser (pairs s.name d ids) (paired (s.low i) (s.name i)))
unfolding is_known
known_or_beyond s ids d k i = elim (is_wide s i) as (λ t. is_wide s i ≡ t → (is_known s ids d k i ≡ true) ⊎ (k ≤ lesser (pairs s.name d ids) (paired (s.low i) (s.name i)))) [
  | true ↦ λ w. elim (is_near s ids d k i) as (λ t. is_near s ids d k i ≡ t → (is_known s ids d k i ≡ true) ⊎ (k ≤ lesser (pairs s.name d ids) (paired (s.low i) (s.name i)))) [
    | true ↦ λ n. inl (rw (w, n) refl)
    | false ↦ λ n. inr (grind (arith, nat_tests, n))
  ] refl
  | false ↦ λ w. inl (rw w refl)
] refl

pub nearest_enough : {X : Type 0} (name : X → ℕ) (f : List ℕ → ℕ) (boxes : X → List Span) (ids : List X) (k : ℕ) (map : X → List ℕ) → AllLie boxes ids map →
    Determines (nearest_of name f ids k) boxes ids (is_needed (bounded name f boxes) ids (λ i. f (map i)) k) map
nearest_enough {X} name f boxes ids k map lies new agrees =
    let s = bounded name f boxes in
    let d : X → ℕ = λ i. f (map i) in
    let e : X → ℕ = λ i. f (new i) in
    answer_determined name s.low d e (is_known s ids d k) ids k
    (all_from (λ i. s.low i ≤ d i) ids (λ i h. (between name f boxes ids map lies i h).0))
    (all_from (λ i. s.low i ≤ e i) ids (λ i h. (between name f boxes ids new agrees.lies i h).0))
    (all_from (λ i. is_known s ids d k i ≡ true → e i ≡ d i) ids (λ i h.
    let old = between name f boxes ids map lies i h in let now = between name f boxes ids new agrees.lies i h in
    known_same s ids d e k i old.0 old.1 now.0 now.1 (λ read. ap f (all_at (λ j. is_needed s ids d k j ≡ true → new j ≡ map j) ids i agrees.equal h read))))
    (all_from (λ i. (is_known s ids d k i ≡ true) ⊎ (k ≤ lesser (pairs name d ids) (paired (s.low i) (name i)))) ids (λ i h. known_or_beyond s ids d k i))

pub replaced_same : {X : Type 0} (name : X → ℕ) (map : X → List ℕ) (i : X) (x : List ℕ) → replaced name map i x i ≡ x
replaced_same name map i x = let t : eqb (name i) (name i) ≡ true = grind (arith, nat_tests) in rw t refl

replaced_other : {X : Type 0} (name : X → ℕ) (map : X → List ℕ) (i : X) (x : List ℕ) (j : X) → (name j ≡ name i → j ≡ i) → (j ≡ i) ⊎ (replaced name map i x j ≡ map j)
replaced_other name map i x j only = elim (eqb (name j) (name i)) as (λ c. eqb (name j) (name i) ≡ c → (j ≡ i) ⊎ (replaced name map i x j ≡ map j)) [
  | true ↦ λ e. let n : name j ≡ name i = grind (arith, nat_tests, e) in inl (only n)
  | false ↦ λ e. inr (rw e refl)
] refl

pub only_one : {X : Type 0} (name : X → ℕ) (ids : List X) (i j : X) → NamesDiffer name ids → IsAmong i ids → IsAmong j ids → name j ≡ name i → j ≡ i
only_one name ids i j differ in' g = all_at (λ n. name n ≡ name i → n ≡ i) ids j (only_at name ids i differ in') g

replaced_lies_at : {X : Type 0} (name : X → ℕ) (boxes : X → List Span) (map : X → List ℕ) (i : X) (x : List ℕ) (j : X) → Lies (boxes i) x → Lies (boxes j) (map j) → (j ≡ i) ⊎ (replaced name map i x j ≡ map j) → Lies (boxes j) (replaced name map i x j)
replaced_lies_at {X} name boxes map i x j h g (inl e) = subst (λ (n : X). Lies (boxes n) (replaced name map i x n)) (sym e) (subst (λ (z : List ℕ). Lies (boxes i) z) (sym (replaced_same name map i x)) h)
replaced_lies_at name boxes map i x j h g (inr e) = subst (λ (z : List ℕ). Lies (boxes j) z) (sym e) g

replaced_equal_at : {X : Type 0} (name : X → ℕ) (other : X → Bool) (map : X → List ℕ) (i : X) (x : List ℕ) (j : X) → other i ≡ false → (j ≡ i) ⊎ (replaced name map i x j ≡ map j) → other j ≡ true → replaced name map i x j ≡ map j
replaced_equal_at {X} name other map i x j out (inl e) h = let h' : other i ≡ true = subst (λ (n : X). other n ≡ true) e h in cc
replaced_equal_at name other map i x j out (inr e) h = e

pub replaced_agrees : {X : Type 0} (name : X → ℕ) (boxes : X → List Span) (ids : List X) (other : X → Bool) (map : X → List ℕ) (i : X) (x : List ℕ) → NamesDiffer name ids → IsAmong i ids → AllLie boxes ids map → Lies (boxes i) x → other i ≡ false →
    Agrees boxes ids other map (replaced name map i x)
replaced_agrees name boxes ids other map i x differ in' lies h out = record {
  lies = all_from (λ j. Lies (boxes j) (replaced name map i x j)) ids (λ j g. replaced_lies_at name boxes map i x j h (all_at (λ n. Lies (boxes n) (map n)) ids j lies g)
      (replaced_other name map i x j (only_one name ids i j differ in' g)));
  equal = all_from (λ j. other j ≡ true → replaced name map i x j ≡ map j) ids (λ j g. replaced_equal_at name other map i x j out (replaced_other name map i x j (only_one name ids i j differ in' g)));
}

other_distance : {X : Type 0} (name : X → ℕ) (f : List ℕ → ℕ) (map : X → List ℕ) (i : X) (x : List ℕ) (j : X) → (j ≡ i) ⊎ (replaced name map i x j ≡ map j) → (j ≡ i) ⊎ (f (replaced name map i x j) ≡ f (map j))
other_distance name f map i x j (inl e) = inl e
other_distance name f map i x j (inr e) = inr (ap f e)

and_first : (a b : Bool) → (a && b) ≡ true → a ≡ true
and_first true b h = refl
and_first false b h = h

and_second : (a b : Bool) → (a && b) ≡ true → b ≡ true
and_second true b h = h
and_second false b h = cc

-- The map with the substitute in place of a needed vector has another answer.
pub substitute_tells : {X : Type 0} (name : X → ℕ) (f : List ℕ → ℕ) (boxes : X → List Span) (ids : List X) (k : ℕ) (map : X → List ℕ) → NamesDiffer name ids → AllLie boxes ids map → (i : X) → IsAmong i ids →
    is_needed (bounded name f boxes) ids (λ j. f (map j)) k i ≡ true → nearest_of name f ids k (replaced name map i (substitute f (boxes i) (map i))) ≢ nearest_of name f ids k map
substitute_tells {X} name f boxes ids k map differ lies i in' need =
    let s = bounded name f boxes in
    let d : X → ℕ = λ j. f (map j) in
    let x = substitute f (boxes i) (map i) in
    let l : Lies (boxes i) (map i) = all_at (λ j. Lies (boxes j) (map j)) ids i lies in' in
    let wide : is_wide s i ≡ true = and_first (is_wide s i) (is_near s ids d k i) need in
    let near : is_near s ids d k i ≡ true = and_second (is_wide s i) (is_near s ids d k i) need in
    answer_needs name s.low s.high d i k ids in' (only_at name ids i differ in') (grind (arith, nat_tests, wide)) (low_least f (boxes i) (map i) l) (grind (arith, nat_tests, near))
    (λ j. f (replaced name map i x j))
    (all_from (λ j. (j ≡ i) ⊎ (f (replaced name map i x j) ≡ f (map j))) ids (λ j g. other_distance name f map i x j (replaced_other name map i x j (only_one name ids i j differ in' g))))
    (ap f (replaced_same name map i x) ∙ (substitute_found f (boxes i) (map i) l).1)

-- whatever determines has what is needed, if each needed member shows it by its substitute
needs_each : {X A : Type 0} (name : X → ℕ) (answers : (X → List ℕ) → A) (f : List ℕ → ℕ) (boxes : X → List Span) (ids : List X) (known other : X → Bool) (map : X → List ℕ) → NamesDiffer name ids → AllLie boxes ids map →
    Determines answers boxes ids other map → (i : X) → IsAmong i ids → (known i ≡ true → answers (replaced name map i (substitute f (boxes i) (map i))) ≢ answers map) → known i ≡ true → other i ≡ true
needs_each name answers f boxes ids known other map differ lies determines i in' tells known' = elim (other i) as (λ c. other i ≡ c → c ≡ true) [
  | true ↦ λ e. refl
  | false ↦ λ e. let l : Lies (boxes i) (map i) = all_at (λ j. Lies (boxes j) (map j)) ids i lies in' in
      absurd (tells known' (determines (replaced name map i (substitute f (boxes i) (map i)))
      (replaced_agrees name boxes ids other map i (substitute f (boxes i) (map i)) differ in' lies (substitute_found f (boxes i) (map i) l).0 e)))
] refl

-- What is needed for the k nearest is the least set that determines them.
pub nearest_least : {X : Type 0} (name : X → ℕ) (f : List ℕ → ℕ) (boxes : X → List Span) (ids : List X) (k : ℕ) (map : X → List ℕ) → NamesDiffer name ids → AllLie boxes ids map →
    IsLeast (nearest_of name f ids k) boxes ids (is_needed (bounded name f boxes) ids (λ i. f (map i)) k) map
nearest_least name f boxes ids k map differ lies = record {
  enough = nearest_enough name f boxes ids k map lies;
  needed = λ other determines. all_from (λ i. is_needed (bounded name f boxes) ids (λ j. f (map j)) k i ≡ true → other i ≡ true) ids (λ i in'.
      needs_each name (nearest_of name f ids k) f boxes ids (is_needed (bounded name f boxes) ids (λ j. f (map j)) k) other map differ lies determines i in' (substitute_tells name f boxes ids k map differ lies i in'));
}

-- the same for the pairs within a radius
within_enough_at : {X : Type 0} (s : Approximations X) (d e : X → ℕ) (r : ℕ) (i : X) → s.low i ≤ d i → d i ≤ s.high i → s.low i ≤ e i → e i ≤ s.high i → (is_needed_within s r i ≡ true → e i ≡ d i) → (e i ≡ d i) ⊎ ((r < d i) × (r < e i))
within_enough_at s d e r i a b c g read = elim (is_wide s i) as (λ t. is_wide s i ≡ t → (e i ≡ d i) ⊎ ((r < d i) × (r < e i))) [
  | true ↦ λ w. elim (leb (s.low i) r) as (λ t. leb (s.low i) r ≡ t → (e i ≡ d i) ⊎ ((r < d i) × (r < e i))) [
    | true ↦ λ n. inl (read (rw (w, n) refl))
    | false ↦ λ n. let h : r < s.low i = grind (arith, nat_tests, n) in inr (omega (arith, h, a), omega (arith, h, c))
  ] refl
  | false ↦ λ w. let h : s.high i ≤ s.low i = grind (arith, nat_tests, w) in inl (omega (arith, a, b, c, g, h))
] refl

pub within_enough : {X : Type 0} (name : X → ℕ) (f : List ℕ → ℕ) (boxes : X → List Span) (ids : List X) (r : ℕ) (map : X → List ℕ) → AllLie boxes ids map →
    Determines (within_of name f ids r) boxes ids (is_needed_within (bounded name f boxes) r) map
within_enough name f boxes ids r map lies new agrees = within_determined name (λ i. f (map i)) (λ i. f (new i)) r ids
    (all_from (λ i. (f (new i) ≡ f (map i)) ⊎ ((r < f (map i)) × (r < f (new i)))) ids (λ i h.
    let old = between name f boxes ids map lies i h in let now = between name f boxes ids new agrees.lies i h in
    within_enough_at (bounded name f boxes) (λ j. f (map j)) (λ j. f (new j)) r i old.0 old.1 now.0 now.1
    (λ read. ap f (all_at (λ j. is_needed_within (bounded name f boxes) r j ≡ true → new j ≡ map j) ids i agrees.equal h read))))

pub substitute_tells_within : {X : Type 0} (name : X → ℕ) (f : List ℕ → ℕ) (boxes : X → List Span) (ids : List X) (r : ℕ) (map : X → List ℕ) → NamesDiffer name ids → AllLie boxes ids map → (i : X) → IsAmong i ids →
    is_needed_within (bounded name f boxes) r i ≡ true → within_of name f ids r (replaced name map i (substitute f (boxes i) (map i))) ≢ within_of name f ids r map
substitute_tells_within name f boxes ids r map differ lies i in' need =
    let s = bounded name f boxes in
    let x = substitute f (boxes i) (map i) in
    let l : Lies (boxes i) (map i) = all_at (λ j. Lies (boxes j) (map j)) ids i lies in' in
    let only : AllByRecursion (λ n. name n ≡ name i → n ≡ i) ids = only_at name ids i differ in' in
    let wide : is_wide s i ≡ true = and_first (is_wide s i) (leb (s.low i) r) need in
    let near : leb (s.low i) r ≡ true = and_second (is_wide s i) (leb (s.low i) r) need in
    let wide' : low_of f (boxes i) < high_of f (boxes i) = grind (arith, nat_tests, wide) in
    let near' : low_of f (boxes i) ≤ r = grind (arith, nat_tests, near) in
    let at : f (replaced name map i x i) ≡ (if eqb (f (map i)) (low_of f (boxes i)) then high_of f (boxes i) else low_of f (boxes i)) = ap f (replaced_same name map i x) ∙ (substitute_found f (boxes i) (map i) l).1 in
    elim (eqb (f (map i)) (low_of f (boxes i))) as (λ c. eqb (f (map i)) (low_of f (boxes i)) ≡ c → within_of name f ids r (replaced name map i x) ≢ within_of name f ids r map) [
      | true ↦ λ t. let least : f (map i) ≡ low_of f (boxes i) = grind (arith, nat_tests, t) in
          let up : f (replaced name map i x i) ≡ high_of f (boxes i) = at ∙ rw t refl in
          within_told_apart name (λ j. f (map j)) (λ j. f (replaced name map i x j)) i r ids in' only (λ same. absurd (omega (arith, least, up, same, wide'))) (omega (arith, least, near'))
      | false ↦ λ t. let other : f (map i) ≢ low_of f (boxes i) = λ e. absurd (grind (arith, nat_tests, t, e)) in
          let down : f (replaced name map i x i) ≡ low_of f (boxes i) = at ∙ rw t refl in
          λ same. within_told_apart name (λ j. f (replaced name map i x j)) (λ j. f (map j)) i r ids in' only (λ e. other (e ∙ down)) (omega (arith, down, near')) (sym same)
    ] refl

pub within_least : {X : Type 0} (name : X → ℕ) (f : List ℕ → ℕ) (boxes : X → List Span) (ids : List X) (r : ℕ) (map : X → List ℕ) → NamesDiffer name ids → AllLie boxes ids map →
    IsLeast (within_of name f ids r) boxes ids (is_needed_within (bounded name f boxes) r) map
within_least name f boxes ids r map differ lies = record {
  enough = within_enough name f boxes ids r map lies;
  needed = λ other determines. all_from (λ i. is_needed_within (bounded name f boxes) r i ≡ true → other i ≡ true) ids (λ i in'.
      needs_each name (within_of name f ids r) f boxes ids (is_needed_within (bounded name f boxes) r) other map differ lies determines i in' (substitute_tells_within name f boxes ids r map differ lies i in'));
}
