-- Least where the boxes are known is least where the marks and the cells are, and the list of what is needed is a set.
use Rattle.std.proofs.Common.{◌≡◌, ◌≢◌, ℕ, Bool, true, false, ◌||◌, List, [], ◌∷◌, length, map, eqb, if◌then◌else◌, refl, ap, sym, ◌∙◌, subst, inl, inr, arith}
use Rattle.std.specs.List.{filter, AllByRecursion}
use Rattle.std.proofs.lemmas.Bool.Decides.{nat_tests}
use Rattle.va_core.specs.declared.pair.Pair.{Pair}
use Rattle.va_core.specs.Ranking.{is_less}
use Rattle.va_core.specs.Boxes.{Span, Lies}
use Rattle.va_core.specs.Marks.{AreValid, cell}
use Rattle.va_core.specs.Cells.{box}
use Rattle.va_core.specs.Vectors.{IsVector}
use Rattle.va_core.specs.Sorting.{placed_by, ascending_by}
use Rattle.va_core.specs.Approximations.{Approximations, NamesDiffer, is_needed, is_needed_within, low_pair, need, need_within}
use Rattle.va_core.specs.Determining.{AllLie, Agrees, IsLeast, bounded, nearest_of, within_of, is_listed, own_boxes, AllVectors, SharesCells, IsLeastUnder}
use Rattle.va_core.proofs.Members.{IsAmong, all_from, all_at}
use Rattle.va_core.proofs.Cells.{lies_in_own, names_own, cell_of_lying, vector_of_lying}
use Rattle.va_core.proofs.Least.{nearest_least, within_least}

pub own_lie : {X : Type 0} (marks : List (List ℕ)) (ms : List X) (old : X → List ℕ) → AreValid marks → AllVectors (length marks) ms old → AllLie (own_boxes marks old) ms old
own_lie marks ms old valid v = all_from (λ i. Lies (own_boxes marks old i) (old i)) ms (λ i h. lies_in_own marks (old i) valid (all_at (λ j. IsVector (length marks) (old j)) ms i v h))

-- to share the cells of a map is to lie in their boxes
shares_agrees : {X : Type 0} (marks : List (List ℕ)) (ms : List X) (known : X → Bool) (old new : X → List ℕ) → AreValid marks → SharesCells (length marks) marks ms known old new → Agrees (own_boxes marks old) ms known old new
shares_agrees marks ms known old new valid s = record {
  lies = all_from (λ i. Lies (own_boxes marks old i) (new i)) ms (λ i h. subst (λ (c : List ℕ). Lies (box marks c) (new i)) (all_at (λ j. cell marks (new j) ≡ cell marks (old j)) ms i s.cells h)
      (lies_in_own marks (new i) valid (all_at (λ j. IsVector (length marks) (new j)) ms i s.vectors h)));
  equal = s.equal;
}

agrees_shares : {X : Type 0} (marks : List (List ℕ)) (ms : List X) (known : X → Bool) (old new : X → List ℕ) → AreValid marks → AllVectors (length marks) ms old → Agrees (own_boxes marks old) ms known old new → SharesCells (length marks) marks ms known old new
agrees_shares marks ms known old new valid v s = record {
  vectors = all_from (λ i. IsVector (length marks) (new i)) ms (λ i h. vector_of_lying marks (cell marks (old i)) (new i) valid (names_own marks (old i) valid (all_at (λ j. IsVector (length marks) (old j)) ms i v h)) (all_at (λ j. Lies (own_boxes marks old j) (new j)) ms i s.lies h));
  cells = all_from (λ i. cell marks (new i) ≡ cell marks (old i)) ms (λ i h. cell_of_lying marks (cell marks (old i)) (new i) valid (names_own marks (old i) valid (all_at (λ j. IsVector (length marks) (old j)) ms i v h)) (all_at (λ j. Lies (own_boxes marks old j) (new j)) ms i s.lies h));
  equal = s.equal;
}

pub least_under : {X A : Type 0} (answers : (X → List ℕ) → A) (marks : List (List ℕ)) (ms : List X) (known : X → Bool) (old : X → List ℕ) → AreValid marks → AllVectors (length marks) ms old →
    IsLeast answers (own_boxes marks old) ms known old → IsLeastUnder answers (length marks) marks ms known old
least_under answers marks ms known old valid v l = record {
  enough = λ new s. l.enough new (shares_agrees marks ms known old new valid s);
  needed = λ other determines. l.needed other (λ new g. determines new (agrees_shares marks ms other old new valid v g));
}

-- the list of what is needed has exactly the members that are needed
or_swap : (a b c : Bool) → (a || (b || c)) ≡ (b || (a || c))
or_swap true true c = refl
or_swap true false c = refl
or_swap false true c = refl
or_swap false false c = refl

listed_placed : {X : Type 0} (name : X → ℕ) (key : X → Pair) (x : X) (l : List X) (i : X) → is_listed name (map name (placed_by key x l)) i ≡ is_listed name (map name (x ∷ l)) i
listed_placed name key x [] i = refl
listed_placed name key x (y ∷ l) i = elim (is_less (key y) (key x)) as (λ c. is_listed name (map name (if c then y ∷ placed_by key x l else x ∷ (y ∷ l))) i ≡ is_listed name (map name (x ∷ (y ∷ l))) i) [
  | true ↦ ap (λ (b : Bool). eqb (name y) (name i) || b) (listed_placed name key x l i) ∙ or_swap (eqb (name y) (name i)) (eqb (name x) (name i)) (is_listed name (map name l) i)
  | false ↦ refl
]

listed_sorted : {X : Type 0} (name : X → ℕ) (key : X → Pair) (l : List X) (i : X) → is_listed name (map name (ascending_by key l)) i ≡ is_listed name (map name l) i
listed_sorted name key [] i = refl
listed_sorted name key (x ∷ l) i = listed_placed name key x (ascending_by key l) i ∙ ap (λ (b : Bool). eqb (name x) (name i) || b) (listed_sorted name key l i)

-- no listed member has the name
unlisted : {X : Type 0} (name : X → ℕ) (test : X → Bool) (l : List X) (i : X) → AllByRecursion (λ y. name y ≢ name i) l → is_listed name (map name (filter test l)) i ≡ false
unlisted name test [] i h = refl
unlisted name test (x ∷ l) i h = let rest : is_listed name (map name (filter test l)) i ≡ false = unlisted name test l i h.1 in let ne : name x ≢ name i = h.0 in
    let t : eqb (name x) (name i) ≡ false = grind (arith, nat_tests) in
    elim (test x) as (λ c. is_listed name (map name (if c then x ∷ filter test l else filter test l)) i ≡ false) [ true ↦ rw t rest | false ↦ rest ]

listed_head : {X : Type 0} (name : X → ℕ) (test : X → Bool) (x : X) (l : List X) (i : X) → name x ≡ name i → test i ≡ test x → is_listed name (map name (filter test l)) i ≡ false → is_listed name (map name (filter test (x ∷ l))) i ≡ test i
listed_head name test x l i e same none = let t : eqb (name x) (name i) ≡ true = grind (arith, nat_tests) in
    elim (test x) as (λ c. test x ≡ c → is_listed name (map name (if c then x ∷ filter test l else filter test l)) i ≡ test i) [
      | true ↦ λ p. let q : test i ≡ true = same ∙ p in rw (t, q) refl
      | false ↦ λ p. let q : test i ≡ false = same ∙ p in none ∙ sym q
    ] refl

pub listed_filter : {X : Type 0} (name : X → ℕ) (test : X → Bool) (l : List X) (i : X) → NamesDiffer name l → IsAmong i l → is_listed name (map name (filter test l)) i ≡ test i
listed_filter name test [] i differ in' = absurd in'
listed_filter name test (x ∷ l) i differ (inl e) = listed_head name test x l i (ap name (sym e)) (ap test e) (unlisted name test l i (all_from (λ y. name y ≢ name i) l (λ y g h. all_at (λ z. name z ≢ name x) l y differ.0 g (h ∙ ap name e))))
listed_filter name test (x ∷ l) i differ (inr g) = let rest : is_listed name (map name (filter test l)) i ≡ test i = listed_filter name test l i differ.1 g in
    let ne : name i ≢ name x = all_at (λ z. name z ≢ name x) l i differ.0 g in
    let t : eqb (name x) (name i) ≡ false = grind (arith, nat_tests) in
    elim (test x) as (λ c. is_listed name (map name (if c then x ∷ filter test l else filter test l)) i ≡ test i) [ true ↦ rw t rest | false ↦ rest ]

pub need_lists : {X : Type 0} (s : Approximations X) (ms : List X) (d : X → ℕ) (k : ℕ) (i : X) → NamesDiffer s.name ms → IsAmong i ms → is_listed s.name (map s.name (need s ms d k)) i ≡ is_needed s ms d k i
need_lists s ms d k i differ in' = listed_sorted s.name (low_pair s) (filter (is_needed s ms d k) ms) i ∙ listed_filter s.name (is_needed s ms d k) ms i differ in'

-- a set with the same members is as well least
pub least_same : {X A : Type 0} (answers : (X → List ℕ) → A) (boxes : X → List Span) (ms : List X) (known same : X → Bool) (old : X → List ℕ) → ((i : X) → IsAmong i ms → same i ≡ known i) →
    IsLeast answers boxes ms known old → IsLeast answers boxes ms same old
least_same answers boxes ms known same old e l = record {
  enough = λ new g. l.enough new (record { lies = g.lies; equal = all_from (λ i. known i ≡ true → new i ≡ old i) ms (λ i h p. all_at (λ j. same j ≡ true → new j ≡ old j) ms i g.equal h (e i h ∙ p)) });
  needed = λ other determines. all_from (λ i. same i ≡ true → other i ≡ true) ms (λ i h p. all_at (λ j. known j ≡ true → other j ≡ true) ms i (l.needed other determines) h (sym (e i h) ∙ p));
}

-- The list of what is needed for the k nearest is a least set under the marks, and so is that for a radius.
pub need_least_under : {X : Type 0} (name : X → ℕ) (f : List ℕ → ℕ) (marks : List (List ℕ)) (ms : List X) (k : ℕ) (old : X → List ℕ) → AreValid marks → NamesDiffer name ms → AllVectors (length marks) ms old →
    IsLeastUnder (nearest_of name f ms k) (length marks) marks ms (is_listed name (map name (need (bounded name f (own_boxes marks old)) ms (λ i. f (old i)) k))) old
need_least_under name f marks ms k old valid differ v =
    let s = bounded name f (own_boxes marks old) in
    least_under (nearest_of name f ms k) marks ms (is_listed name (map name (need s ms (λ i. f (old i)) k))) old valid v
    (least_same (nearest_of name f ms k) (own_boxes marks old) ms (is_needed s ms (λ i. f (old i)) k) (is_listed name (map name (need s ms (λ i. f (old i)) k))) old
    (λ i in'. need_lists s ms (λ j. f (old j)) k i differ in')
    (nearest_least name f (own_boxes marks old) ms k old differ (own_lie marks ms old valid v)))

pub need_within_least_under : {X : Type 0} (name : X → ℕ) (f : List ℕ → ℕ) (marks : List (List ℕ)) (ms : List X) (radius : ℕ) (old : X → List ℕ) → AreValid marks → NamesDiffer name ms → AllVectors (length marks) ms old →
    IsLeastUnder (within_of name f ms radius) (length marks) marks ms (is_listed name (map name (need_within (bounded name f (own_boxes marks old)) ms radius))) old
need_within_least_under name f marks ms radius old valid differ v =
    let s = bounded name f (own_boxes marks old) in
    least_under (within_of name f ms radius) marks ms (is_listed name (map name (need_within s ms radius))) old valid v
    (least_same (within_of name f ms radius) (own_boxes marks old) ms (is_needed_within s radius) (is_listed name (map name (need_within s ms radius))) old
    (λ i in'. listed_filter name (is_needed_within s radius) ms i differ in')
    (within_least name f (own_boxes marks old) ms radius old differ (own_lie marks ms old valid v)))
