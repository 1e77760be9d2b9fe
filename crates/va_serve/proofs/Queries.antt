-- The objects of a query, one after another.
use Rattle.std.proofs.Common.{◌≡◌, ℕ, zero, suc, ◌+◌, ◌<◌, ◌≤◌, ◌&&◌, Bool, true, false, List, [], ◌∷◌, ◌++◌, length, take, drop, eqb, None, Some, refl, sym, ap, ◌∙◌, arith}
use Rattle.std.proofs.lemmas.Bool.{ne_eqb}
use Rattle.std.proofs.lemmas.Bool.Decides.{nat_tests}
use Rattle.std.proofs.lemmas.List.{drop_more, length-take-le, take_all}
use Rattle.std.proofs.lemmas.Option.{get_or_from_slice_get, slice_get_within}
use Rattle.std.proofs.Math.Seq.{take-suc}
use Rattle.std.specs.Prelude.{slice_get}
use Rattle.va_lang.specs.Command.{Query}
use Rattle.va_core.specs.Distance as distances
use Rattle.va_dist.specs.Faults.{add_fault}
use Rattle.va_model.specs.Searching.{have_length, query_fits, weights_fit, weights_of}
use Rattle.va_core.specs.Shape.{is_within}
use Rattle.va_core.proofs.Tests.{and_both}
use Rattle.va_model.proofs.Certifying.{one_for_each}

drop_get : {X : Type 0} (l : List X) (i : ℕ) (x : X) → slice_get l i ≡ Some x → drop i l ≡ x ∷ drop (i + 1) l
drop_get {X} l i x is = drop_more l i x (slice_get_within l i x is) ∙ ap (λ (y : X). y ∷ drop (i + 1) l) (get_or_from_slice_get l i x x is)

pub take_get : {X : Type 0} (l : List X) (i : ℕ) (x : X) → slice_get l i ≡ Some x → take (suc i) l ≡ take i l ++ x ∷ []
take_get {X} l i x is = take-suc l i x (slice_get_within l i x is) ∙ ap (λ (y : X). take i l ++ y ∷ []) (get_or_from_slice_get l i x x is)

lengths_next : (dims : ℕ) (objects : List (List ℕ)) (i : ℕ) (x : List ℕ) → slice_get objects i ≡ Some x → have_length dims (drop i objects) ≡ (eqb (length x) dims && have_length dims (drop (i + 1) objects))
lengths_next dims objects i x is = ap (λ (l : List (List ℕ)). have_length dims l) (drop_get objects i x is)

-- an object has the length, and the others decide; or it hasn't
pub length_right : (dims : ℕ) (objects : List (List ℕ)) (i : ℕ) (x : List ℕ) → slice_get objects i ≡ Some x → length x ≡ dims → have_length dims (drop i objects) ≡ have_length dims (drop (i + 1) objects)
length_right dims objects i x is same =
    let right : eqb (length x) dims ≡ true = grind (arith, nat_tests, same) in
    lengths_next dims objects i x is ∙ ap (λ (b : Bool). b && have_length dims (drop (i + 1) objects)) right

pub length_wrong : (dims : ℕ) (objects : List (List ℕ)) (i : ℕ) (x : List ℕ) → slice_get objects i ≡ Some x → (length x ≡ dims → ⊥) → have_length dims (drop i objects) ≡ false
length_wrong dims objects i x is other = lengths_next dims objects i x is ∙ ap (λ (b : Bool). b && have_length dims (drop (i + 1) objects)) (ne_eqb (length x) dims other)

pub length_at : (dims : ℕ) (objects : List (List ℕ)) (i : ℕ) (x : List ℕ) → have_length dims objects ≡ true → slice_get objects i ≡ Some x → length x ≡ dims
length_at dims [] i x all is = absurd (let none : i < 0 = slice_get_within [] i x is in omega (arith, none))
length_at dims (y ∷ objects) zero x all is =
    let here : eqb (length y) dims ≡ true = (and_both (eqb (length y) dims) (have_length dims objects) all).0 in
    let same : length y ≡ dims = grind (arith, nat_tests, here) in
    let first : y ≡ x = cc in
    ap length (sym first) ∙ same
length_at dims (y ∷ objects) (suc i) x all is = length_at dims objects i x (and_both (eqb (length y) dims) (have_length dims objects) all).1 is

-- the three parts of a query that fits
module _ (dims : ℕ) (query : Query) (fits : query_fits dims query ≡ true) where
  first_two : (is_within 1 16 (length query.objects) && have_length dims query.objects) ≡ true
  first_two = (and_both (is_within 1 16 (length query.objects) && have_length dims query.objects) (weights_fit dims query.weights) fits).0

  pub number_of : is_within 1 16 (length query.objects) ≡ true
  number_of = (and_both (is_within 1 16 (length query.objects)) (have_length dims query.objects) first_two).0

  pub lengths_of : have_length dims query.objects ≡ true
  lengths_of = (and_both (is_within 1 16 (length query.objects)) (have_length dims query.objects) first_two).1

pub some_objects : (n : ℕ) → is_within 1 16 n ≡ true → 1 ≤ n
some_objects n within = grind (arith, nat_tests, within)

pub few_objects : (n : ℕ) → is_within 1 16 n ≡ true → n ≤ 16
few_objects n within = grind (arith, nat_tests, within)

-- a further object is taken
pub no_fault : (query : distances.Query) (object : List ℕ) → length query.objects < 16 → length object ≡ length query.weights → add_fault query object ≡ None
no_fault query object few same =
    let below : eqb (length query.objects) 16 ≡ false = grind (arith, nat_tests, few) in
    let right : eqb (length object) (length query.weights) ≡ true = grind (arith, nat_tests, same) in
    rw (below, right) refl

pub weights_are : (dims : ℕ) (query : Query) → query_fits dims query ≡ true → length (weights_of dims query.weights) ≡ dims
weights_are dims query fits = one_for_each dims query.weights (and_both (is_within 1 16 (length query.objects) && have_length dims query.objects) (weights_fit dims query.weights) fits).1

-- one object is the first of them
pub first_object : (objects : List (List ℕ)) (x : List ℕ) → slice_get objects 0 ≡ Some x → x ∷ [] ≡ take 1 objects
first_object [] x is = cc
first_object (y ∷ objects) x is = let same : y ≡ x = cc in ap (λ (v : List ℕ). v ∷ []) (sym same)

-- the objects that were taken so far, and the weights
abbrev pub taken_so_far : ℕ → Query → ℕ → distances.Query
taken_so_far dims query i = record { objects = take i query.objects; weights = weights_of dims query.weights }

module _ (dims i : ℕ) (query : Query) {object : List ℕ} {asked : distances.Query} (is : asked ≡ taken_so_far dims query i) (next : slice_get query.objects i ≡ Some object) where
  inside : i < length query.objects
  inside = slice_get_within query.objects i object next

  -- a further object is taken, and then it is one more
  pub further_fits : query_fits dims query ≡ true → add_fault asked object ≡ None
  further_fits fits =
      let long : length (take i query.objects) ≡ i = length-take-le i query.objects (omega (arith, inside)) in
      let few : length (take i query.objects) < 16 = omega (arith, long, inside, few_objects (length query.objects) (number_of dims query fits)) in
      rw is (no_fault (taken_so_far dims query i) object few (length_at dims query.objects i object (lengths_of dims query fits) next ∙ sym (weights_are dims query fits)))

  pub further_taken : {asked' : distances.Query} → asked' ≡ record asked { objects = asked.objects ++ object ∷ [] } → asked' ≡ taken_so_far dims query (i + 1)
  further_taken added =
      let more : suc i ≡ i + 1 = omega arith in
      added ∙ ap (λ (q : distances.Query). record q { objects = q.objects ++ object ∷ [] }) is
      ∙ ap (λ (objects : List (List ℕ)). record { objects = objects; weights = weights_of dims query.weights }) (sym (take_get query.objects i object next) ∙ ap (λ (n : ℕ). take n query.objects) more)

-- all objects were taken
pub all_taken : (dims n : ℕ) (query : Query) (asked : distances.Query) → asked ≡ taken_so_far dims query n → length query.objects ≤ n → asked ≡ record { objects = query.objects; weights = weights_of dims query.weights }
all_taken dims n query asked is all = is ∙ ap (λ (objects : List (List ℕ)). record { objects = objects; weights = weights_of dims query.weights }) (take_all n query.objects all)
