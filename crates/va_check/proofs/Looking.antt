-- A row is found where its id would stand.
use Rattle.std.proofs.Common.{◌≡◌, ◌⊎◌, inl, inr, ⊎_elim, ℕ, zero, suc, ◌<◌, ◌≤◌, Bool, true, false, List, [], ◌∷◌, length, get_or, Option, None, Some, eqb, ltb, if◌then◌else◌, refl, ap, sym, ◌∙◌, subst, arith}
use Rattle.std.specs.List.{AllByRecursion}
use Rattle.std.proofs.lemmas.Bool.Decides.{nat_tests}
use Rattle.va_cert.specs.Forms.{IdsAscend}
use Rattle.std.specs.Prelude.{is_some, ◌||◌}
use Rattle.va_core.specs.Boxes.{Span}
use Rattle.va_cert.specs.declared.certificate.BoxRow.{BoxRow}
use Rattle.va_cert.specs.declared.certificate.Taken.{Taken}
use Rattle.va_cert.specs.Known.{box_at, box_of, has_box, is_fetched, vector_at}
use denote.Ref.{Bor}
use Rattle.va_check.specs.Lookups.{found, lent}

all_at : {X : Type 0} (P : X → Type 0) (rows : List X) (k : ℕ) (d : X) → k < length rows → AllByRecursion P rows → P (get_or rows k d)
all_at P [] k d less all = absurd (omega (arith, less))
all_at P (x ∷ rows) zero d less all = all.0
all_at P (x ∷ rows) (suc k) d less all = all_at P rows k d (omega (arith, less)) all.1

-- an id is below each of those after it
ascends_at : {X : Type 0} (id : X → ℕ) (rows : List X) (i j : ℕ) (d : X) → IdsAscend id rows → i < j → j < length rows → id (get_or rows i d) < id (get_or rows j d)
ascends_at id [] i j d ascend less inside = absurd (omega (arith, inside))
ascends_at id (x ∷ rows) i zero d ascend less inside = absurd (omega (arith, less))
ascends_at id (x ∷ rows) zero (suc j) d ascend less inside = all_at (λ y. id x < id y) rows j d (omega (arith, inside)) ascend.0
ascends_at id (x ∷ rows) (suc i) (suc j) d ascend less inside = ascends_at id rows i j d ascend.1 (omega (arith, less)) (omega (arith, inside))

lt_true : (a b : ℕ) → a < b → ltb a b ≡ true
lt_true a b less = grind (arith, nat_tests, less)

true_lt : (a b : ℕ) → ltb a b ≡ true → a < b
true_lt a b is = grind (arith, nat_tests, is)

false_le : (a b : ℕ) → ltb a b ≡ false → b ≤ a
false_le a b is = grind (arith, nat_tests, is)

cases_le : (i j : ℕ) → i ≤ j → (i ≡ j) ⊎ (i < j)
cases_le i j le = elim (ltb i j) as (λ c. ltb i j ≡ c → (i ≡ j) ⊎ (i < j)) [
  | true ↦ λ e. inr (true_lt i j e)
  | false ↦ λ e. inl (let h : j ≤ i = false_le i j e in omega (arith, h, le))
] refl

-- the ids below a number come first
pub parted : {X : Type 0} (id : X → ℕ) (rows : List X) (n : ℕ) → IdsAscend id rows → (i j : ℕ) (d : X) → i ≤ j → j < length rows → ltb (id (get_or rows j d)) n ≡ true → ltb (id (get_or rows i d)) n ≡ true
parted {X} id rows n ascend i j d le inside is = ⊎_elim
    (λ same. subst (λ (k : ℕ). ltb (id (get_or rows k d)) n ≡ true) (sym same) is)
    (λ less. (let first = ascends_at id rows i j d ascend less inside in let next = true_lt (id (get_or rows j d)) n is in lt_true (id (get_or rows i d)) n (omega (arith, first, next))))
    (cases_le i j le)

-- what is said of the place where the rows are parted
pub record IsParted {X : Type 0} (id : X → ℕ) (rows : List X) (n at : ℕ) : Type 0 where
  pub within : at ≤ length rows
  pub below : (k : ℕ) (d : X) → 0 ≤ k → k < at → ltb (id (get_or rows k d)) n ≡ true
  pub others : (k : ℕ) (d : X) → at ≤ k → k < length rows → ltb (id (get_or rows k d)) n ≡ false

other_id : (a n : ℕ) → ltb a n ≡ true → eqb a n ≡ false
other_id a n is = grind (arith, nat_tests, is)

above_id : (a n : ℕ) → n < a → eqb a n ≡ false
above_id a n less = grind (arith, nat_tests, less)

-- none of the rows has an id that is less than all of theirs
none_above : {X : Type 0} (id : X → ℕ) (n : ℕ) (rows : List X) → AllByRecursion (λ y. n < id y) rows → found id n rows ≡ None
none_above id n [] all = refl
none_above id n (x ∷ rows) all = rw (above_id (id x) n all.0) (none_above id n rows all.1)

all_above : {X : Type 0} (id : X → ℕ) (a n : ℕ) (rows : List X) → n < a → AllByRecursion (λ y. a < id y) rows → AllByRecursion (λ y. n < id y) rows
all_above id a n [] less all = tt
all_above id a n (x ∷ rows) less all = (omega (arith, less, all.0), all_above id a n rows less all.1)

-- behind the rows with lesser ids the row is found at once, or not at all
found_there : {X : Type 0} (id : X → ℕ) (rows : List X) (n at : ℕ) (d : X) → IdsAscend id rows → IsParted id rows n at → at < length rows → found id n rows ≡ (if eqb (id (get_or rows at d)) n then Some (get_or rows at d) else None)
found_there id [] n at d ascend part less = absurd (omega (arith, less))
found_there {X} id (x ∷ rows) n zero d ascend part less = elim (eqb (id x) n) as (λ c. eqb (id x) n ≡ c → (if c then Some x else found id n rows) ≡ (if c then Some x else None)) [
  | true ↦ λ e. refl
  | false ↦ λ e. (let le : n ≤ id x = false_le (id x) n (part.others 0 d (omega arith) (omega arith)) in let above : n < id x = grind (arith, nat_tests, e, le) in none_above id n rows (all_above id (id x) n rows above ascend.0))
] refl
found_there {X} id (x ∷ rows) n (suc at) d ascend part less = rw (other_id (id x) n (part.below 0 d (omega arith) (omega arith)))
    (found_there id rows n at d ascend.1 (record {
      within = omega (arith, part.within);
      below = λ k e le less'. part.below (suc k) e (omega arith) (omega (arith, less'));
      others = λ k e le less'. part.others (suc k) e (omega (arith, le)) (omega (arith, less'));
    }) (omega (arith, less)))

-- where no row is behind them it isn't found
pub found_nowhere : {X : Type 0} (id : X → ℕ) (rows : List X) (n at : ℕ) → IsParted id rows n at → at ≡ length rows → found id n rows ≡ None
found_nowhere id [] n at part end = refl
found_nowhere {X} id (x ∷ rows) n at part end = rw (other_id (id x) n (part.below 0 x (omega arith) (omega (arith, end))))
    (found_nowhere id rows n (length rows) (record {
      within = omega arith;
      below = λ k e le less'. part.below (suc k) e (omega arith) (omega (arith, less', end));
      others = λ k e le less'. absurd (omega (arith, le, less'));
    }) refl)

module _ {X : Type 0} (id : X → ℕ) (rows : List X) (n at : ℕ) (x : X) (ascend : IdsAscend id rows) (part : IsParted id rows n at) (inside : at < length rows) (is : get_or rows at x ≡ x) where
  here : found id n rows ≡ (if eqb (id x) n then Some x else None)
  here = found_there id rows n at x ascend part inside ∙ ap (λ (y : X). if eqb (id y) n then Some y else None) is

  -- the row there has the id
  pub is_found : id x ≡ n → Some x ≡ found id n rows
  is_found same = let e : eqb (id x) n ≡ true = grind (arith, nat_tests, same) in sym (here ∙ ap (λ (c : Bool). if c then Some x else None) e)

  -- the row there has another one, and so have all
  pub is_missing : (id x ≡ n → ⊥) → None ≡ found id n rows
  is_missing other = let e : eqb (id x) n ≡ false = grind (arith, nat_tests, other) in sym (here ∙ ap (λ (c : Bool). if c then Some x else None) e)

-- what is looked up is said of the row that is found
abbrev pub box_in : Option BoxRow → List Span
box_in None = []
box_in (Some row) = box_of row

pub box_at_found : (boxes : List BoxRow) (id : ℕ) → box_at boxes id ≡ box_in (found (λ (row : BoxRow). row.id) id boxes)
box_at_found [] id = refl
box_at_found (row ∷ boxes) id = elim (eqb row.id id) as (λ c. (if c then box_of row else box_at boxes id) ≡ box_in (if c then Some row else found (λ (r : BoxRow). r.id) id boxes)) [
  | true ↦ refl
  | false ↦ box_at_found boxes id
]

pub has_box_found : (boxes : List BoxRow) (id : ℕ) → has_box boxes id ≡ is_some (found (λ (row : BoxRow). row.id) id boxes)
has_box_found [] id = refl
has_box_found (row ∷ boxes) id = elim (eqb row.id id) as (λ c. (c || has_box boxes id) ≡ is_some (if c then Some row else found (λ (r : BoxRow). r.id) id boxes)) [
  | true ↦ refl
  | false ↦ has_box_found boxes id
]

pub is_fetched_found : (fetched : List Taken) (id : ℕ) → is_fetched fetched id ≡ is_some (found (λ (taken : Taken). taken.id) id fetched)
is_fetched_found [] id = refl
is_fetched_found (taken ∷ fetched) id = elim (eqb taken.id id) as (λ c. (c || is_fetched fetched id) ≡ is_some (if c then Some taken else found (λ (t : Taken). t.id) id fetched)) [
  | true ↦ refl
  | false ↦ is_fetched_found fetched id
]

abbrev pub vector_in : Option Taken → List ℕ
vector_in None = []
vector_in (Some taken) = taken.vector

pub vector_at_found : (fetched : List Taken) (id : ℕ) → vector_at fetched id ≡ vector_in (found (λ (taken : Taken). taken.id) id fetched)
vector_at_found [] id = refl
vector_at_found (taken ∷ fetched) id = elim (eqb taken.id id) as (λ c. (if c then taken.vector else vector_at fetched id) ≡ vector_in (if c then Some taken else found (λ (t : Taken). t.id) id fetched)) [
  | true ↦ refl
  | false ↦ vector_at_found fetched id
]

-- what holds of all rows holds of the one that is found
pub found_has : {X : Type 0} (P : X → Type 0) (id : X → ℕ) (n : ℕ) (rows : List X) (x : X) → AllByRecursion P rows → Some x ≡ found id n rows → P x
found_has P id n [] x all is = cc
found_has {X} P id n (y ∷ rows) x all is = elim (eqb (id y) n) as (λ c. Some x ≡ (if c then Some y else found id n rows) → P x) [
  | true ↦ λ e. (let same : y ≡ x = cc in subst P same all.0)
  | false ↦ λ e. found_has P id n rows x all.1 e
] is

pub lent_some : {X : Type 0} (row : Option (Bor X)) → is_some row ≡ is_some (lent row)
lent_some None = refl
lent_some (Some row) = refl
