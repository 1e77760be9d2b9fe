-- The least number that has an answer, and ids that live in two places.
use Rattle.std.proofs.Common.{◌≡◌, ◌⊎◌, ⊎_elim, inl, inr, ℕ, zero, suc, ◌<◌, List, [], ◌∷◌, length, map, get_or, set, Bool, true, false, if◌then◌else◌, Option, None, Some, refl, sym, ◌∙◌, ap, arith}
use Rattle.std.proofs.lemmas.Bool.{cases_eq, ne_eqb, eq-eqb}
use Rattle.std.proofs.lemmas.List.{get_or-set_same, get_or-set_other}
use Rattle.va_core.specs.Places.{Item, live_items, IdAbsent, IdsDiffer, id_of}
use Rattle.va_store.specs.Ids.{LiveOnce, LivesAt, LivesNowhere}
use Rattle.va_store.specs.Image.{first_or, first_below, is_same, same_at, same_fault, repeat_at, repeat_fault}
use Rattle.va_store.specs.declared.faults.OpenFault.TheVariants as faults
use Rattle.va_store.proofs.Indexing.{inside_of_live, spot}

none_both : {A : Type 0} (a b : Option A) → first_or a b ≡ None → (a ≡ None) × (b ≡ None)
none_both None b e = (refl, e)
none_both (Some x) b e = cc

module _ {A : Type 0} (f : ℕ → Option A) where
  pub first_none : (n : ℕ) → ((k : ℕ) → k < n → f k ≡ None) → first_below f n ≡ None
  first_none zero none = refl
  first_none (suc n) none = ap (λ (o : Option A). first_or o (f n)) (first_none n (λ k less. none k (omega (arith, less)))) ∙ none n (omega arith)

  pub first_is : (n q : ℕ) (x : A) → q < n → f q ≡ Some x → ((k : ℕ) → k < q → f k ≡ None) → first_below f n ≡ Some x
  first_is zero q x less is none = absurd (omega (arith, less))
  first_is (suc n) q x less is none = ⊎_elim
      (λ same. ap (λ (o : Option A). first_or o (f n)) (first_none n (λ k below. none k (omega (arith, below, same)))) ∙ ap f (sym same) ∙ is)
      (λ ne. ap (λ (o : Option A). first_or o (f n)) (first_is n q x (omega (arith, less, ne)) is none))
      (cases_eq q n)

  pub none_at : (n k : ℕ) → first_below f n ≡ None → k < n → f k ≡ None
  none_at zero k none less = absurd (omega (arith, less))
  none_at (suc n) k none less =
      let both = none_both (first_below f n) (f n) none in
      ⊎_elim (λ same. ap f same ∙ both.1) (λ ne. none_at n k both.0 (omega (arith, less, ne))) (cases_eq k n)

same_ids : (id : ℕ) (a b : Option ℕ) → a ≡ Some id → b ≡ Some id → is_same a b ≡ true
same_ids id a b first second = rw (first, second) (eq-eqb id id refl)

other_ids : (a b : Option ℕ) → ((id : ℕ) → a ≡ Some id → b ≡ Some id → ⊥) → is_same a b ≡ false
other_ids None b differ = refl
other_ids (Some x) None differ = refl
other_ids (Some x) (Some y) differ = ne_eqb x y (λ same. differ x refl (ap (λ (n : ℕ). Some n) (sym same)))

module _ (ids : List (Option ℕ)) where
  same_is : (q p id : ℕ) → LivesAt id p ids → LivesAt id q ids → same_at ids q p ≡ Some p
  same_is q p id first second = ap (λ (b : Bool). if b then Some p else None) (same_ids id (get_or ids p None) (get_or ids q None) first second)

  same_none : (q p : ℕ) → ((id : ℕ) → LivesAt id p ids → LivesAt id q ids → ⊥) → same_at ids q p ≡ None
  same_none q p differ = ap (λ (b : Bool). if b then Some p else None) (other_ids (get_or ids p None) (get_or ids q None) differ)

  no_fault : (q : ℕ) (o : Option ℕ) → same_fault q o ≡ None → o ≡ None
  no_fault q None e = refl
  no_fault q (Some p) e = cc

  -- the id of a place that lives in no earlier one
  pub differs : (q : ℕ) → repeat_at ids q ≡ None → (p id : ℕ) → p < q → LivesAt id p ids → LivesAt id q ids → ⊥
  differs q none p id less first second =
      let no : same_at ids q p ≡ None = none_at (same_at ids q) q p (no_fault q (first_below (same_at ids q) q) none) less in
      let yes : same_at ids q p ≡ Some p = same_is q p id first second in
      let e : None ≡ Some p = sym no ∙ yes in cc

  pub repeat_none : (q : ℕ) → ((p id : ℕ) → p < q → LivesAt id p ids → LivesAt id q ids → ⊥) → repeat_at ids q ≡ None
  repeat_none q differ = ap (same_fault q) (first_none (same_at ids q) q (λ p less. same_none q p (λ id. differ p id less)))

  pub repeat_is : (q p id : ℕ) → p < q → LivesAt id p ids → LivesAt id q ids → ((k : ℕ) → k < q → repeat_at ids k ≡ None) → repeat_at ids q ≡ Some (faults.SameId p q)
  repeat_is q p id less first second none = ap (same_fault q) (first_is (same_at ids q) q p p less (same_is q p id first second)
      (λ k below. same_none q k (λ other early late. differs p (none p less) k other below early (first ∙ sym second ∙ late))))

-- items whose ids differ
absent_lives : (places : List (Option Item)) (id p : ℕ) → IdAbsent id (live_items places) → LivesAt id p (map id_of places) → ⊥
absent_lives [] id p absent lives = cc
absent_lives (None ∷ places) id zero absent lives = cc
absent_lives (Some x ∷ places) id zero absent lives = absent.0 cc
absent_lives (None ∷ places) id (suc p) absent lives = absent_lives places id p absent lives
absent_lives (Some x ∷ places) id (suc p) absent lives = absent_lives places id p absent.1 lives

live_once : (places : List (Option Item)) (p q id : ℕ) → IdsDiffer (live_items places) → p < q → LivesAt id p (map id_of places) → LivesAt id q (map id_of places) → ⊥
live_once [] p q id differ less first second = cc
live_once (x ∷ places) p zero id differ less first second = absurd (omega (arith, less))
live_once (None ∷ places) zero (suc q) id differ less first second = cc
live_once (Some x ∷ places) zero (suc q) id differ less first second =
    let same : x.id ≡ id = cc in absent_lives places id q (rw same at differ.0) second
live_once (None ∷ places) (suc p) (suc q) id differ less first second = live_once places p q id differ (omega (arith, less)) first second
live_once (Some x ∷ places) (suc p) (suc q) id differ less first second = live_once places p q id differ.1 (omega (arith, less)) first second

-- the ids of such items live once
pub once_of_differ : (places : List (Option Item)) → IdsDiffer (live_items places) → LiveOnce (map id_of places)
once_of_differ places differ p q id first second = ⊎_elim
    (λ less. absurd (live_once places p q id differ less first second))
    (⊎_elim (λ same. same) (λ more. absurd (live_once places q p id differ (omega (arith, more.2)) second first)))
    (spot p q)

-- where each id lives once, none is found twice
pub once_repeats : (ids : List (Option ℕ)) → LiveOnce ids → repeat_fault ids ≡ None
once_repeats ids once = first_none (repeat_at ids) (length ids)
    (λ q inside. repeat_none ids q (λ p id less first second. (let same : p ≡ q = once p q id first second in omega (arith, less, same))))

-- who lives in a place once one has changed
lives_changed : (ids : List (Option ℕ)) (p : ℕ) (new : Option ℕ) (q id : ℕ) → p < length ids → LivesAt id q (set ids p new) → ((q ≡ p) × (new ≡ Some id)) ⊎ ((q ≡ p → ⊥) × LivesAt id q ids)
lives_changed ids p new q id inside lives = ⊎_elim
    (λ same. inl (same, sym (get_or-set_same ids p new None inside) ∙ ap (λ (k : ℕ). get_or (set ids p new) k None) (sym same) ∙ lives))
    (λ other. inr (other, sym (get_or-set_other ids p q new None other) ∙ lives))
    (cases_eq q p)

module _ (ids : List (Option ℕ)) (p : ℕ) (once : LiveOnce ids) (inside : p < length ids) where
  pub once_emptied : LiveOnce (set ids p None)
  once_emptied a b id first second = ⊎_elim
      (λ here. absurd (let no : None ≡ Some id = here.1 in cc))
      (λ there. ⊎_elim (λ here. absurd (let no : None ≡ Some id = here.1 in cc)) (λ too. once a b id there.1 too.1) (lives_changed ids p None b id inside second))
      (lives_changed ids p None a id inside first)

  pub once_filled : (new : ℕ) → LivesNowhere new ids → LiveOnce (set ids p (Some new))
  once_filled new nowhere a b id first second = ⊎_elim
      (λ here. ⊎_elim
      (λ too. here.0 ∙ sym too.0)
      (λ there. absurd (nowhere b (there.1 ∙ sym here.1)))
      (lives_changed ids p (Some new) b id inside second))
      (λ there. ⊎_elim
      (λ here. absurd (nowhere a (there.1 ∙ sym here.1)))
      (λ too. once a b id there.1 too.1)
      (lives_changed ids p (Some new) b id inside second))
      (lives_changed ids p (Some new) a id inside first)

pub none_repeats : (places : List (Option Item)) → IdsDiffer (live_items places) → repeat_fault (map id_of places) ≡ None
none_repeats places differ = first_none (repeat_at (map id_of places)) (length (map id_of places))
    (λ q inside. repeat_none (map id_of places) q (λ p id less. live_once places p q id differ less))

pub absent_from : (places : List (Option Item)) (id : ℕ) → LivesNowhere id (map id_of places) → IdAbsent id (live_items places)
absent_from [] id nowhere = tt
absent_from (None ∷ places) id nowhere = absent_from places id (λ q. nowhere (suc q))
absent_from (Some x ∷ places) id nowhere = (λ same. nowhere zero (ap (λ (n : ℕ). Some n) (sym same)), absent_from places id (λ q. nowhere (suc q)))

once_differ : (places : List (Option Item)) → ((p q id : ℕ) → p < q → LivesAt id p (map id_of places) → LivesAt id q (map id_of places) → ⊥) → IdsDiffer (live_items places)
once_differ [] once = tt
once_differ (None ∷ places) once = once_differ places (λ p q id less. once (suc p) (suc q) id (omega (arith, less)))
once_differ (Some x ∷ places) once =
    (absent_from places x.id (λ q. once zero (suc q) x.id (omega arith) refl), once_differ places (λ p q id less. once (suc p) (suc q) id (omega (arith, less))))

-- where no id is found twice, the ids differ
pub differ_found : (places : List (Option Item)) → repeat_fault (map id_of places) ≡ None → IdsDiffer (live_items places)
differ_found places none = let ids = map id_of places in once_differ places
    (λ p q id less first second. differs ids q (none_at (repeat_at ids) (length ids) q none (inside_of_live ids q id second)) p id less first second)
