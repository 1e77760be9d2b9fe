-- How ids and free places are found, and how they agree with the places that they stand for.
use Rattle.std.proofs.Common.{◌≡◌, ◌↔◌, ⊎_elim, ℕ, zero, suc, ◌+◌, ◌≤◌, ◌<◌, ◌||◌, List, [], ◌∷◌, length, map, get_or, Bool, true, false, eqb, if◌then◌else◌, Option, None, Some, IfSome, is_some, replicate, refl, sym, ◌∙◌, ap, arith}
use Rattle.std.proofs.lemmas.Bool.{cases_order}
use Rattle.std.proofs.lemmas.Bool.Decides.{nat_tests}
use Rattle.va_core.specs.Places.{Item, first_empty, is_live, place_of, id_of}
use Rattle.va_store.specs.Known.{first_free, is_live_id, place_of_id}
use Rattle.va_store.specs.Ids.{LivesNowhere, IsFirstFree, IsFree, LivesAt}
use Rattle.va_store.proofs.Indexing.{inside_of_live, some_same}

next_is : (n : ℕ) → n + 1 ≡ suc n
next_is n = omega arith

get_next : {A : Type 0} (x : A) (list : List A) (n : ℕ) (other : A) → get_or (x ∷ list) (n + 1) other ≡ get_or list n other
get_next x list n other = ap (λ (k : ℕ). get_or (x ∷ list) k other) (next_is n)

lives_if : (id x : ℕ) (ids : List (Option ℕ)) (same : Bool) → eqb x id ≡ same → same || is_live_id id ids ≡ true → (is_live_id id ids ≡ true → LivesAt id (place_of_id id ids) ids)
    → get_or (Some x ∷ ids) (if same then 0 else place_of_id id ids + 1) None ≡ Some id
lives_if id x ids true is test behind = let e : x ≡ id = grind (arith, nat_tests, is) in ap Some e
lives_if id x ids false is test behind = get_next {A = Option ℕ} (Some x) ids (place_of_id id ids) None ∙ behind test

-- an id that is live lives in its place
pub lives_there : (id : ℕ) (ids : List (Option ℕ)) → is_live_id id ids ≡ true → LivesAt id (place_of_id id ids) ids
lives_there id [] test = cc
lives_there id (None ∷ ids) test = get_next {A = Option ℕ} None ids (place_of_id id ids) None ∙ lives_there id ids test
lives_there id (Some x ∷ ids) test = lives_if id x ids (eqb x id) refl test (lives_there id ids)

same_first : (id x : ℕ) (rest : Bool) (same : Bool) → eqb x id ≡ same → x ≡ id → same || rest ≡ true
same_first id x rest true is e = refl
same_first id x rest false is e = absurd (grind (arith, nat_tests, is, e))

or_behind : (same rest : Bool) → rest ≡ true → same || rest ≡ true
or_behind true rest test = refl
or_behind false rest test = test

-- an id that lives somewhere is live
pub live_if : (id place : ℕ) (ids : List (Option ℕ)) → LivesAt id place ids → is_live_id id ids ≡ true
live_if id place [] lives = cc
live_if id zero (None ∷ ids) lives = cc
live_if id (suc place) (None ∷ ids) lives = live_if id place ids lives
live_if id zero (Some x ∷ ids) lives = same_first id x (is_live_id id ids) (eqb x id) refl (some_same x id lives)
live_if id (suc place) (Some x ∷ ids) lives = or_behind (eqb x id) (is_live_id id ids) (live_if id place ids lives)

not_live : (id : ℕ) (ids : List (Option ℕ)) (live : Bool) → is_live_id id ids ≡ live → LivesNowhere id ids → false ≡ live
not_live id ids true test absent = absurd (absent (place_of_id id ids) (lives_there id ids test))
not_live id ids false test absent = refl

-- a search by place, in the words of the two tests
pub found_live : (id : ℕ) (ids : List (Option ℕ)) (result : Option ℕ) → ((place : ℕ) → (result ≡ Some place) ↔ LivesAt id place ids) → is_some result ≡ is_live_id id ids
found_live id ids None exact = not_live id ids (is_live_id id ids) refl (λ place lives. let e = (exact place).1 lives in cc)
found_live id ids (Some p) exact = sym (live_if id p ids ((exact p).0 refl))

pub found_place : (id : ℕ) (ids : List (Option ℕ)) (capacity : ℕ) (result : Option ℕ) → length ids ≡ capacity → ((place : ℕ) → (result ≡ Some place) ↔ LivesAt id place ids)
    → IfSome result (λ p. (p ≡ place_of_id id ids) × (p < capacity))
found_place id ids capacity None all exact = tt
found_place id ids capacity (Some p) all exact =
    let lives : LivesAt id p ids = (exact p).0 refl in
    (some_same p (place_of_id id ids) ((exact (place_of_id id ids)).1 (lives_there id ids (live_if id p ids lives))), omega (arith, all, inside_of_live ids p id lives))

-- the free places behind the first
free_behind : (p h : ℕ) (x : Option ℕ) (ids : List (Option ℕ)) (held : List ℕ) → IsFree p ids held → IsFree (p + 1) (x ∷ ids) (h ∷ held)
free_behind p h x ids held free = record { inside = omega (arith, free.inside); empty = get_next {A = Option ℕ} x ids p None ∙ free.empty; unheld = get_next {A = ℕ} h held p 0 ∙ free.unheld }

free_ahead : (p h : ℕ) (x : Option ℕ) (ids : List (Option ℕ)) (held : List ℕ) → IsFree (suc p) (x ∷ ids) (h ∷ held) → IsFree p ids held
free_ahead p h x ids held free = record { inside = omega (arith, free.inside); empty = free.empty; unheld = free.unheld }

free_ahead_unheld : (p : ℕ) (x : Option ℕ) (ids : List (Option ℕ)) → IsFree (suc p) (x ∷ ids) [] → IsFree p ids []
free_ahead_unheld p x ids free = record { inside = omega (arith, free.inside); empty = free.empty; unheld = refl }

most_free : (ids : List (Option ℕ)) (held : List ℕ) → first_free ids held ≤ length ids
most_free [] held = omega arith
most_free (None ∷ ids) [] = omega arith
most_free (None ∷ ids) (zero ∷ held) = omega arith
most_free (None ∷ ids) (suc h ∷ held) = omega (arith, most_free ids held)
most_free (Some x ∷ ids) [] = omega (arith, most_free ids [])
most_free (Some x ∷ ids) (h ∷ held) = omega (arith, most_free ids held)

-- the least free place is free
free_there : (ids : List (Option ℕ)) (held : List ℕ) → first_free ids held < length ids → IsFree (first_free ids held) ids held
free_there [] held inside = absurd (omega (arith, inside))
free_there (None ∷ ids) [] inside = record { inside = inside; empty = refl; unheld = refl }
free_there (None ∷ ids) (zero ∷ held) inside = record { inside = inside; empty = refl; unheld = refl }
free_there (None ∷ ids) (suc h ∷ held) inside = free_behind (first_free ids held) (suc h) None ids held (free_there ids held (omega (arith, inside)))
free_there (Some x ∷ ids) [] inside = let behind = free_there ids [] (omega (arith, inside)) in record { inside = inside; empty = get_next {A = Option ℕ} (Some x) ids (first_free ids []) None ∙ behind.empty; unheld = behind.unheld }
free_there (Some x ∷ ids) (h ∷ held) inside = free_behind (first_free ids held) h (Some x) ids held (free_there ids held (omega (arith, inside)))

-- and no lesser place is
none_before : (ids : List (Option ℕ)) (held : List ℕ) (p : ℕ) → p < first_free ids held → IsFree p ids held → ⊥
none_before [] held p less free = omega (arith, less)
none_before (None ∷ ids) [] p less free = omega (arith, less)
none_before (None ∷ ids) (zero ∷ held) p less free = omega (arith, less)
none_before (None ∷ ids) (suc h ∷ held) zero less free = omega (arith, free.unheld)
none_before (None ∷ ids) (suc h ∷ held) (suc p) less free = none_before ids held p (omega (arith, less)) (free_ahead p (suc h) None ids held free)
none_before (Some x ∷ ids) [] zero less free = let e : Some x ≡ None = free.empty in cc
none_before (Some x ∷ ids) [] (suc p) less free = none_before ids [] p (omega (arith, less)) (free_ahead_unheld p (Some x) ids free)
none_before (Some x ∷ ids) (h ∷ held) zero less free = let e : Some x ≡ None = free.empty in cc
none_before (Some x ∷ ids) (h ∷ held) (suc p) less free = none_before ids held p (omega (arith, less)) (free_ahead p h (Some x) ids held free)

-- a search for the least free place, in the words of the list
pub found_free : (ids : List (Option ℕ)) (held : List ℕ) (capacity : ℕ) (result : Option ℕ) → length ids ≡ capacity → IsFirstFree ids held result
    → IfSome result (λ p. (p ≡ first_free ids held) × (p < capacity) × (get_or ids p None ≡ None) × (get_or held p 0 ≡ 0))
found_free ids held capacity None all none = tt
found_free ids held capacity (Some p) all first = (
  ⊎_elim (λ same. same)
      (λ order. ⊎_elim
      (λ less. absurd (none_before ids held p less first.0))
      (λ more. absurd (first.1 (first_free ids held) more (free_there ids held (omega (arith, more, first.0.inside))))) order)
      (cases_order p (first_free ids held)),
  omega (arith, all, first.0.inside),
  first.0.empty,
  first.0.unheld,
)

pub found_full : (ids : List (Option ℕ)) (held : List ℕ) (result : Option ℕ) → IsFirstFree ids held result → result ≡ None → first_free ids held ≡ length ids
found_full ids held (Some p) first is = cc
found_full ids held None none is = ⊎_elim (λ same. same)
    (λ order. ⊎_elim
    (λ less. absurd (none (first_free ids held) (free_there ids held less)))
    (λ more. absurd (omega (arith, more, most_free ids held))) order)
    (cases_order (first_free ids held) (length ids))

-- ids stand for places: where nothing is held, the least free place is the least that is empty
first_of_places : (places : List (Option Item)) (held : List ℕ) → ((p : ℕ) → get_or held p 0 ≡ 0) → first_free (map id_of places) held ≡ first_empty places
first_of_places [] held none = refl
first_of_places (None ∷ places) [] none = refl
first_of_places (None ∷ places) (zero ∷ held) none = refl
first_of_places (None ∷ places) (suc h ∷ held) none = absurd (omega (arith, none 0))
first_of_places (Some x ∷ places) [] none = ap (λ (n : ℕ). n + 1) (first_of_places places [] none)
first_of_places (Some x ∷ places) (h ∷ held) none = ap (λ (n : ℕ). n + 1) (first_of_places places held (λ p. none (suc p)))

nothing_held : (capacity p : ℕ) → ◌≡◌ {A = ℕ} (get_or (replicate capacity 0) p 0) 0
nothing_held zero p = refl
nothing_held (suc capacity) zero = refl
nothing_held (suc capacity) (suc p) = nothing_held capacity p

pub first_of_unheld : (places : List (Option Item)) (capacity : ℕ) → first_free (map id_of places) (replicate capacity 0) ≡ first_empty places
first_of_unheld places capacity = first_of_places places (replicate capacity 0) (nothing_held capacity)

pub live_of_places : (id : ℕ) (places : List (Option Item)) → is_live_id id (map id_of places) ≡ is_live id places
live_of_places id [] = refl
live_of_places id (None ∷ places) = live_of_places id places
live_of_places id (Some x ∷ places) = ap (λ (b : Bool). eqb x.id id || b) (live_of_places id places)

pub place_of_places : (id : ℕ) (places : List (Option Item)) → place_of_id id (map id_of places) ≡ place_of id places
place_of_places id [] = refl
place_of_places id (None ∷ places) = ap (λ (n : ℕ). n + 1) (place_of_places id places)
place_of_places id (Some x ∷ places) = ap (λ (n : ℕ). if eqb x.id id then 0 else n + 1) (place_of_places id places)
